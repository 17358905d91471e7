use Rattle.std.proofs.Common.{◌∙◌, ◌<◌, ◌+◌, ◌*◌, ℕ, arith, bit_and, get_or, length, sym}
use Rattle.granule_rows.specs.Counts.{is_both}
use Rattle.granule_rows.proofs.CountLaws.{count-grows, count-none, count-word, is_both-word, place_in_word, word_fits}
use Rattle.granule_rows.proofs.count.place_of_both.Goals as goal

pub loop-w-init : goal.loop-w-init
loop-w-init c = omega (arith, count-none (is_both c.args.row.now c.args.other.now))

pub loop-w-preserved : goal.loop-w-preserved
loop-w-preserved c =
    let row = c.args.row.now in
    let other = c.args.other.now in
    let w : ℕ = c.loop-w.w in
    let more = count-word (is_both row other) (bit_and (get_or row w 0) (get_or other w 0)) w (word_fits row other w (c.type_inv.row w)) (is_both-word row other w) in
    omega (arith, c.loop-w.invariant, more, c.if-left-ones.false)

pub returns-then-left-ones-clause-before : goal.returns-then-left-ones-clause-before
returns-then-left-ones-clause-before c = λ there.
    place_in_word c.args.row.now c.args.other.now c.loop-w.w c.args.n c.loop-w.left c.place_of_one.result c.loop-w.invariant c.place_of_one.ensures.within c.place_of_one.ensures.before

-- This word has more than are left, so there are more than n.
pub returns-then-left-ones-clause-past : goal.returns-then-left-ones-clause-past
returns-then-left-ones-clause-past c = λ all.
    let row = c.args.row.now in
    let other = c.args.other.now in
    let w : ℕ = c.loop-w.w in
    let more = count-word (is_both row other) (bit_and (get_or row w 0) (get_or other w 0)) w (word_fits row other w (c.type_inv.row w)) (is_both-word row other w) in
    let inside : w < length row = omega arith in
    let grows = count-grows (is_both row other) (64 * (w + 1)) (64 * length row) (omega (arith, inside)) in
    absurd (omega (arith, c.loop-w.invariant, more, grows, all))

pub returns-then-left-ones-clause-one : goal.returns-then-left-ones-clause-one
returns-then-left-ones-clause-one c = λ inside. sym (is_both-word c.args.row.now c.args.other.now c.loop-w.w c.place_of_one.result c.place_of_one.ensures.within) ∙ c.place_of_one.ensures.one
