use Rattle.std.proofs.Common.{◌+◌, ◌*◌, ℕ, arith, bit_and, get_or, sym}
use Rattle.granule_rows.specs.Counts.{is_both}
use Rattle.granule_rows.proofs.CountLaws.{count-le, count-none, count-word, is_both-word, word_fits}
use Rattle.granule_rows.proofs.count.count_both.Goals as goal

pub loop-w-init : goal.loop-w-init
loop-w-init c = sym (count-none (is_both c.args.row.now c.args.other.now))

pub loop-w-preserved : goal.loop-w-preserved
loop-w-preserved c =
    let row = c.args.row.now in
    let other = c.args.other.now in
    let w : ℕ = c.loop-w.w in
    let more = count-word (is_both row other) (bit_and (get_or row w 0) (get_or other w 0)) w (word_fits row other w (c.type_inv.row w)) (is_both-word row other w) in
    omega (arith, c.loop-w.invariant, more)

pub overflow_add-count : goal.overflow_add-count
overflow_add-count c =
    let row = c.args.row.now in
    let other = c.args.other.now in
    let w : ℕ = c.loop-w.w in
    let more = count-word (is_both row other) (bit_and (get_or row w 0) (get_or other w 0)) w (word_fits row other w (c.type_inv.row w)) (is_both-word row other w) in
    record { fits = omega (arith, c.loop-w.invariant, more, count-le (is_both row other) (64 * (w + 1)), c.loop-w-test.true, c.requires.limit) }
