use Rattle.std.proofs.Common.{◌≡◌, ◌∙◌, ◌*◌, ◌&&◌, ◌||◌, Bool, ℕ, ap, sym, subst, arith, get_or}
use Rattle.granule_rows.proofs.RangeLaws.{AreMade, AreMade-more, AreMade-words, in_words, out_before, out_behind}
use Rattle.granule_rows.specs.Runs.{is_within}
use Rattle.tag_memory.specs.Laws.{is_set-with}
use Rattle.tag_memory.specs.Tags.{is_set, is_set_for}
use Rattle.granule_rows.proofs.ranges.add_words.Goals as goal

pub loop-w-preserved : goal.loop-w-preserved
loop-w-preserved c =
    let w = c.loop-w.w in
    AreMade-more _ c.loop-w.words _ _ w _ c.loop-w.invariant (omega arith) (omega (arith, c.requires.within))
    (λ j lt. is_set-with _ _ j
    ∙ ap (λ (b : Bool). b || is_set (get_or c.loop-w.words c.loop-w.w 0) j) (sym (in_words c.args.other.now c.args.first c.args.end c.loop-w.w j (omega arith) (omega arith) lt)))

pub returns-clause-bits : goal.returns-clause-bits
returns-clause-bits c =
    let make : ℕ → Bool → Bool = λ k b. (is_within (64 * c.args.first) (64 * c.args.end) k && is_set_for c.args.other.now k) || b in
    let e : c.loop-w.w ≡ c.args.end = omega (arith, c.requires.order) in
    AreMade-words make c.loop-w.words c.args.words.now c.args.first c.args.end
    (subst (λ (to : ℕ). AreMade make c.loop-w.words c.args.words.now c.args.first to) e c.loop-w.invariant)
    (λ k b lt. ap (λ (t : Bool). t || b) (out_before (is_set_for c.args.other.now k) c.args.first c.args.end k lt))
    (λ k b le. ap (λ (t : Bool). t || b) (out_behind (is_set_for c.args.other.now k) c.args.first c.args.end k le))

pub returns-clause-rest : goal.returns-clause-rest
returns-clause-rest c = λ w out. c.loop-w.invariant.rest w (λ from. omega (arith, out from, c.requires.order))
