use Rattle.std.proofs.Common.{◌≡◌, ◌∙◌, ◌*◌, ◌&&◌, not, Bool, ℕ, ap, sym, subst, arith, get_or}
use Rattle.granule_rows.proofs.RangeLaws.{AreMade, AreMade-more, AreMade-words, in_words, kept_by, out_before, out_behind}
use Rattle.granule_rows.specs.Runs.{is_within}
use Rattle.tag_memory.specs.Laws.{is_set-cleared}
use Rattle.tag_memory.specs.Tags.{is_set, is_set_for}
use Rattle.granule_rows.proofs.ranges.clear_words.Goals as goal

pub loop-w-preserved : goal.loop-w-preserved
loop-w-preserved c =
    AreMade-more _ c.loop-w.words _ _ c.loop-w.w _ c.loop-w.invariant (omega arith) (omega (arith, c.requires.within))
    (λ j lt. is_set-cleared _ _ j (omega (arith, c.items_fit2 c.loop-w.w)) lt
    ∙ ap (λ (b : Bool). is_set (get_or c.loop-w.words c.loop-w.w 0) j && not b) (sym (in_words c.args.other.now c.args.first c.args.end c.loop-w.w j (omega arith) (omega arith) lt)))

pub returns : goal.returns
returns c =
    let make : ℕ → Bool → Bool = λ k b. b && not (is_within (64 * c.args.first) (64 * c.args.end) k && is_set_for c.args.other.now k) in
    let e : c.loop-w.w ≡ c.args.end = omega (arith, c.requires.order) in
    AreMade-words make c.loop-w.words c.args.words.now c.args.first c.args.end
    (subst (λ (to : ℕ). AreMade make c.loop-w.words c.args.words.now c.args.first to) e c.loop-w.invariant)
    (λ k b lt. kept_by b _ (out_before (is_set_for c.args.other.now k) c.args.first c.args.end k lt))
    (λ k b le. kept_by b _ (out_behind (is_set_for c.args.other.now k) c.args.first c.args.end k le))
