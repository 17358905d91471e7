use Rattle.std.proofs.Common.{◌+◌, ◌*◌, inl, inr, subst, ℕ, arith}
use Rattle.std.proofs.lemmas.Bool.{cases_lt, or_parts}
use Rattle.sweep_masks.specs.Outside.{HasBaseOutside}
use Rattle.sweep_masks.proofs.sweep.has_base_between.Goals as goal

pub loop-j-preserved : goal.loop-j-preserved
loop-j-preserved c = λ none k lt.
    let parts = or_parts _ _ none in
    elim (cases_lt k c.loop-j.j) [
      | inl before ↦ c.loop-j.invariant parts.0 k before
      | inr last ↦ subst (λ (i : ℕ). HasBaseOutside c.args.memory.now c.args.first c.args.end (64 * c.args.w + i)) (omega (arith, last, lt)) (c.is_base_between-is_between.ensures parts.1)
    ]
