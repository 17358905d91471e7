use Rattle.std.proofs.Common.{◌∙◌, ℕ, Bool, sym, arith}
use Rattle.sweep_masks.specs.Laws.{is_hit-takes_tag}
use Rattle.sweep_masks.specs.Masks.{is_hit}
use Rattle.tag_memory.specs.Cells.{register_at}
use Rattle.heap_model.specs.BelowLaws.{AreBelow-kept, AreBelow-set}
use Rattle.sweep_masks.proofs.sweep.swept_registers.Goals as goal
use Rattle.sweep_masks.proofs.sweep.swept_registers.Goals.{else-is_register_hit, then-is_register_hit}

pub loop-r-preserved : goal.loop-r-preserved
loop-r-preserved c =
    let test : ℕ → Bool = λ r. is_hit c.args.shadow.now c.args.base (register_at c.args.registers.now r) in
    let before = c.loop-r.invariant in
    elim c.if-is_register_hit.branch [
      | then-is_register_hit w ↦
          rw w.mask-is (AreBelow-set test c.loop-r.mask c.loop-r.r before (omega (arith, c.loop-r-test.true)) (sym c.is_register_hit.ensures ∙ w.if-is_register_hit.true))
      | else-is_register_hit w ↦
          rw w.mask-is (AreBelow-kept test c.loop-r.mask c.loop-r.r before (sym c.is_register_hit.ensures ∙ w.if-is_register_hit.false))
    ]

pub returns-clause-due : goal.returns-clause-due
returns-clause-due c heap of r lt =
    c.loop-r.invariant.done r (omega (arith, c.loop-r-test.false, lt)) ∙ is_hit-takes_tag heap c.args.base c.args.shadow.now (register_at c.args.registers.now r) of
