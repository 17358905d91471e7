use Rattle.std.proofs.Common.{◌∙◌, ℕ, Bool, sym, arith}
use Rattle.heap_model.specs.Heap.{due}
use Rattle.heap_model.specs.Sweep.{takes_tag}
use Rattle.tag_memory.specs.Cells.{register_at}
use Rattle.heap_model.specs.BelowLaws.{AreBelow-kept, AreBelow-set}
use Rattle.heap_core.proofs.registers.due_registers.Goals as goal
use Rattle.heap_core.proofs.registers.due_registers.Goals.{else-is_register_due, then-is_register_due}

pub loop-r-preserved : goal.loop-r-preserved
loop-r-preserved c =
    let test : ℕ → Bool = λ r. takes_tag (due c.args.heap.now) (register_at c.args.registers.now r) in
    let before = c.loop-r.invariant in
    elim c.if-is_register_due.branch [
      | then-is_register_due w ↦
          rw w.mask-is (AreBelow-set test c.loop-r.mask c.loop-r.r before (omega (arith, c.loop-r-test.true)) (sym c.is_register_due.ensures ∙ w.if-is_register_due.true))
      | else-is_register_due w ↦
          rw w.mask-is (AreBelow-kept test c.loop-r.mask c.loop-r.r before (sym c.is_register_due.ensures ∙ w.if-is_register_due.false))
    ]

pub returns : goal.returns
returns c =
    λ r lt. c.loop-r.invariant.done r (omega (arith, c.loop-r-test.false, lt))
