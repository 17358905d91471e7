use Rattle.std.proofs.Common.{◌∙◌, ◌+◌, ◌*◌, ◌==◌, List, get_or, length, refl, ap, arith}
use Rattle.tag_memory.specs.Cells.{Cell, register_at}
use Rattle.state_bytes.proofs.ReadLaws.{length-registers_with, registers_all, registers_more}
use Rattle.state_bytes.proofs.ReplayLaws.{from_place}
use Rattle.state_bytes.proofs.words.read_registers.Goals as goal

pub loop-r-init : goal.loop-r-init
loop-r-init c = (ap (λ (xs : List Cell). length xs) c.new-registers.ensures ∙ refl, λ m e text start k lt. absurd (omega (arith, lt)))

pub loop-r-preserved : goal.loop-r-preserved
loop-r-preserved c = (
  ap (λ (xs : List Cell). length xs) c.set.ensures ∙ (length-registers_with c.loop-r.registers c.loop-r.r _ ∙ c.loop-r.invariant.0),
  λ m e text start k less.
      ap (λ (xs : List Cell). register_at xs k) c.set.ensures
      ∙ registers_more m c.args.bytes.now c.loop-r.registers c.loop-r.r c.args.start c.read_u128-bits.result (get_or c.args.bytes.now (c.args.start + 17 * c.loop-r.r + 16) 0 == 1) e.invariant text
      c.loop-r-test.true c.loop-r.invariant.0 start (from_place 16 (c.args.start + 17 * c.loop-r.r) (c.args.start + 17 * c.loop-r.r) c.args.bytes.now c.read_u128-bits.result c.read_u128-bits.ensures refl) refl
      (c.loop-r.invariant.1 m e text start) k less,
)

pub returns-clause-all : goal.returns-clause-all
returns-clause-all c m e text start =
    registers_all m c.loop-r.registers e.invariant c.invariant.ensures (λ k lt. c.loop-r.invariant.1 m e text start k (omega (arith, lt, c.loop-r-test.false)))
