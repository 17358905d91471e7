use Rattle.std.proofs.Common.{false, inl, inr, arith}
use Rattle.std.proofs.lemmas.Bool.{cases_lt}
use Rattle.std.proofs.lemmas.List.Elements.{All-from_get_or}
use Rattle.tag_memory.specs.Tags.{is_tagged}
use Rattle.heap_machine.specs.Making.{HasGuardedAt}
use Rattle.machine_steps.specs.Safety.{HoldsGuarded}
use Rattle.heap_machine.proofs.TaggedLaws.{HasGuardedAt-read, HasGuardedAt-untagged, holds-before, holds-through, not_HasGuardedAt-read}
use Rattle.heap_machine.proofs.machine.making.first_unguarded_granule.Goals as goal

pub returns-then-not-is_guarded : goal.returns-then-not-is_guarded
returns-then-not-is_guarded c =
    let heap = c.args.heap.now in
    let memory = c.args.memory.now in
    let i = c.in-Some.i in
    let found = c.in-Some.ensures in (
      omega (arith, found.1, c.granules-end.ensures),
      record {
        lacks = not_HasGuardedAt-read heap memory i c.cell-bits.result c.cell-bits.ensures (c.is_guarded.ensures.no c.if-not-is_guarded.true);
        before = holds-before (HasGuardedAt heap memory) (is_tagged memory.granules) (HasGuardedAt-untagged heap memory) c.loop-i.from i c.loop-i.invariant found.3;
      },
    )

pub loop-i-preserved : goal.loop-i-preserved
loop-i-preserved c =
    let heap = c.args.heap.now in
    let memory = c.args.memory.now in
    let i = c.in-Some.i in
    let here = HasGuardedAt-read heap memory i c.cell-bits.result c.cell-bits.ensures (c.is_guarded.ensures.yes c.if-not-is_guarded.false) in
    holds-through (HasGuardedAt heap memory) (is_tagged memory.granules) (HasGuardedAt-untagged heap memory) c.loop-i.from i c.loop-i.invariant c.in-Some.ensures.3 here _ (omega arith)

pub returns : goal.returns
returns c =
    let heap = c.args.heap.now in
    let memory = c.args.memory.now in
    All-from_get_or (HoldsGuarded heap) memory.granules (0, false) (λ k within. elim (cases_lt k c.loop-i.from) [
      | inl lt ↦ c.loop-i.invariant k lt
      | inr le ↦ HasGuardedAt-untagged heap memory k (c.in_default.ensures k le (omega (arith, within, c.granules-end.ensures)))
    ])
