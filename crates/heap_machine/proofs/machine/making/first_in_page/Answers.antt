use Rattle.std.proofs.Common.{◌≡◌, ◌/◌, ◌∙◌, ℕ, sym, arith}
use Rattle.tag_memory.specs.Tags.{is_tagged}
use Rattle.heap_machine.specs.Making.{StandsDirty}
use Rattle.heap_machine.proofs.TaggedLaws.{StandsDirty-elsewhere, StandsDirty-untagged, holds-before, holds-through, not_StandsDirty-painted}
use Rattle.heap_machine.proofs.machine.making.first_in_page.Goals as goal

pub returns-then-is_painted : goal.returns-then-is_painted
returns-then-is_painted c =
    let heap = c.args.heap.now in
    let memory = c.args.memory.now in
    let page = c.args.page in
    let i = c.in-Some.i in
    let found = c.in-Some.ensures in
    let there : i / 256 ≡ page = omega (arith, found.0, found.1, c.loop-i.invariant.start) in
    let P : ℕ → Type 0 = λ k. k / 256 ≡ page → StandsDirty heap memory k in (
      there,
      not_StandsDirty-painted heap memory i page c.cell-bits.result c.cell-bits.ensures found.2 (sym c.is_painted.ensures ∙ c.if-is_painted.true) there (sym c.dirty.ensures ∙ c.if-dirty.false),
      holds-before P (is_tagged memory.granules) (λ k none _. StandsDirty-untagged heap memory k none) c.loop-i.next i c.loop-i.invariant.done found.3,
    )

pub loop-i-preserved : goal.loop-i-preserved
loop-i-preserved c =
    let heap = c.args.heap.now in
    let memory = c.args.memory.now in
    let page = c.args.page in
    let i = c.in-Some.i in
    let found = c.in-Some.ensures in
    let P : ℕ → Type 0 = λ k. k / 256 ≡ page → StandsDirty heap memory k in
    let here = StandsDirty-elsewhere heap memory i c.cell-bits.result c.cell-bits.ensures (sym c.is_painted.ensures ∙ c.if-is_painted.false) in
    record {
      start = omega (arith, found.0, c.loop-i.invariant.start);
      done = holds-through P (is_tagged memory.granules) (λ k none _. StandsDirty-untagged heap memory k none) c.loop-i.next i c.loop-i.invariant.done found.3 (λ _. here) _ (omega arith);
    }
