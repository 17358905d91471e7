use Rattle.std.proofs.Common.{◌≡◌, ◌∙◌, ◌<◌, ◌≤◌, ◌+◌, ◌-◌, ◌/◌, inr, length, sym, arith}
use Rattle.std.proofs.lemmas.Bool.{le-ltb}
use Rattle.heap_model.specs.Heap.{IsSound}
use Rattle.heap_core.specs.Table.{is_marked}
use Rattle.heap_model.specs.Laws.{lies_in-outside}
use Rattle.heap_core.proofs.KeptLaws.{lies_in-blocks_of}
use Rattle.heap_core.proofs.ShadowLaws.{due-heap_state}
use Rattle.heap_core.proofs.SoundLaws.{IsSound-from_table}
use Rattle.heap_core.proofs.heap.Heap.is_granule_due.Goals as goal

pub returns-then-granule-granules : goal.returns-then-granule-granules
returns-then-granule-granules c =
    let h = c.self.inside in
    let table = c.self.invariant.table in
    let inside : c.args.granule < length h.table.lengths = omega (arith, c.if-granule-granules.true, c.granules.ensures) in
    λ address from place.
    let above : h.base ≤ address = rw (← c.self.view_is) at from in
    let there : (address - h.base) / 16 ≡ c.args.granule = rw (← c.self.view_is) at place in
    rw (← c.self.view_is, due-heap_state) (c.is_in_due_block.ensures
    ∙ sym (lies_in-blocks_of is_marked h.base address c.args.granule h.table.lengths h.table.marks table.same (omega (arith, above, there)) (omega (arith, above, there)) inside))

pub returns-else-granule-granules : goal.returns-else-granule-granules
returns-else-granule-granules c =
    let sound : IsSound c.args.self.now = rw (← c.self.view_is) (IsSound-from_table c.self.invariant.table c.self.invariant.lates) in
    λ address from place.
    let there : (address - c.self.inside.base) / 16 ≡ c.args.granule = rw (← c.self.view_is) at place in
    let below : c.self.inside.base ≤ address = rw (← c.self.view_is) at from in
    let above : c.args.self.now.base + c.args.self.now.size ≤ address = rw (← c.self.view_is) (omega (arith, below, there, c.if-granule-granules.false, c.granules.ensures)) in
    le-ltb c.args.granule c.granules.result (omega (arith, c.if-granule-granules.false)) ∙ sym (lies_in-outside c.args.self.now address sound (inr above))
