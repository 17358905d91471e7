use Rattle.std.proofs.Common.{◌∙◌, ◌<◌, ◌≤◌, ◌+◌, ◌-◌, ◌/◌, inl, inr, length, sym, arith}
use Rattle.heap_model.specs.Heap.{IsSound}
use Rattle.heap_core.specs.Table.{is_marked}
use Rattle.heap_model.specs.Laws.{lies_in-outside}
use Rattle.heap_core.proofs.KeptLaws.{lies_in-blocks_of}
use Rattle.heap_core.proofs.ShadowLaws.{due-heap_state}
use Rattle.heap_core.proofs.SoundLaws.{IsSound-from_table}
use Rattle.heap_core.proofs.heap.Heap.is_due.Goals as goal

pub returns-then-address-self : goal.returns-then-address-self
returns-then-address-self c =
    let sound : IsSound c.args.self.now = rw (← c.self.view_is) (IsSound-from_table c.self.invariant.table c.self.invariant.lates) in
    let below : c.args.address < c.args.self.now.base = rw (← c.self.view_is) (omega (arith, c.if-address-self.true)) in
    sym (lies_in-outside c.args.self.now c.args.address sound (inl below))

pub returns-then-granule-granules : goal.returns-then-granule-granules
returns-then-granule-granules c =
    let sound : IsSound c.args.self.now = rw (← c.self.view_is) (IsSound-from_table c.self.invariant.table c.self.invariant.lates) in
    let above : c.args.self.now.base + c.args.self.now.size ≤ c.args.address = rw (← c.self.view_is) (omega (arith, c.if-address-self.false, c.if-granule-granules.true, c.granules.ensures)) in
    sym (lies_in-outside c.args.self.now c.args.address sound (inr above))

pub returns : goal.returns
returns c =
    let h = c.self.inside in
    let table = c.self.invariant.table in
    let from : h.base ≤ c.args.address = omega (arith, c.if-address-self.false) in
    let inside : (c.args.address - h.base) / 16 < length h.table.lengths = omega (arith, c.if-granule-granules.false, c.granules.ensures) in
    rw (← c.self.view_is, due-heap_state) (c.is_in_due_block.ensures
    ∙ sym (lies_in-blocks_of is_marked h.base c.args.address ((c.args.address - h.base) / 16) h.table.lengths h.table.marks table.same (omega (arith, from)) (omega (arith, from)) inside))
