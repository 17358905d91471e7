use Rattle.std.proofs.Common.{sym, ap, length, arith}
use Rattle.heap_model.specs.ShadowLaws.{length-bits_of}
use Rattle.heap_core.proofs.GivenUpLaws.{freed_of-given_up, freed_of-other, given_up}
use Rattle.heap_core.proofs.heap.Heap.freed_of.Goals as goal

pub live_at-requires-clause-bits : goal.live_at-requires-clause-bits
live_at-requires-clause-bits c = omega (arith, c.self.invariant.lates.same, length-bits_of c.self.inside.late.items, ap length c.deref.ensures.value)

pub returns-in-Ok : goal.returns-in-Ok
returns-in-Ok c =
    let block = given_up c.self.invariant c.deref.ensures.value c.in-Ok.ensures.live in
    rw (← c.self.view_is) (sym (freed_of-given_up c.self.invariant block))

pub returns-in-Err : goal.returns-in-Err
returns-in-Err c = rw (← c.self.view_is) (sym (freed_of-other c.args.base c.args.top c.self.invariant c.deref.ensures.value c.in-Err.ensures.other))
