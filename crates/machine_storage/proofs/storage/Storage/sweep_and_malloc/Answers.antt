use Rattle.std.proofs.Common.{◌≡◌, ◌+◌, refl, arith}
use Rattle.heap_model.specs.Laws.{due-closed}
use Rattle.heap_model.specs.Place.{IsPlace, block_length, with_live}
use Rattle.heap_model.specs.Quarantine.{without_waiting}
use Rattle.machine_storage.specs.Storage.{state_of}
use Rattle.machine_storage.specs.Revoked.{AreRevoked, AreApplied}
use Rattle.machine_steps.specs.SoundLaws.{FitsAddresses-state}
use Rattle.machine_storage.proofs.SweptMalloc.{HandsOut-swept, HandsOutNone-swept}
use Rattle.machine_storage.proofs.storage.Storage.sweep_and_malloc.Goals as goal

pub returns-in_default-found-clause-step : goal.returns-in_default-found-clause-step
returns-in_default-found-clause-step g c =
    let m = c.args.self.now in
    let s = state_of m in
    let revoked : AreRevoked m.heap.waiting m.memory m.registers c.in_ok-revoked.revoked = rw (due-closed m.heap c.requires.may.closed) at c.in_ok-revoked.ensures.revoked in
    let taken : AreApplied m.heap.waiting m.memory m.registers c.apply.new.memory c.apply.new.registers = c.apply.ensures.taken m.heap.waiting revoked in (
      record { none = c.requires.none; may = c.requires.may; cleared_is = c.count-cleared.ensures m.heap.waiting m.memory m.registers revoked },
      HandsOutNone-swept s c.args.rd c.args.size c.give_back_and_reserve.new.self m.memory c.apply.new.memory c.apply.new.registers c.set.new.self
          refl (c.in-Ok.ensures.none.0 c.in_default-found.is) (c.in-Ok.ensures.free c.in_default-found.is) taken c.set.ensures,
    )

pub block_capability-requires-clause-room : goal.block_capability-requires-clause-room
block_capability-requires-clause-room g c =
    let m = c.args.self.now in
    let block = c.in-Some.block in
    let place : IsPlace (without_waiting m.heap) c.args.size block.base = rw c.in-Some.is at c.in-Ok.ensures.place in
    let top : block.top ≡ block.base + block_length c.args.size = rw c.in-Some.is at c.in-Ok.ensures.top in
    omega (arith, place.free.end, top, (FitsAddresses-state (state_of m) c.requires.storage.sound.safe).end)

pub returns-clause-step : goal.returns-clause-step
returns-clause-step g c =
    let m = c.args.self.now in
    let s = state_of m in
    let block = c.in-Some.block in
    let place : IsPlace (without_waiting m.heap) c.args.size block.base = rw c.in-Some.is at c.in-Ok.ensures.place in
    let top : block.top ≡ block.base + block_length c.args.size = rw c.in-Some.is at c.in-Ok.ensures.top in
    let live : c.give_back_and_reserve.new.self ≡ with_live (without_waiting m.heap) c.args.size block.base = rw c.in-Some.is at c.in-Ok.ensures.live in
    let revoked : AreRevoked m.heap.waiting m.memory m.registers c.in_ok-revoked.revoked = rw (due-closed m.heap c.requires.may.closed) at c.in_ok-revoked.ensures.revoked in
    let taken : AreApplied m.heap.waiting m.memory m.registers c.apply.new.memory c.apply.new.registers = c.apply.ensures.taken m.heap.waiting revoked in (
      record { none = c.requires.none; may = c.requires.may; cleared_is = c.count-cleared.ensures m.heap.waiting m.memory m.registers revoked },
      HandsOut-swept s c.args.rd c.args.size block.base block.top c.give_back_and_reserve.new.self m.memory c.apply.new.memory c.apply.new.registers c.set-2.new.self
          refl place top live taken (rw c.block_capability.ensures.value at c.set-2.ensures),
    )
