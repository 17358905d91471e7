use Rattle.std.proofs.Common.{◌≡◌, ◌∙◌, ap, refl, sym}
use Rattle.heap_model.specs.Heap.{HeapState}
use Rattle.heap_model.specs.Laws.{due-closed, without_due-closed}
use Rattle.heap_model.specs.Quarantine.{without_waiting}
use Rattle.machine_storage.specs.Storage.{state_of}
use Rattle.machine_storage.specs.Revoked.{AreRevoked, AreApplied}
use Rattle.machine_steps.specs.Step.{MaySweep, sweep_takes}
use Rattle.machine_storage.proofs.SweptMalloc.{PlacesNone-swept}
use Rattle.machine_storage.proofs.storage.Storage.sweep_and_place_none.Goals as goal

pub returns-then-taken-cleared-clause-followed : goal.returns-then-taken-cleared-clause-followed
returns-then-taken-cleared-clause-followed g c =
    let m = c.args.self.now in
    let may : MaySweep (state_of c.args.self.now) = c.may_sweep.ensures.may c.if-not-may_sweep.false in
    let revoked : AreRevoked m.heap.waiting m.memory m.registers c.in_ok-revoked.revoked = rw (due-closed m.heap may.closed) at c.in_ok-revoked.ensures.revoked in
    let counted : c.count-taken.result ≡ sweep_takes (state_of c.args.self.now) = c.count-taken.ensures m.heap.waiting m.memory m.registers revoked in (
      λ left follows. c.if-taken-cleared.true (counted ∙ sym follows.0.cleared_is),
      (may, counted, λ is. c.if-taken-cleared.true (sym is)),
      refl,
    )

pub returns-clause-followed : goal.returns-clause-followed
returns-clause-followed g c =
    let s = state_of c.args.self.now in
    let m = c.args.self.now in
    let may : MaySweep (state_of c.args.self.now) = c.may_sweep.ensures.may c.if-not-may_sweep.false in
    let revoked : AreRevoked m.heap.waiting m.memory m.registers c.in_ok-revoked.revoked = rw (due-closed m.heap may.closed) at c.in_ok-revoked.ensures.revoked in
    let counted : c.count-taken.result ≡ sweep_takes (state_of c.args.self.now) = c.count-taken.ensures m.heap.waiting m.memory m.registers revoked in
    let done : AreApplied m.heap.waiting m.memory m.registers c.apply.new.memory c.apply.new.registers = c.apply.ensures.taken m.heap.waiting revoked in
    let free : c.give_back.new.self ≡ without_waiting m.heap = c.give_back.ensures.free ∙ without_due-closed m.heap may.closed in (
      record { may = may; cleared_is = sym c.if-taken-cleared.false ∙ counted },
      PlacesNone-swept s c.args.rd c.give_back.new.self m.memory c.apply.new.memory c.apply.new.registers c.set.new.self refl free done c.set.ensures,
    )

pub returns-clause-base : goal.returns-clause-base
returns-clause-base g c =
    let m = c.args.self.now in
    let may : MaySweep (state_of c.args.self.now) = c.may_sweep.ensures.may c.if-not-may_sweep.false in
    let free : c.give_back.new.self ≡ without_waiting m.heap = c.give_back.ensures.free ∙ without_due-closed m.heap may.closed in
    c.apply.ensures.base ∙ (c.requires.storage.base ∙ sym (ap (λ (h : HeapState). h.base) free))
