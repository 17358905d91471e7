use Rattle.std.proofs.Common.{◌≡◌, ◌∙◌, refl, sym, arith}
use Rattle.heap_model.specs.Laws.{due-closed, no_reason}
use Rattle.heap_model.specs.Quarantine.{without_waiting}
use Rattle.machine_storage.specs.Storage.{state_of}
use Rattle.machine_storage.specs.Revoked.{AreRevoked, AreApplied}
use Rattle.machine_steps.specs.Step.{MaySweep, sweep_takes}
use Rattle.machine_storage.proofs.WhyLaws.{top_fits}
use Rattle.machine_storage.proofs.SweptMalloc.{Places-swept}
use Rattle.machine_storage.proofs.storage.Storage.sweep_and_place.Goals as goal

pub returns-then-count-cleared-clause-followed : goal.returns-then-count-cleared-clause-followed
returns-then-count-cleared-clause-followed g c =
    let m = c.args.self.now in
    let may : MaySweep (state_of c.args.self.now) = c.may_sweep.ensures.may c.if-not-may_sweep.false in
    let revoked : AreRevoked m.heap.waiting m.memory m.registers c.in_ok-revoked.revoked = rw (due-closed m.heap may.closed) at c.in_ok-revoked.ensures.revoked in
    let counted : c.count-count.result ≡ sweep_takes (state_of c.args.self.now) = c.count-count.ensures m.heap.waiting m.memory m.registers revoked in (
      λ left follows. c.if-count-cleared.true (counted ∙ sym follows.0.cleared_is),
      (may, omega (arith, c.least_top.ensures, c.if-top-least_top.false), counted, λ is. c.if-count-cleared.true (sym is)),
      refl,
    )

pub returns-in-Err : goal.returns-in-Err
returns-in-Err g c =
    let m = c.args.self.now in
    let may : MaySweep (state_of c.args.self.now) = c.may_sweep.ensures.may c.if-not-may_sweep.false in
    let revoked : AreRevoked m.heap.waiting m.memory m.registers c.in_ok-revoked.revoked = rw (due-closed m.heap may.closed) at c.in_ok-revoked.ensures.revoked in
    let counted : c.count-count.result ≡ sweep_takes (state_of c.args.self.now) = c.count-count.ensures m.heap.waiting m.memory m.registers revoked in
    let refused = c.in-Err.ensures.claim in
    let same = refused.1 in
    record {
      followed = (
        λ left follows. no_reason (without_waiting m.heap) c.args.base c.args.top c.in-Err.obstacle follows.1.may refused.0,
        (may, omega (arith, c.least_top.ensures, c.if-top-least_top.false), sym c.if-count-cleared.false ∙ counted, refused.0),
        λ i. record { heap = same i; granules = m.memory.granules; registers = m.registers },
      );
      base = rw same c.requires.storage.base;
      dirty = refl;
      still = λ _ i. record { heap = same i; memory = m.memory; registers = m.registers };
      memory = tt;
      ok = λ _. refl;
    }

pub block_capability-requires-clause-room : goal.block_capability-requires-clause-room
block_capability-requires-clause-room g c =
    top_fits c.args.self.now.heap c.args.base c.args.top c.requires.storage.sound.safe.heap c.in-Ok.ensures.claim.0

pub returns-clause-followed : goal.returns-clause-followed
returns-clause-followed g c =
    let s = state_of c.args.self.now in
    let m = c.args.self.now in
    let may : MaySweep (state_of c.args.self.now) = c.may_sweep.ensures.may c.if-not-may_sweep.false in
    let revoked : AreRevoked m.heap.waiting m.memory m.registers c.in_ok-revoked.revoked = rw (due-closed m.heap may.closed) at c.in_ok-revoked.ensures.revoked in
    let counted : c.count-count.result ≡ sweep_takes (state_of c.args.self.now) = c.count-count.ensures m.heap.waiting m.memory m.registers revoked in
    let done : AreApplied m.heap.waiting m.memory m.registers c.apply.new.memory c.apply.new.registers = c.apply.ensures.taken m.heap.waiting revoked in
    let claim = c.in-Ok.ensures.claim in (
      record { may = may; cleared_is = sym c.if-count-cleared.false ∙ counted },
      Places-swept s c.args.rd c.args.size c.args.base c.args.top c.give_back_and_claim.new.self m.memory c.apply.new.memory c.apply.new.registers c.set.new.self
          refl claim.0 (omega (arith, c.least_top.ensures, c.if-top-least_top.false)) claim.1 done (rw c.block_capability.ensures.value at c.set.ensures),
    )
