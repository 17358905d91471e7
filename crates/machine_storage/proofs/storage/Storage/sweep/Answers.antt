use Rattle.std.proofs.Common.{◌≡◌, ◌∙◌, ap, false, refl, subst, sym, true, arith}
use Rattle.std.specs.Prelude.{Option}
use Rattle.heap_reply.specs.declared.reply.Trap.{Trap}
use Rattle.heap_reply.specs.declared.reply.Trap.TheVariants.{Open}
use Rattle.trace_text.specs.declared.trace.Command.TheVariants.{Sweep}
use Rattle.machine_storage.specs.Decision.{IsDecision}
use Rattle.machine_storage.specs.Storage.{state_of}
use Rattle.machine_steps.specs.Dirty.{dirty_by}
use Rattle.machine_storage.proofs.DueSweep.{sweep_result}
use Rattle.machine_storage.proofs.PassedChecks.{Swept-none, sweep_passes, trapped}
use Rattle.machine_storage.proofs.storage.Storage.sweep.Goals as goal

pub returns-then-held_bytes-eq0-clause-decision : goal.returns-then-held_bytes-eq0-clause-decision
returns-then-held_bytes-eq0-clause-decision g c =
    let m = c.args.self.now in
    let closed : c.args.self.now.heap.is_open ≡ false = sym c.is_open.ensures ∙ c.if-is_open.false in
    record {
      step = Swept-none (state_of m) c.requires.storage.sound.safe.heap closed (omega (arith, c.held_bytes.ensures, c.if-held_bytes-eq0.true));
      can = tt;
      dirty = sym (ap (λ (t : Option Trap). dirty_by t (state_of m) Sweep m.memory.dirty) (sweep_passes (state_of m) closed));
    }

pub returns-then-is_open-clause-decision : goal.returns-then-is_open-clause-decision
returns-then-is_open-clause-decision g c =
    let opened : c.args.self.now.heap.is_open ≡ true = sym c.is_open.ensures ∙ c.if-is_open.true in
    subst (IsDecision c.args.self.now Sweep) (sym c.trap.ensures) (trapped c.args.self.now Sweep Open (rw opened refl))

pub returns-clause-decision : goal.returns-clause-decision
returns-clause-decision g c = sweep_result c.args.self.now c.revocation.result (sym c.is_open.ensures ∙ c.if-is_open.false) c.revocation.ensures.decision
