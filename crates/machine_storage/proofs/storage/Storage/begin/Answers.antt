use Rattle.std.proofs.Common.{◌≡◌, ◌∙◌, ◌<◌, ◌^◌, ℕ, ap, false, get_or, refl, subst, sym, true, arith}
use Rattle.std.specs.Prelude.{Option, count_ones, sum_by}
use Rattle.heap_model.specs.Heap.{held_bytes}
use Rattle.heap_model.specs.Laws.{due-closed}
use Rattle.sweep_masks.specs.Masks.{TakeTags}
use Rattle.heap_reply.specs.declared.reply.Trap.{Trap}
use Rattle.heap_reply.specs.declared.reply.Trap.TheVariants.{Open}
use Rattle.trace_text.specs.declared.trace.Command.TheVariants.{Begin}
use Rattle.machine_storage.specs.Decision.{IsDecision}
use Rattle.machine_storage.specs.Storage.{state_of}
use Rattle.machine_steps.specs.Dirty.{dirty_by}
use Rattle.machine_steps.specs.SweptState.{no_blocks}
use Rattle.machine_storage.proofs.PassedChecks.{Begun-none, Begun-taken, begin_passes, trapped}
use Rattle.machine_storage.proofs.storage.Storage.begin.Goals as goal

pub returns-then-held_bytes-eq0-clause-decision : goal.returns-then-held_bytes-eq0-clause-decision
returns-then-held_bytes-eq0-clause-decision g c =
    let m = c.args.self.now in
    let closed : c.args.self.now.heap.is_open ≡ false = sym c.is_open.ensures ∙ c.if-is_open.false in
    let bytes : held_bytes m.heap ≡ 0 = omega (arith, c.held_bytes.ensures, c.if-held_bytes-eq0.true) in
    record {
      step = Begun-none (state_of m) c.requires.storage.sound.safe.heap closed bytes;
      can = (closed, no_blocks m.heap c.requires.storage.sound.safe.heap bytes);
      dirty = sym (ap (λ (t : Option Trap). dirty_by t (state_of m) Begin m.memory.dirty) (begin_passes (state_of m) closed));
    }

pub returns-then-is_open-clause-decision : goal.returns-then-is_open-clause-decision
returns-then-is_open-clause-decision g c =
    let opened : c.args.self.now.heap.is_open ≡ true = sym c.is_open.ensures ∙ c.if-is_open.true in
    subst (IsDecision c.args.self.now Begin) (sym c.trap.ensures) (trapped c.args.self.now Begin Open (rw opened refl))

pub returns-clause-decision : goal.returns-clause-decision
returns-clause-decision g c =
    let m = c.args.self.now in
    let closed : c.args.self.now.heap.is_open ≡ false = sym c.is_open.ensures ∙ c.if-is_open.false in
    let masks = c.in_ok-masks.masks.items in
    let take : TakeTags m.memory m.heap.waiting c.in_ok-masks.masks.items = rw (due-closed m.heap closed) at c.in_ok-masks.ensures.masks in
    let words : (w : ℕ) → get_or c.in_ok-masks.masks.items w 0 < 2 ^ 64 = rw c.deref.ensures.value at c.ones_in.ensures.words in
    let told : c.ones_in.result ≡ sum_by count_ones c.in_ok-masks.masks.items = rw c.deref.ensures.value at c.ones_in.ensures.count in
    record {
      step = Begun-taken (state_of m) m.memory masks c.ones_in.result closed refl take words told;
      can = record { closed = closed; masks_take = take };
      dirty = sym (ap (λ (t : Option Trap). dirty_by t (state_of m) Begin m.memory.dirty) (begin_passes (state_of m) closed));
    }
