-- Blocks that are due, revoked, as the steps of a sweep and of an epoch's end.
use Rattle.std.proofs.Common.{◌≡◌, ◌∙◌, inl, inr, ap, false, refl, subst, sym, true}
use Rattle.std.proofs.lemmas.Bool.{cases_Bool}
use Rattle.std.specs.Prelude.{Err, IfOk, Ok, Option, Result}
use Rattle.heap_model.specs.Blocks.{bytes_in}
use Rattle.heap_model.specs.Heap.{HeapState, due}
use Rattle.heap_model.specs.Laws.{due-closed, due-open, without_due-closed, without_due-open}
use Rattle.heap_model.specs.Quarantine.{without_due}
use Rattle.heap_model.specs.Sweep.{swept_cells, swept_granules, tags_taken}
use Rattle.heap_reply.specs.declared.reply.Reply.{Reply}
use Rattle.heap_reply.specs.declared.reply.Reply.TheVariants.{Swept}
use Rattle.heap_reply.specs.declared.reply.Trap.{Trap}
use Rattle.trace_text.specs.declared.trace.Command.{Command}
use Rattle.trace_text.specs.declared.trace.Command.TheVariants.{End, Sweep}
use Rattle.machine_steps.specs.Dirty.{dirty_by}
use Rattle.machine_steps.specs.State.{State}
use Rattle.machine_steps.specs.Step.{Step, checks, first_failed}
use Rattle.machine_storage.specs.Decision.{IsDecision, IsRevocation, revoked}
use Rattle.machine_storage.specs.Storage.{state_of}
use Rattle.machine_storage.specs.declared.fault.MachineFault.{MachineFault}
use Rattle.machine_storage.specs.declared.storage.Storage.{Storage}
use Rattle.machine_storage.specs.declared.storage.decision.Decision.{Decision}
use Rattle.machine_storage.proofs.PassedChecks.{Step-passed, end_passes, sweep_passes}

pub base_without_due : (h : HeapState) → (without_due h).base ≡ h.base
unfolding without_due
base_without_due h = elim (cases_Bool h.is_open) [ inl opened ↦ rw opened refl | inr closed ↦ rw closed refl ]

-- What is answered where the blocks that are due are revoked.
abbrev reply_of : State → Reply
reply_of s = Swept (tags_taken (due s.heap) s.granules s.registers) (bytes_in (due s.heap))

sweep_step : (s : State) → s.heap.is_open ≡ false → Step s Sweep (reply_of s) (revoked s)
sweep_step s closed =
    let blocks = due-closed s.heap closed in
    let free = without_due-closed s.heap closed in
    Step-passed s Sweep (reply_of s) (revoked s) (sweep_passes s closed) (
      λ i. Swept (tags_taken (blocks i) s.granules s.registers) (bytes_in (blocks i)),
      λ i. record { heap = free i; granules = swept_granules (blocks i) s.granules; registers = swept_cells (blocks i) s.registers },
    )

end_step : (s : State) → s.heap.is_open ≡ true → Step s End (reply_of s) (revoked s)
end_step s opened =
    let blocks = due-open s.heap opened in
    let free = without_due-open s.heap opened in
    Step-passed s End (reply_of s) (revoked s) (end_passes s opened) (
      λ i. Swept (tags_taken (blocks i) s.granules s.registers) (bytes_in (blocks i)),
      λ i. record { heap = free i; granules = swept_granules (blocks i) s.granules; registers = swept_cells (blocks i) s.registers },
    )

-- So a revocation is decided for a command whose step it is.
decided : (m : Storage) (c : Command) (d : Decision) → IsRevocation m d → Step (state_of m) c (reply_of (state_of m)) (revoked (state_of m))
    → dirty_by (first_failed (checks (state_of m) c)) (state_of m) c m.memory.dirty ≡ m.memory.dirty → IsDecision m c d
decided m c d is step still = record {
  step = subst (λ s. Step (state_of m) c d.reply s) (sym is.state) (subst (λ r. Step (state_of m) c r (revoked (state_of m))) (sym is.reply) step);
  can = is.can;
  dirty = is.dirty ∙ sym still;
}

sweep_decided : (m : Storage) → m.heap.is_open ≡ false → (d : Decision) → IsRevocation m d → IsDecision m Sweep d
sweep_decided m closed d is =
    decided m Sweep d is (sweep_step (state_of m) closed) (ap (λ (t : Option Trap). dirty_by t (state_of m) Sweep m.memory.dirty) (sweep_passes (state_of m) closed))

pub end_decided : (m : Storage) → m.heap.is_open ≡ true → (d : Decision) → IsRevocation m d → IsDecision m End d
end_decided m opened d is =
    decided m End d is (end_step (state_of m) opened) (ap (λ (t : Option Trap). dirty_by t (state_of m) End m.memory.dirty) (end_passes (state_of m) opened))

-- The same where memory may have run out.
each_decided : (m : Storage) (c : Command) (result : Result Decision MachineFault) → ((d : Decision) → IsRevocation m d → IsDecision m c d)
    → IfOk result (IsRevocation m) → IfOk result (IsDecision m c)
each_decided m c (Ok d) decides is = decides d is
each_decided m c (Err fault) decides is = tt

pub sweep_result : (m : Storage) (result : Result Decision MachineFault) → m.heap.is_open ≡ false → IfOk result (IsRevocation m) → IfOk result (IsDecision m Sweep)
sweep_result m result closed is = each_decided m Sweep result (sweep_decided m closed) is

pub end_result : (m : Storage) (result : Result Decision MachineFault) → m.heap.is_open ≡ true → IfOk result (IsRevocation m) → IfOk result (IsDecision m End)
end_result m result opened is = each_decided m End result (end_decided m opened) is
