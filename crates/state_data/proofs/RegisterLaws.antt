-- Which registers a command leaves as they are.
use Rattle.std.proofs.Common.{◌≡◌, ◌∙◌, ◌==◌, ℕ, false, inl, inr, Option, Some, None, List, get_or, refl, sym, ap}
use Rattle.std.proofs.lemmas.Bool.{cases_Bool, true≢false}
use Rattle.std.proofs.lemmas.List.{get_or-set_other}
use Rattle.machine_steps.specs.State.{State}
use Rattle.machine_steps.specs.Step.{Effect, Step, StepAfter, checks, first_failed}
use Rattle.heap_reply.specs.declared.reply.Reply.{Reply}
use Rattle.heap_reply.specs.declared.reply.Reply.TheVariants.{Block, BlockAfter, NoSpace, NoSpaceAfter, Held, Done, Cleared, Swept, Begun, Shown, Trap}
use Rattle.heap_reply.specs.declared.reply.Trap.{Trap as TheTrap}
use Rattle.tag_memory.specs.Cells.{Cell, null_cell, registers_with}
use Rattle.trace_text.specs.declared.trace.Command.{Command}
use Rattle.trace_text.specs.declared.trace.Command.TheVariants.{Malloc, Free, Copy, SetAddr, Narrow, AndPerm, StoreCap, LoadCap, Write, Show, Sweep, Begin, End}
use Rattle.state_data.specs.States.{tells_registers}
use Rattle.data_tokens.specs.Changes.{StayBut}
use Rattle.state_data.specs.Recording.{IsSnapshot, before_of, changed_register}
use Rattle.state_data.specs.declared.snapshot.Before.{Before}
use Rattle.state_data.specs.declared.snapshot.Snapshot.{Snapshot}

with-other : (cells : List Cell) (r : ℕ) (cell : Cell) → StayBut r cells (registers_with cells r cell)
with-other cells r cell k other = elim (cases_Bool (r == 0)) [ inl zero ↦ rw zero refl | inr later ↦ rw later (get_or-set_other cells r k cell null_cell other) ]

-- One register is written.
cell_stays : (s : State) (rd : ℕ) (cell : Cell) (new after : State) → after.registers ≡ registers_with s.registers rd cell → new ≡ after → StayBut rd s.registers new.registers
cell_stays s rd cell new after is step k other =
    ap (λ (x : State). get_or x.registers k null_cell) step ∙ (ap (λ (cells : List Cell). get_or cells k null_cell) is ∙ with-other s.registers rd cell k other)

-- None is.
same_stays : (s : State) (r : ℕ) (new : State) → new.registers ≡ s.registers → StayBut r s.registers new.registers
same_stays s r new same k other = ap (λ (cells : List Cell). get_or cells k null_cell) same

-- What is trapped or not, in one way or the other.
After-stays : (t : Option TheTrap) (s : State) (c : Command) (r : ℕ) (reply : Reply) (new : State) → (Effect s c reply new → StayBut r s.registers new.registers) → StepAfter t s c reply new
    → StayBut r s.registers new.registers
After-stays None s c r reply new effect step = effect step
After-stays (Some trap) s c r reply new effect step = same_stays s r new (ap (λ (x : State). x.registers) step.1)

Malloc-stays : (s : State) (rd size : ℕ) (reply : Reply) (new : State) → Effect s (Malloc rd size) reply new → tells_registers reply ≡ false → StayBut rd s.registers new.registers
Malloc-stays s rd size (Block base top) new e none = cell_stays s rd _ new _ refl e.state
Malloc-stays s rd size (BlockAfter base top cleared) new e none = absurd (true≢false none)
Malloc-stays s rd size NoSpace new e none = cell_stays s rd _ new _ refl e.1.state
Malloc-stays s rd size (NoSpaceAfter cleared) new e none = absurd (true≢false none)
Malloc-stays s rd size (Held bytes) new e none = absurd e
Malloc-stays s rd size Done new e none = absurd e
Malloc-stays s rd size Cleared new e none = absurd e
Malloc-stays s rd size (Swept cleared released) new e none = absurd e
Malloc-stays s rd size (Begun cleared) new e none = absurd e
Malloc-stays s rd size (Shown shown) new e none = absurd e
Malloc-stays s rd size (Trap trap) new e none = absurd e

Step-stays : (s : State) (c : Command) (r : Reply) (new : State) → Step s c r new → tells_registers r ≡ false → StayBut (changed_register c) s.registers new.registers
Step-stays s (Malloc rd size) r new step none = Malloc-stays s rd size r new step none
Step-stays s (Free rs) r new step none = After-stays (first_failed (checks s (Free rs))) s (Free rs) 0 r new (λ e. same_stays s 0 new (ap (λ (x : State). x.registers) e.1)) step
Step-stays s (Copy rd rs) r new step none = cell_stays s rd _ new _ refl step.1
Step-stays s (SetAddr rd rs a) r new step none = cell_stays s rd _ new _ refl step.1
Step-stays s (Narrow rd rs n) r new step none = After-stays (first_failed (checks s (Narrow rd rs n))) s (Narrow rd rs n) rd r new (λ e. cell_stays s rd _ new _ refl e.1) step
Step-stays s (AndPerm rd rs mask) r new step none = cell_stays s rd _ new _ refl step.1
Step-stays s (StoreCap ra rs) r new step none = After-stays (first_failed (checks s (StoreCap ra rs))) s (StoreCap ra rs) 0 r new (λ e. same_stays s 0 new (ap (λ (x : State). x.registers) e.1)) step
Step-stays s (LoadCap rd ra) r new step none = After-stays (first_failed (checks s (LoadCap rd ra))) s (LoadCap rd ra) rd r new (λ e. cell_stays s rd _ new _ refl e.1) step
Step-stays s (Write ra bytes) r new step none = After-stays (first_failed (checks s (Write ra bytes))) s (Write ra bytes) 0 r new (λ e. same_stays s 0 new (ap (λ (x : State). x.registers) e.1)) step
Step-stays s (Show rs) r new step none = same_stays s 0 new (ap (λ (x : State). x.registers) step.1)
Step-stays s Sweep r new step none = After-stays (first_failed (checks s Sweep)) s Sweep 0 r new (λ e. absurd (true≢false (sym (ap tells_registers e.0) ∙ none))) step
Step-stays s Begin r new step none = After-stays (first_failed (checks s Begin)) s Begin 0 r new (λ e. same_stays s 0 new (ap (λ (x : State). x.registers) e.1)) step
Step-stays s End r new step none = After-stays (first_failed (checks s End)) s End 0 r new (λ e. absurd (true≢false (sym (ap tells_registers e.0) ∙ none))) step

-- Where no pass looked at registers, those that were seen stay, but for the one that was read before the command.
pub registers-stay : {old : State} (c : Command) (r : Reply) (new : State) {snapshot : Snapshot} (before : Before) → IsSnapshot snapshot old → Step old c r new → before ≡ before_of old c
    → tells_registers r ≡ false → StayBut before.register snapshot.registers new.registers
registers-stay {old} c r new before is step read none k other =
    Step-stays old c r new step none k (λ same. other (same ∙ sym (ap (λ (b : Before). b.register) read)))
    ∙ ap (λ (cells : List Cell). get_or cells k null_cell) (sym is.registers)
