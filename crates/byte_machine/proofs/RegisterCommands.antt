-- Commands that change registers alone leave the heap, the granules and the dirty pages as they are.
use Rattle.std.proofs.Common.{◌≡◌, ◌∙◌, ℕ, ap, Bool, true, List, Option, None, Some, refl, sym}
use Rattle.std.proofs.lemmas.Bool.{true≢false}
use Rattle.heap_machine.specs.Storage.{MachineState}
use Rattle.heap_reply.specs.declared.reply.Reply.{Reply}
use Rattle.heap_reply.specs.declared.reply.Trap.{Trap}
use Rattle.machine_steps.specs.Dirty.{dirty_by}
use Rattle.machine_steps.specs.State.{State}
use Rattle.machine_steps.specs.Step.{Effect, Step, StepAfter, checks, first_failed}
use Rattle.state_bytes.specs.State.{HasMemoryOf}
use Rattle.trace_text.specs.declared.trace.Command.{Command}
use Rattle.trace_text.specs.declared.trace.Command.TheVariants.{Malloc, Free, Copy, SetAddr, Narrow, AndPerm, StoreCap, LoadCap, Write, Show, Sweep, Begin, End}
use Rattle.byte_machine.specs.Calls.{LeadsTo, is_of_registers}

-- Both states have one heap and the same granules.
abbrev AreAlike : State → State → Type 0
AreAlike old new = (new.heap ≡ old.heap) × (new.granules ≡ old.granules)

effect_keeps : (old : State) (command : Command) (reply : Reply) (new : State) → is_of_registers command ≡ true → Effect old command reply new → AreAlike old new
effect_keeps old (Malloc rd size) reply new is effect = absurd (true≢false (sym is))
effect_keeps old (Free rs) reply new is effect = absurd (true≢false (sym is))
effect_keeps old (Copy rd rs) reply new is effect = (ap (λ (s : State). s.heap) effect.1, ap (λ (s : State). s.granules) effect.1)
effect_keeps old (SetAddr rd rs address) reply new is effect = (ap (λ (s : State). s.heap) effect.1, ap (λ (s : State). s.granules) effect.1)
effect_keeps old (Narrow rd rs length) reply new is effect = (ap (λ (s : State). s.heap) effect.1, ap (λ (s : State). s.granules) effect.1)
effect_keeps old (AndPerm rd rs mask) reply new is effect = (ap (λ (s : State). s.heap) effect.1, ap (λ (s : State). s.granules) effect.1)
effect_keeps old (StoreCap ra rs) reply new is effect = absurd (true≢false (sym is))
effect_keeps old (LoadCap rd ra) reply new is effect = (ap (λ (s : State). s.heap) effect.1, ap (λ (s : State). s.granules) effect.1)
effect_keeps old (Write ra bytes) reply new is effect = absurd (true≢false (sym is))
effect_keeps old (Show rs) reply new is effect = (ap (λ (s : State). s.heap) effect.1, ap (λ (s : State). s.granules) effect.1)
effect_keeps old Sweep reply new is effect = absurd (true≢false (sym is))
effect_keeps old Begin reply new is effect = absurd (true≢false (sym is))
effect_keeps old End reply new is effect = absurd (true≢false (sym is))

step_keeps : (trap : Option Trap) (old : State) (command : Command) (reply : Reply) (new : State) → is_of_registers command ≡ true → StepAfter trap old command reply new → AreAlike old new
step_keeps (Some trap) old command reply new is step = (ap (λ (s : State). s.heap) step.1, ap (λ (s : State). s.granules) step.1)
step_keeps None old command reply new is step = effect_keeps old command reply new is step

dirty_keeps : (trap : Option Trap) (old : State) (command : Command) (dirty : List Bool) → is_of_registers command ≡ true → dirty_by trap old command dirty ≡ dirty
dirty_keeps (Some trap) old command dirty is = refl
dirty_keeps None old (Malloc rd size) dirty is = refl
dirty_keeps None old (Free rs) dirty is = refl
dirty_keeps None old (Copy rd rs) dirty is = refl
dirty_keeps None old (SetAddr rd rs address) dirty is = refl
dirty_keeps None old (Narrow rd rs length) dirty is = refl
dirty_keeps None old (AndPerm rd rs mask) dirty is = refl
dirty_keeps None old (StoreCap ra rs) dirty is = absurd (true≢false (sym is))
dirty_keeps None old (LoadCap rd ra) dirty is = refl
dirty_keeps None old (Write ra bytes) dirty is = refl
dirty_keeps None old (Show rs) dirty is = refl
dirty_keeps None old Sweep dirty is = refl
dirty_keeps None old Begin dirty is = absurd (true≢false (sym is))
dirty_keeps None old End dirty is = refl

-- So the machine that such a command leaves has the memory of the one before.
pub has_memory : (bytes : List ℕ) (command : Command) (reply : Reply) (to : MachineState) → is_of_registers command ≡ true → (leads : LeadsTo Step bytes command reply to) → HasMemoryOf leads.from to
has_memory bytes command reply to is leads =
    let from = leads.from in
    let keeps = step_keeps (first_failed (checks from.state command)) from.state command reply to.state is leads.does in
    record {
      heap = keeps.0;
      granules = keeps.1;
      dirty = leads.dirty ∙ dirty_keeps (first_failed (checks from.state command)) from.state command from.dirty is;
    }
