-- What lists of events keep.
use Rattle.std.proofs.Common.{List, [], ◌∷◌, sym, subst}
use Rattle.trace_text.specs.declared.trace.Command.{Command}
use Rattle.heap_reply.specs.declared.reply.Reply.{Reply}
use Rattle.machine_steps.specs.Safety.{FitsTypes, IsSafe}
use Rattle.machine_steps.specs.State.{State}
use Rattle.revoker_steps.specs.Events.{Event, Happens, Runs}
use Rattle.revoker_steps.specs.Events.Event.{Answered, Revoked}
use Rattle.revoker_steps.proofs.RevokerLaws.{EpochLaws}
use Rattle.revoker_steps.proofs.StepLaws.{Step-safe}

-- Commands so answered keep a state safe.
abbrev pub KeepsSafe : (State → Command → Reply → State → Type 0) → Type 0
KeepsSafe By = (old : State) (command : Command) (reply : Reply) (new : State) → IsSafe old → FitsTypes command → By old command reply new → IsSafe new

Happens-safe : (By : State → Command → Reply → State → Type 0) → KeepsSafe By → EpochLaws → (old : State) (event : Event) (new : State) → IsSafe old → Happens By old event new → IsSafe new
Happens-safe By keeps laws old (Answered command reply) new safe happens = keeps old command reply new safe happens.0 happens.1
Happens-safe By keeps laws old (Revoked command reply) new safe happens = Step-safe laws old command reply new safe happens

pub Runs-safe : (By : State → Command → Reply → State → Type 0) → KeepsSafe By → EpochLaws → (old : State) (events : List Event) (new : State) → IsSafe old → Runs By old events new → IsSafe new
Runs-safe By keeps laws old [] new safe run = subst IsSafe (sym run) safe
Runs-safe By keeps laws old (event ∷ events) new safe run =
    Runs-safe By keeps laws run.0 events new (Happens-safe By keeps laws old event run.0 safe run.1) run.2
