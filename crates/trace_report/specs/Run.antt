-- Runs of commands.
use Rattle.std.specs.Prelude.{◌≡◌, ℕ, List, [], ◌∷◌, map}
use Rattle.trace_text.specs.declared.trace.Command.{Command}
use Rattle.heap_reply.specs.declared.reply.Reply.{Reply}
use Rattle.trace_report.specs.Report.{lines_text}
use Rattle.machine_steps.specs.Safety.{IsReuseSafe, IsSafe}
use Rattle.machine_steps.specs.State.{State}
use Rattle.machine_steps.specs.Step.{Step}

-- The commands, one step after another, are answered so and leave the state new.
abbrev pub Run : State → List Command → List Reply → State → Type 0
Run old [] [] new = new ≡ old
Run old (c ∷ cs) (r ∷ rs) new = (mid : State) × Step old c r mid × Run mid cs rs new
Run old [] (r ∷ rs) new = ⊥
Run old (c ∷ cs) [] new = ⊥

-- Each state of this run is safe, the first and the last too, and each command hands out bytes safely.
abbrev pub IsSafeRun : (old : State) (commands : List Command) (replies : List Reply) (new : State) → Run old commands replies new → Type 0
IsSafeRun old [] [] new run = IsSafe new
IsSafeRun old (c ∷ cs) (r ∷ rs) new run = IsSafe old × IsReuseSafe old c r run.0 × IsSafeRun run.0 cs rs new run.2
IsSafeRun old [] (r ∷ rs) new run = ⊥
IsSafeRun old (c ∷ cs) [] new run = ⊥

-- The commands were a safe run from the first state to mid, and the text has a line for each.
pub record Reported (first : State) (items : List (ℕ × Command)) (mid : State) (text : List ℕ) : Type 0 where
  pub replies : List Reply
  pub run : Run first (map (λ c. c.1) items) replies mid
  pub safe : IsSafeRun first (map (λ c. c.1) items) replies mid run
  pub lines : text ≡ lines_text items replies
