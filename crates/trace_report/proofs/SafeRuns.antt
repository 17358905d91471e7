-- Every run from a safe state is safe.
use Rattle.std.proofs.Common.{List, [], ◌∷◌, sym, subst}
use Rattle.std.specs.Prelude.{All}
use Rattle.std.proofs.lemmas.List.Elements.{All-head, All-tail}
use Rattle.trace_text.specs.declared.trace.Command.{Command}
use Rattle.heap_reply.specs.declared.reply.Reply.{Reply}
use Rattle.machine_steps.specs.Safety.{FitsTypes, IsReuseSafe, IsSafe, IsUnused, LeavesInUse}
use Rattle.machine_steps.specs.State.{State}
use Rattle.machine_steps.specs.Step.{Step}
use Rattle.trace_report.specs.Run.{IsSafeRun, Run}

-- What the law `steps` says of safety.
pub record SafeSteps : Type 0 where
  pub safe : (old : State) (c : Command) (r : Reply) (new : State) → IsSafe old → FitsTypes c → Step old c r new → IsSafe new
  pub unused : (old : State) (c : Command) (r : Reply) (new : State) → IsSafe old → Step old c r new → IsUnused old c r
  pub revoked : (old : State) (c : Command) (r : Reply) (new : State) → IsSafe old → FitsTypes c → Step old c r new → LeavesInUse c r new

pub Run-safe : SafeSteps → (old : State) (cs : List Command) (rs : List Reply) (new : State) (run : Run old cs rs new) → IsSafe old → All FitsTypes cs
    → IsSafeRun old cs rs new run
Run-safe laws old [] [] new run safe fits = subst IsSafe (sym run) safe
Run-safe laws old [] (r ∷ rs) new run safe fits = absurd run
Run-safe laws old (c ∷ cs) [] new run safe fits = absurd run
Run-safe laws old (c ∷ cs) (r ∷ rs) new run safe fits =
    let here = All-head FitsTypes c cs fits in
    let reuse : IsReuseSafe old c r run.0 = record { unused = laws.unused old c r run.0 safe run.1; revoked = laws.revoked old c r run.0 safe here run.1 } in
    (safe, reuse, Run-safe laws run.0 cs rs new run.2 (laws.safe old c r run.0 safe here run.1) (All-tail FitsTypes c cs fits))
