use Rattle.std.proofs.Common.{◌<◌, ℕ}
use Rattle.machine_storage.specs.RevokerDecision.{HasNoDue}
use Rattle.machine_storage.proofs.storage.Storage.has_due_page.Given as goal

abbrev pub invariant-loop-page : goal.invariant-loop-page
invariant-loop-page l = (page : ℕ) → page < l.page → HasNoDue l.self page
