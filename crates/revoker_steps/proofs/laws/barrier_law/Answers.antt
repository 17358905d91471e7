use Rattle.std.proofs.Common.{◌||◌, inl, inr, subst, sym}
use Rattle.std.specs.Prelude.{slice_set, true}
use Rattle.trace_text.specs.declared.trace.Command.TheVariants.{LoadCap}
use Rattle.machine_steps.specs.State.{State}
use Rattle.revoker_steps.specs.Barred.{IsBarred, IsBarredAt, LoadsSeen, page_at}
use Rattle.revoker_steps.specs.declared.command.RevokerCommand.TheVariants.{UntagRegister}
use Rattle.revoker_steps.specs.Revoker.{is_at, is_register}
use Rattle.revoker_steps.proofs.BarredLaws.{Follows-barred, IsBarred-start, IsBarred-untag, IsBarred-untag_registers, IsBarred-visit, IsNothingLeft-seen, LoadsSeen-visited, WordLaws}
use Rattle.revoker_steps.proofs.StepLaws.{Cleared-untag, Cleared-visit, Step-revokes, Visit-is, releases}
use Rattle.revoker_steps.proofs.laws.barrier_law.Goals as goal

pub returns-clause-start : goal.returns-clause-start
returns-clause-start c = λ s pages. IsBarred-start s pages

pub returns-clause-kept : goal.returns-clause-kept
returns-clause-kept c =
    let words = c.derivation_law.ensures in
    let laws : WordLaws = record { narrowed = words.narrowed; capability = words.capability; tested = words.tested; moved = words.moved; masked = words.masked } in
    λ old done command reply new safe fits opened barred loads step. Follows-barred laws old done command reply new safe fits opened barred loads step

pub returns-clause-visited : goal.returns-clause-visited
returns-clause-visited c =
    λ old seen page cleared new barred step. subst (λ (s : State). IsBarred s (slice_set seen page true)) (sym (Cleared-visit old page cleared new step).state) (IsBarred-visit page old seen barred)

pub returns-clause-untagged : goal.returns-clause-untagged
returns-clause-untagged c =
    λ old done address cleared new barred step. subst (λ (s : State). IsBarredAt s (λ i. done i || is_at old address i)) (sym (Cleared-untag old address cleared new step).1) (IsBarred-untag (is_at old address) old done barred)

pub returns-clause-untagged_register : goal.returns-clause-untagged_register
returns-clause-untagged_register c =
    λ old done r reply new barred step.
    elim (Step-revokes old (UntagRegister r) reply new step) [
      | inl revoked ↦ subst (λ (s : State). IsBarredAt s done) (sym revoked.state) (IsBarred-untag_registers (is_register r) old done barred)
      | inr same ↦ subst (λ (s : State). IsBarredAt s done) (sym same) barred
    ]

pub returns-clause-barrier : goal.returns-clause-barrier
returns-clause-barrier c =
    λ old seen rd ra reply new is pages opened step.
    subst (λ (s : State). LoadsSeen s (slice_set seen (page_at old ra) true) (LoadCap rd ra)) (sym (Visit-is old (page_at old ra) reply new opened step).0) (LoadsSeen-visited old seen rd ra is pages)

pub returns-clause-release : goal.returns-clause-release
returns-clause-release c = λ s seen pages all opened barred. releases s opened (IsNothingLeft-seen s seen pages all barred)
