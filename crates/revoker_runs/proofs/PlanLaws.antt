-- A plan's lines, written one after another.
use Rattle.std.proofs.Common.{◌≡◌, ◌∙◌, ◌+◌, ◌++◌, ℕ, Bool, Option, Some, Result, Ok, Err, List, [], ◌∷◌, refl, sym, ap, subst}
use Rattle.std.proofs.lemmas.List.{append-nil, append_assoc}
use Rattle.trace_text.specs.declared.trace.Command.{Command}
use Rattle.trace_text.specs.declared.fault.TraceFault.{TraceFault}
use Rattle.trace_text.specs.Lines.{words_of}
use Rattle.heap_reply.specs.declared.reply.Reply.{Reply}
use Rattle.log_text.specs.declared.event.Asked.{Asked}
use Rattle.revoker_steps.specs.declared.command.RevokerCommand.{RevokerCommand}
use Rattle.revokers.specs.declared.acts.Act.{Act}
use Rattle.revoker_runs.specs.Plan.{Writes, WritesRead, fault_in, fault_or, plan_at}

-- From the first line on so much was written: whatever the lines that are left come to, all of them come to this and that.
pub record SoFar {R : Type 0} (own : Command → Option RevokerCommand) (takes : RevokerCommand → Bool) (does : R → RevokerCommand → List Act → R → Type 0) (steps : R → Command → List Act → Reply → R → Type 0)
    (first : ℕ) (old : R) (lines : List (List ℕ)) (before : List ℕ) (next : ℕ) (now : R) (left : List (List ℕ)) (log : List ℕ) : Type 0 where
  pub writes : (told : List ℕ) (last : R) → Writes own takes does steps next now left told last
      → (all : List ℕ) × Writes own takes does steps first old lines all last × (log ++ told ≡ before ++ all)
  pub faults : (fault : TraceFault) → fault_in own takes next left ≡ Some fault → fault_in own takes first lines ≡ Some fault

pub SoFar-first : {R : Type 0} (own : Command → Option RevokerCommand) (takes : RevokerCommand → Bool) (does : R → RevokerCommand → List Act → R → Type 0) (steps : R → Command → List Act → Reply → R → Type 0)
    (first : ℕ) (old : R) (lines : List (List ℕ)) (before : List ℕ) → SoFar own takes does steps first old lines before first old lines before
SoFar-first own takes does steps first old lines before = record {
  writes = λ told last rest. (told, rest, refl);
  faults = λ fault is. is;
}

pub SoFar-more : {R : Type 0} (own : Command → Option RevokerCommand) (takes : RevokerCommand → Bool) (does : R → RevokerCommand → List Act → R → Type 0) (steps : R → Command → List Act → Reply → R → Type 0)
    (first : ℕ) (old : R) (lines : List (List ℕ)) (before : List ℕ) (next : ℕ) (now : R) (left : List (List ℕ)) (log : List ℕ) (line : List ℕ) (after : List (List ℕ)) (one : List ℕ) (new : R) (longer : List ℕ)
    → SoFar own takes does steps first old lines before next now left log → left ≡ line ∷ after → WritesRead does steps now line (plan_at own takes next (words_of line)) one new → longer ≡ log ++ one
    → SoFar own takes does steps first old lines before (next + 1) new after longer
unfolding fault_in
SoFar-more {R} own takes does steps first old lines before next now left log line after one new longer so is writes grown = record {
  writes = λ told last rest.
      let whole : Writes own takes does steps next now (line ∷ after) (one ++ told) last = (new, one, told, writes, rest, refl) in
      let all = so.writes (one ++ told) last (subst (λ (xs : List (List ℕ)). Writes own takes does steps next now xs (one ++ told) last) (sym is) whole) in
      (all.0, all.1, ap (λ (xs : List ℕ). xs ++ told) grown ∙ append_assoc log one told ∙ all.2);
  faults = λ fault later.
      so.faults fault (ap (λ (xs : List (List ℕ)). fault_in own takes next xs) is ∙ passes (plan_at own takes next (words_of line)) writes ∙ later);
} where
  passes : (read : Result (Option Asked) TraceFault) → WritesRead does steps now line read one new → fault_or read (fault_in own takes (next + 1) after) ≡ fault_in own takes (next + 1) after
  passes (Ok read) writes = refl
  passes (Err fault) writes = elim writes [ ]

-- The line that is read next is faulty.
pub SoFar-fault : {R : Type 0} (own : Command → Option RevokerCommand) (takes : RevokerCommand → Bool) (does : R → RevokerCommand → List Act → R → Type 0) (steps : R → Command → List Act → Reply → R → Type 0)
    (first : ℕ) (old : R) (lines : List (List ℕ)) (before : List ℕ) (next : ℕ) (now : R) (left : List (List ℕ)) (log : List ℕ) (line : List ℕ) (after : List (List ℕ)) (fault : TraceFault)
    → SoFar own takes does steps first old lines before next now left log → left ≡ line ∷ after → plan_at own takes next (words_of line) ≡ Err fault → fault_in own takes first lines ≡ Some fault
unfolding fault_in
SoFar-fault own takes does steps first old lines before next now left log line after fault so is read =
    so.faults fault (ap (λ (xs : List (List ℕ)). fault_in own takes next xs) is
    ∙ ap (λ (r : Result (Option Asked) TraceFault). fault_or r (fault_in own takes (next + 1) after)) read)

-- All is written.
pub SoFar-all : {R : Type 0} (own : Command → Option RevokerCommand) (takes : RevokerCommand → Bool) (does : R → RevokerCommand → List Act → R → Type 0) (steps : R → Command → List Act → Reply → R → Type 0)
    (first : ℕ) (old : R) (lines : List (List ℕ)) (before : List ℕ) (next : ℕ) (now : R) (left : List (List ℕ)) (log : List ℕ)
    → SoFar own takes does steps first old lines before next now left log → left ≡ [] → (all : List ℕ) × Writes own takes does steps first old lines all now × (log ≡ before ++ all)
SoFar-all {R} own takes does steps first old lines before next now left log so is =
    let none : Writes own takes does steps next now left [] now = subst (λ (xs : List (List ℕ)). Writes own takes does steps next now xs [] now) (sym is) (refl, refl) in
    let all = so.writes [] now none in
    (all.0, all.1, sym (append-nil log) ∙ all.2)
