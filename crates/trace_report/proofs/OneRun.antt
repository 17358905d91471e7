-- From each state commands have one run, and a trace has one outcome.
use Rattle.std.proofs.Common.{◌≡◌, ◌∙◌, ℕ, List, [], ◌∷◌, Ok, refl, sym, subst}
use Rattle.trace_text.specs.declared.trace.Command.{Command}
use Rattle.trace_text.specs.Reading.{Script}
use Rattle.trace_report.specs.declared.outcome.Outcome.{Outcome}
use Rattle.heap_reply.specs.declared.reply.Reply.{Reply}
use Rattle.trace_report.specs.Outcome.{HasOutcome, IsOutcome}
use Rattle.trace_report.specs.Report.{report_text}
use Rattle.trace_report.specs.Run.{Run}
use Rattle.machine_steps.specs.State.{State}
use Rattle.machine_steps.specs.Step.{Step}

-- From each state each command has a step, and no other: the law `steps`.
abbrev pub HaveSteps : Type 0
HaveSteps = (old : State) (c : Command) → (r : Reply) × (new : State) × Step old c r new

abbrev pub HaveOneStep : Type 0
HaveOneStep = (old : State) (c : Command) (r s : Reply) (m n : State) → Step old c r m → Step old c s n → (r ≡ s) × (m ≡ n)

pub Run-some : HaveSteps → (first : State) (cs : List Command) → (rs : List Reply) × (last : State) × Run first cs rs last
Run-some steps first [] = ([], first, refl)
Run-some steps first (c ∷ cs) =
    let step = steps first c in
    let rest = Run-some steps step.1 cs in
    (step.0 ∷ rest.0, rest.1, (step.1, step.2, rest.2))

pub Run-only : HaveOneStep → (first : State) (cs : List Command) (rs ss : List Reply) (m n : State) → Run first cs rs m → Run first cs ss n → (rs ≡ ss) × (m ≡ n)
Run-only one first [] [] [] m n p q = (refl, p ∙ sym q)
Run-only one first [] (r ∷ rs) ss m n p q = absurd p
Run-only one first [] [] (s ∷ ss) m n p q = absurd q
Run-only one first (c ∷ cs) [] ss m n p q = absurd p
Run-only one first (c ∷ cs) (r ∷ rs) [] m n p q = absurd q
Run-only one first (c ∷ cs) (r ∷ rs) (s ∷ ss) m n p q =
    let here = one first c r s p.0 q.0 p.1 q.1 in
    let rest = Run-only one p.0 cs rs ss m n p.2 (subst (λ (mid : State). Run mid cs ss n) (sym here.1) q.2) in
    let both : r ∷ rs ≡ s ∷ ss = cc in
    (both, rest.1)

pub IsOutcome-only : HaveOneStep → (script : Script) (a b : Outcome) → IsOutcome script a → IsOutcome script b
    → (a.report.items ≡ b.report.items) × (a.registers ≡ b.registers) × (a.memory.base ≡ b.memory.base) × (a.memory.granules ≡ b.memory.granules)
IsOutcome-only one script a b p q =
    let same = Run-only one _ _ p.replies q.replies p.last q.last p.run q.run in
    let text : report_text script.commands p.replies p.last ≡ report_text script.commands q.replies q.last = cc in
    let base : p.last.heap.base ≡ q.last.heap.base = cc in
    let granules : p.last.granules ≡ q.last.granules = cc in
    let registers : p.last.registers ≡ q.last.registers = cc in
    (p.report ∙ text ∙ sym q.report, p.registers ∙ registers ∙ sym q.registers, p.base ∙ base ∙ sym q.base, p.granules ∙ granules ∙ sym q.granules)

pub Answers-only : HaveOneStep → (text : List ℕ) (a b : Outcome) → HasOutcome text (Ok a) → HasOutcome text (Ok b)
    → (a.report.items ≡ b.report.items) × (a.registers ≡ b.registers) × (a.memory.base ≡ b.memory.base) × (a.memory.granules ≡ b.memory.granules)
Answers-only one text a b p q =
    let read = p.1 in
    let read_again = q.1 in
    let same : q.0 ≡ p.0 = cc in
    IsOutcome-only one p.0 a b p.2 (subst (λ (script : Script). IsOutcome script b) same q.2)
