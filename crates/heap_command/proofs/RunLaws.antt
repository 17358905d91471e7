-- What a run answers.
use Rattle.std.proofs.Common.{◌≡◌, ◌∙◌, ℕ, ap, ap₂, sym, subst, List, ◌++◌, Result, Ok, Err, IfOk}
use Rattle.command_line.specs.declared.asked.Options.{Options}
use Rattle.command_line.specs.declared.asked.Refusal.{Refusal}
use Rattle.trace_text.specs.declared.fault.TraceFault.{TraceFault}
use Rattle.trace_report.specs.declared.outcome.Outcome.{Outcome}
use Rattle.trace_report.specs.Image.{image_of}
use Rattle.trace_report.specs.Outcome.{IsOutcome}
use Rattle.trace_text.specs.Reading.{Script, trace_of}
use Rattle.trace_report.specs.Report.{report_text}
use Rattle.program_devices.specs.declared.answer.Answer.{Answer}
use Rattle.trace_text.specs.Fault.{line_of_fault}
use Rattle.heap_command.specs.Answer.{IsRunAnswer, image_shown, names_fault, reports}

-- The report of a run, and the image of its memory if asked for, are its answer.
pub IsRunAnswer-report : (input : List ℕ) (options : Options) (script : Script) (o : Outcome) (r : Result Answer Refusal) → trace_of input ≡ Ok script → IsOutcome script o
    → IfOk r (λ answer. (answer.status ≡ 0) × (answer.text.items ≡ o.report.items ++ image_shown options (image_of o.memory.base o.memory.granules))) → IfOk r (λ answer. IsRunAnswer input options answer.status answer.text.items)
IsRunAnswer-report input options script o (Ok answer) reads is told =
    let text : answer.text.items ≡ report_text script.commands is.replies is.last ++ image_shown options (image_of is.last.heap.base is.last.granules) = told.1 ∙ (ap (λ xs. xs ++ image_shown options (image_of o.memory.base o.memory.granules)) is.report ∙ ap₂ (λ base granules. report_text script.commands is.replies is.last ++ image_shown options (image_of base granules)) is.base is.granules) in
    let answers : IsRunAnswer input options 0 (report_text script.commands is.replies is.last ++ image_shown options (image_of is.last.heap.base is.last.granules)) = reports script is.replies is.last reads is.run in
    subst (λ status. IsRunAnswer input options status answer.text.items) (sym told.0) (subst (IsRunAnswer input options 0) (sym text) answers)
IsRunAnswer-report input options script o (Err refusal) reads is told = tt

-- The line of a fault is the answer where the text has that fault.
pub IsRunAnswer-fault : (input : List ℕ) (options : Options) (fault : TraceFault) (r : Result Answer Refusal) → trace_of input ≡ Err fault
    → IfOk r (λ answer. (answer.status ≡ 3) × (answer.text.items ≡ line_of_fault fault)) → IfOk r (λ answer. IsRunAnswer input options answer.status answer.text.items)
IsRunAnswer-fault input options fault (Ok answer) reads is =
    subst (λ status. IsRunAnswer input options status answer.text.items) (sym is.0) (subst (IsRunAnswer input options 3) (sym is.1) (names_fault fault reads))
IsRunAnswer-fault input options fault (Err refusal) reads is = tt
