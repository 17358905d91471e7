-- What is answered for a log, from what was found of it.
use Rattle.std.proofs.Common.{◌≡◌, ◌<◌, ◌+◌, ◌++◌, ◌∙◌, ◌∷◌, ℕ, Bool, Err, IfOk, List, Ok, Result, ap, arith, false, get_or, length, refl, subst, sym, take}
use Rattle.std.proofs.Math.Seq.{get_or-append_seam}
use Rattle.std.proofs.lemmas.List.{length-append, take_at}
use Rattle.log_text.specs.declared.fault.LogFault.{LogFault}
use Rattle.log_text.specs.declared.fault.LogFault.TheVariants.{BadAnswer, Trace}
use Rattle.trace_text.specs.declared.fault.TraceFault.TheVariants.{BadCommand, BadCount, BadData, BadHeap, BadNumber, BadRegister, Memory, NoHeap, TooLong}
use Rattle.log_text.specs.declared.log.Event.{Event}
use Rattle.log_text.specs.Log.{Fails, Record, log_of}
use Rattle.given_state.specs.Given.{AreSafe}
use Rattle.machine_steps.specs.State.{State}
use Rattle.heap_log.specs.declared.verdict.Difference.{Difference}
use Rattle.heap_log.specs.declared.verdict.Tally.{Tally}
use Rattle.heap_log.specs.Judged.{AllFollow, DiffersAt, tally_of}
use Rattle.agreed_log.specs.Agreed.{IsAgreed}
use Rattle.log_answer.specs.declared.answer.LogAnswer.{LogAnswer}
use Rattle.log_answer.specs.declared.lines.Origin.{Origin}
use Rattle.log_answer.specs.Answer.{ComesFrom, IsJudged, IsLogAnswer, agrees, differs, due_shown, first_of, is_memory, judged, miscounts, names_fault}
use Rattle.log_answer.specs.Text.{agrees_line, differs_line, line_of_fault}

-- A line that is told with its status.
pub IsJudged-line : {E : Type 0} (log : Record) (status : ℕ) (told : List ℕ) (r : Result LogAnswer E) → IsJudged log status told
    → IfOk r (λ answer. (answer.status ≡ status) × (answer.text.items ≡ told)) → IfOk r (λ answer. IsJudged log answer.status answer.text.items)
IsJudged-line log status told (Ok answer) is same =
    subst (λ said. IsJudged log said answer.text.items) (sym same.0) (subst (IsJudged log status) (sym same.1) is)
IsJudged-line log status told (Err refused) is same = tt

pub IsLogAnswer-fault : {E : Type 0} (input : List ℕ) (fault : LogFault) (r : Result LogAnswer E) → log_of input ≡ Err fault
    → IfOk r (λ answer. (answer.status ≡ 3) × (answer.text.items ≡ line_of_fault fault)) → IfOk r (λ answer. IsLogAnswer input answer.status answer.text.items)
IsLogAnswer-fault input fault (Ok answer) reads is =
    subst (λ status. IsLogAnswer input status answer.text.items) (sym is.0) (subst (IsLogAnswer input 3) (sym is.1) (names_fault fault reads))
IsLogAnswer-fault input fault (Err refused) reads is = tt

-- A fault that lies in the text is the one that is read.
pub Fails-told : {Y : Type 0} (fault : LogFault) (read : Result Y LogFault) → is_memory fault ≡ false → Fails fault read → read ≡ Err fault
Fails-told (Trace Memory) read lies fails = absurd cc
Fails-told (Trace TooLong) read lies fails = fails
Fails-told (Trace (NoHeap line)) read lies fails = fails
Fails-told (Trace (BadHeap line)) read lies fails = fails
Fails-told (Trace (BadCommand line)) read lies fails = fails
Fails-told (Trace (BadCount line)) read lies fails = fails
Fails-told (Trace (BadRegister line)) read lies fails = fails
Fails-told (Trace (BadNumber line)) read lies fails = fails
Fails-told (Trace (BadData line)) read lies fails = fails
Fails-told (BadAnswer line) read lies fails = fails

pub IsLogAnswer-judged : {E : Type 0} (input : List ℕ) (log : Record) (r : Result LogAnswer E) → log_of input ≡ Ok log
    → IfOk r (λ answer. IsJudged log answer.status answer.text.items) → IfOk r (λ answer. IsLogAnswer input answer.status answer.text.items)
IsLogAnswer-judged input log (Ok answer) reads is = judged log answer.status answer.text.items reads is
IsLogAnswer-judged input log (Err refused) reads is = tt

-- All events follow from the first state.
pub IsJudged-agrees : (log : Record) (first last : State) (tally : Tally) → first ≡ first_of log → AreSafe log.base log.pages log.givens
    → AllFollow first log.events last × (tally ≡ tally_of log.events) → IsJudged log 0 (agrees_line tally)
IsJudged-agrees log first last tally same safe all =
    subst (λ t. IsJudged log 0 (agrees_line t)) (sym all.1) (agrees last safe (subst (λ (s : State). AllFollow s log.events last) same all.0))

-- The events before one that differs.
pub before_it : (first : State) (events : List (ℕ × Event)) (line count : ℕ) (difference : Difference) (s : State) → DiffersAt first events line count difference s
    → AllFollow first (take count events) s
before_it first events line count difference s at =
    let same : take count events ≡ at.before = ap (take count) at.parts ∙ take_at at.before ((line, at.event) ∷ at.after) count at.count_is in
    subst (λ (xs : List (ℕ × Event)). AllFollow first xs s) (sym same) at.follow

-- It stands among them.
pub stands : (first : State) (events : List (ℕ × Event)) (line count : ℕ) (difference : Difference) (s : State) → DiffersAt first events line count difference s
    → count < length events
stands first events line count difference s at =
    let whole : length events ≡ length at.before + length ((line, at.event) ∷ at.after) = ap length at.parts ∙ length-append at.before ((line, at.event) ∷ at.after) in
    omega (arith, whole, at.count_is)

-- That event.
pub event_there : (first : State) (events : List (ℕ × Event)) (line count : ℕ) (difference : Difference) (s : State) (at : DiffersAt first events line count difference s)
    (none : ℕ × Event) → (get_or events count none).1 ≡ at.event
event_there first events line count difference s at none =
    ap (λ e. e.1) (ap (λ xs. get_or xs count none) at.parts ∙ ap (λ n. get_or (at.before ++ (line, at.event) ∷ at.after) n none) (sym at.count_is)
    ∙ get_or-append_seam at.before (line, at.event) at.after none)

-- What is told of it, and the words that are due.
pub IsJudged-differs : (log : Record) (line count : ℕ) (difference : Difference) (from : Origin) (s : State) (event : Event) (is_open : Bool) (text : List ℕ)
    → AreSafe log.base log.pages log.givens → (at : DiffersAt (first_of log) log.events line count difference s) → ComesFrom log (take count log.events) difference from
    → event ≡ at.event → is_open ≡ s.heap.is_open → text ≡ differs_line line event is_open from difference ++ due_shown (miscounts event difference) s → IsJudged log 5 text
IsJudged-differs log line count difference from s event is_open text safe at comes same opened is =
    let whole : text ≡ differs_line line at.event s.heap.is_open from difference ++ due_shown (miscounts at.event difference) s =
    is ∙ ap (λ (e : Event). differs_line line e is_open from difference ++ due_shown (miscounts e difference) s) same
    ∙ ap (λ b. differs_line line at.event b from difference ++ due_shown (miscounts at.event difference) s) opened in
    subst (IsJudged log 5) (sym whole) (differs line count difference from s safe at comes)

-- The text is found to agree in one pass.
pub IsLogAnswer-agrees : {E : Type 0} (input : List ℕ) (tally : Tally) (r : Result LogAnswer E) → IsAgreed input tally
    → IfOk r (λ answer. (answer.status ≡ 0) × (answer.text.items ≡ agrees_line tally)) → IfOk r (λ answer. IsLogAnswer input answer.status answer.text.items)
IsLogAnswer-agrees input tally r is told =
    let first = first_of is.log in
    IsLogAnswer-judged input is.log r is.reads (IsJudged-line is.log 0 (agrees_line tally) r (IsJudged-agrees is.log first is.last tally refl is.safe (is.follow, is.tally_is)) told)
