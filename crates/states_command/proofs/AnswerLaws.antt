-- What the words ask for, and what that answers.
use Rattle.std.proofs.Common.{◌≡◌, ◌≢◌, ℕ, sym, subst, List, Option, Result, Ok, Err, IfOk, IfErr, refl}
use Rattle.command_line.specs.declared.asked.Options.{Options}
use Rattle.command_line.specs.declared.asked.Refusal.{Refusal}
use Rattle.command_line.specs.declared.asked.Refusal.TheVariants.{Memory, Words}
use Rattle.command_line.specs.Asked.{NamesStates, Text}
use Rattle.trace_text.specs.Reading.{trace_of}
use Rattle.trace_text.specs.declared.fault.TraceFault.{TraceFault}
use Rattle.program_devices.specs.declared.answer.Answer.{Answer}
use Rattle.program_devices.specs.Answer.{refusal_line, refusal_status, status_of, text_of}
use Rattle.trace_text.specs.Fault.{line_of_fault}
use Rattle.program_devices.specs.Device.{ReadsUpTo, most_read}
use Rattle.states_command.specs.Answer.{IsAnswer, IsStatesAnswer, lacks_memory, names_fault, refuses, shows_states, tells_states, usage_line}

-- The line of a fault is the answer where the text has that fault.
pub IsStatesAnswer-fault : (input : List ℕ) (fault : TraceFault) (r : Result Answer Refusal) → trace_of input ≡ Err fault
    → IfOk r (λ answer. (answer.status ≡ 3) × (answer.text.items ≡ line_of_fault fault)) → IfOk r (λ answer. IsStatesAnswer input answer.status answer.text.items)
IsStatesAnswer-fault input fault (Ok answer) reads is =
    subst (λ status. IsStatesAnswer input status answer.text.items) (sym is.0) (subst (IsStatesAnswer input 3) (sym is.1) (names_fault fault reads))
IsStatesAnswer-fault input fault (Err refusal) reads is = tt

-- Its status is not 4.
states_status : (input : List ℕ) (status : ℕ) (text : List ℕ) → IsStatesAnswer input status text → status ≢ 4
states_status input status text (tells_states told is) = λ e. absurd cc
states_status input status text (names_fault fault reads) = λ e. absurd cc

pub IsStatesAnswer-status : (input : List ℕ) (r : Result Answer Refusal) → IfOk r (λ answer. IsStatesAnswer input answer.status answer.text.items) → IfOk r (λ answer. answer.status ≢ 4)
IsStatesAnswer-status input (Ok answer) is = states_status input answer.status answer.text.items is
IsStatesAnswer-status input (Err refusal) is = tt

-- A refusal answers words that ask for nothing, if it is the words that are refused.
pub IsAnswer-refusal : (words : List Text) (unread left : Option (List ℕ)) (refusal : Refusal) → (refusal ≡ Words → (options : Options) → NamesStates words options → ⊥)
    → IsAnswer words unread left (refusal_status refusal) (refusal_line usage_line refusal)
IsAnswer-refusal words unread left Memory h = lacks_memory
IsAnswer-refusal words unread left Words h = refuses (h refl)

-- What is answered for the bytes read answers the words that name states.
pub IsAnswer-states : (words : List Text) (unread left : Option (List ℕ)) (input : List ℕ) (options : Options) (r : Result Answer Refusal) → NamesStates words options → ReadsUpTo most_read unread left input
    → IfOk r (λ answer. IsStatesAnswer input answer.status answer.text.items) → IfErr r (λ refusal. refusal ≡ Memory) → IsAnswer words unread left (status_of r) (text_of usage_line r)
IsAnswer-states words unread left input options (Ok answer) named reads is memory = shows_states input options _ _ named reads is
IsAnswer-states words unread left input options (Err Memory) named reads is memory = lacks_memory
IsAnswer-states words unread left input options (Err Words) named reads is memory = absurd cc
