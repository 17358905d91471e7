-- What the words ask for, and what that answers.
use Rattle.std.proofs.Common.{◌≡◌, ◌≢◌, ℕ, List, Option, Result, Ok, Err, IfOk, IfErr, refl}
use Rattle.command_line.specs.declared.asked.Options.{Options}
use Rattle.command_line.specs.declared.asked.Refusal.{Refusal}
use Rattle.command_line.specs.declared.asked.Refusal.TheVariants.{Memory, Words}
use Rattle.command_line.specs.Asked.{NamesStates, Text}
use Rattle.log_text.specs.Log.{Record}
use Rattle.program_devices.specs.declared.answer.Answer.{Answer}
use Rattle.program_devices.specs.Answer.{refusal_line, refusal_status, status_of, text_of}
use Rattle.program_devices.specs.Device.{ReadsUpTo}
use Rattle.log_answer.specs.Answer.{IsJudged, IsLogAnswer, agrees, differs, judged, lacks, names_fault}
use Rattle.check_command.specs.Answer.{IsAnswer, judges, lacks_memory, most_read, refuses}
use Rattle.check_command.specs.Text.{usage_line}

-- No answer has the status 4.
judged_status : (log : Record) (status : ℕ) (text : List ℕ) → IsJudged log status text → status ≢ 4
judged_status log status text (agrees last safe follow) = λ e. absurd cc
judged_status log status text (differs line count difference from s safe at comes) = λ e. absurd cc
judged_status log status text (lacks line lack flaw) = λ e. absurd cc

log_status : (input : List ℕ) (status : ℕ) (text : List ℕ) → IsLogAnswer input status text → status ≢ 4
log_status input status text (judged log said told reads is) = judged_status log said told is
log_status input status text (names_fault fault reads) = λ e. absurd cc

pub IsLogAnswer-status : (input : List ℕ) (r : Result Answer Refusal) → IfOk r (λ answer. IsLogAnswer input answer.status answer.text.items) → IfOk r (λ answer. answer.status ≢ 4)
IsLogAnswer-status input (Ok answer) is = log_status input answer.status answer.text.items is
IsLogAnswer-status input (Err refusal) is = tt

-- A refusal answers words that ask for nothing, if it is the words that are refused.
pub IsAnswer-refusal : (words : List Text) (unread left : Option (List ℕ)) (refusal : Refusal) → (refusal ≡ Words → (options : Options) → NamesStates words options → ⊥)
    → IsAnswer words unread left (refusal_status refusal) (refusal_line usage_line refusal)
IsAnswer-refusal words unread left Memory h = lacks_memory
IsAnswer-refusal words unread left Words h = refuses (h refl)

-- What is answered for the bytes read answers the words that ask for it.
pub IsAnswer-judged : (words : List Text) (unread left : Option (List ℕ)) (input : List ℕ) (options : Options) (r : Result Answer Refusal) → NamesStates words options → ReadsUpTo most_read unread left input
    → IfOk r (λ answer. IsLogAnswer input answer.status answer.text.items) → IfErr r (λ refusal. refusal ≡ Memory) → IsAnswer words unread left (status_of r) (text_of usage_line r)
IsAnswer-judged words unread left input options (Ok answer) named reads is memory = judges input options _ _ named reads is
IsAnswer-judged words unread left input options (Err Memory) named reads is memory = lacks_memory
IsAnswer-judged words unread left input options (Err Words) named reads is memory = absurd cc
