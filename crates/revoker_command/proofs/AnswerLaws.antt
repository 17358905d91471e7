-- What the words ask for, and what that answers.
use Rattle.std.proofs.Common.{◌≡◌, ◌≢◌, ℕ, drop, List, Option, Result, Ok, Err, IfOk, IfErr, refl}
use Rattle.command_line.specs.declared.asked.Refusal.{Refusal}
use Rattle.command_line.specs.declared.asked.Refusal.TheVariants.{Memory, Words}
use Rattle.command_line.specs.Asked.{AreWithinLimits, Text}
use Rattle.command_line.specs.Laws.{NamesStates-limits}
use Rattle.program_devices.specs.declared.answer.Answer.{Answer}
use Rattle.program_devices.specs.Answer.{refusal_line, refusal_status, status_of, text_of}
use Rattle.program_devices.specs.Device.{ReadsUpTo, most_read}
use Rattle.revoker_runs.specs.declared.answer.Way.{Way}
use Rattle.revoker_runs.specs.Answer.{IsPlanAnswer, names_fault, tells_log}
use Rattle.revoker_command.specs.declared.words.Choice.{Choice}
use Rattle.revoker_command.specs.Words.{NamesPlan}
use Rattle.revoker_command.specs.Answer.{IsAnswer, lacks_memory, refuses, shows_log, usage_line}

-- Its status is not 4.
plan_status : (way : Way) (input : List ℕ) (status : ℕ) (text : List ℕ) → IsPlanAnswer way input status text → status ≢ 4
plan_status way input status text (tells_log told is) = λ e. absurd cc
plan_status way input status text (names_fault fault reads) = λ e. absurd cc

pub IsPlanAnswer-status : (way : Way) (input : List ℕ) (r : Result Answer Refusal) → IfOk r (λ answer. IsPlanAnswer way input answer.status answer.text.items) → IfOk r (λ answer. answer.status ≢ 4)
IsPlanAnswer-status way input (Ok answer) is = plan_status way input answer.status answer.text.items is
IsPlanAnswer-status way input (Err refusal) is = tt

-- A refusal answers words that ask for nothing, if it is the words that are refused.
pub IsAnswer-refusal : (words : List Text) (unread left : Option (List ℕ)) (refusal : Refusal) → (refusal ≡ Words → (choice : Choice) → NamesPlan words choice → ⊥)
    → IsAnswer words unread left (refusal_status refusal) (refusal_line usage_line refusal)
IsAnswer-refusal words unread left Memory h = lacks_memory
IsAnswer-refusal words unread left Words h = refuses (h refl)

-- What is answered for the bytes read answers the words that name a plan.
pub IsAnswer-plan : (words : List Text) (unread left : Option (List ℕ)) (input : List ℕ) (choice : Choice) (r : Result Answer Refusal) → NamesPlan words choice → ReadsUpTo most_read unread left input
    → IfOk r (λ answer. IsPlanAnswer choice.way input answer.status answer.text.items) → IfErr r (λ refusal. refusal ≡ Memory) → IsAnswer words unread left (status_of r) (text_of usage_line r)
IsAnswer-plan words unread left input choice (Ok answer) named reads is memory = shows_log input choice _ _ named reads is
IsAnswer-plan words unread left input choice (Err Memory) named reads is memory = lacks_memory
IsAnswer-plan words unread left input choice (Err Words) named reads is memory = absurd cc

-- The options have their limits.
pub NamesPlan-limits : (words : List Text) (choice : Choice) → NamesPlan words choice → AreWithinLimits choice.options
NamesPlan-limits words choice named = NamesStates-limits (drop 1 words) choice.options named.options
