-- What the words ask for, and what that answers.
use Rattle.std.proofs.Common.{◌≡◌, ◌≢◌, ℕ, ap, sym, subst, List, Option, Result, Ok, Err, IfOk, IfErr, refl}
use Rattle.cap_codec.specs.declared.word.Word.{Word}
use Rattle.command_line.specs.declared.asked.Options.{Options}
use Rattle.command_line.specs.declared.asked.Refusal.{Refusal}
use Rattle.command_line.specs.declared.asked.Refusal.TheVariants.{Memory, Words}
use Rattle.command_line.specs.Laws.{NamesWord-run, NamesWord-unique}
use Rattle.command_line.specs.Asked.{NamesNothing, NamesRun, NamesWord, Text}
use Rattle.program_devices.specs.declared.answer.Answer.{Answer}
use Rattle.program_devices.specs.Answer.{refusal_line, refusal_status, status_of, text_of}
use Rattle.program_devices.specs.Device.{ReadsUpTo, most_read}
use Rattle.heap_command.specs.Answer.{IsAnswer, IsRunAnswer, lacks_memory, names_fault, refuses, reports, shows_run, shows_word}
use Rattle.heap_reply.specs.WordLine.{word_line}
use Rattle.heap_command.specs.Text.{usage_line}
use Rattle.heap_command.specs.Hex.{AskForNothing, IsTextOf}

-- ---- words

-- Where the named text is no word's, the words ask for nothing.
AskForNothing-text : (words : List Text) (hex : Text) → NamesWord words hex → ((w : Word) → IsTextOf hex w → ⊥) → AskForNothing words
AskForNothing-text words hex named none = record {
  run = NamesWord-run words hex named;
  word = λ w asks.
      let same = NamesWord-unique words asks.hex hex asks.named named in
      none w (subst (λ t. IsTextOf t w) same asks.text);
}

-- ---- runs

-- Its status is not 4.
run_status : (input : List ℕ) (options : Options) (status : ℕ) (text : List ℕ) → IsRunAnswer input options status text → status ≢ 4
run_status input options status text (reports script replies last reads run) = λ e. absurd cc
run_status input options status text (names_fault fault reads) = λ e. absurd cc

pub IsRunAnswer-status : (input : List ℕ) (options : Options) (r : Result Answer Refusal) → IfOk r (λ answer. IsRunAnswer input options answer.status answer.text.items) → IfOk r (λ answer. answer.status ≢ 4)
IsRunAnswer-status input options (Ok answer) is = run_status input options answer.status answer.text.items is
IsRunAnswer-status input options (Err refusal) is = tt

-- ---- answers

-- A refusal answers words that ask for nothing, if it is the words that are refused.
IsAnswer-refused : (words : List Text) (unread left : Option (List ℕ)) (refusal : Refusal) → (refusal ≡ Words → AskForNothing words)
    → IsAnswer words unread left (refusal_status refusal) (refusal_line usage_line refusal)
IsAnswer-refused words unread left Memory h = lacks_memory
IsAnswer-refused words unread left Words h = refuses (h refl)

-- A refusal answers words that name nothing.
pub IsAnswer-refusal : (words : List Text) (unread left : Option (List ℕ)) (refusal : Refusal) → (refusal ≡ Words → NamesNothing words)
    → IsAnswer words unread left (refusal_status refusal) (refusal_line usage_line refusal)
IsAnswer-refusal words unread left refusal h =
    IsAnswer-refused words unread left refusal (λ e. record { run = (h e).run; word = λ w asks. (h e).word asks.hex asks.named })

-- What is answered for the text that the words name answers the words.
pub IsAnswer-word : (words : List Text) (unread left : Option (List ℕ)) (hex : Text) (r : Result Answer Refusal) → NamesWord words hex
    → IfOk r (λ answer. answer.status ≡ 0) → IfOk r (λ answer. (w : Word) × IsTextOf hex w × (answer.text.items ≡ word_line w))
    → (r ≡ Err Words → (w : Word) → IsTextOf hex w → ⊥) → IsAnswer words unread left (status_of r) (text_of usage_line r)
IsAnswer-word words unread left hex (Ok answer) named status (w, is, line) none =
    let shows : IsAnswer words unread left 0 (word_line w) = shows_word w (record { hex = hex; named = named; text = is }) in
    subst (λ n. IsAnswer words unread left n answer.text.items) (sym status) (subst (IsAnswer words unread left 0) (sym line) shows)
IsAnswer-word words unread left hex (Err refusal) named status is none =
    IsAnswer-refused words unread left refusal (λ e. AskForNothing-text words hex named (none (ap Err e)))

-- What is answered for the bytes read answers the words that name `run`.
pub IsAnswer-run : (words : List Text) (unread left : Option (List ℕ)) (input : List ℕ) (options : Options) (r : Result Answer Refusal) → NamesRun words options → ReadsUpTo most_read unread left input
    → IfOk r (λ answer. IsRunAnswer input options answer.status answer.text.items) → IfErr r (λ refusal. refusal ≡ Memory) → IsAnswer words unread left (status_of r) (text_of usage_line r)
IsAnswer-run words unread left input options (Ok answer) named reads is memory = shows_run input options _ _ named reads is
IsAnswer-run words unread left input options (Err Memory) named reads is memory = lacks_memory
IsAnswer-run words unread left input options (Err Words) named reads is memory = absurd cc
