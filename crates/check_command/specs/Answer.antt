-- What the program answers: its exit status, and what it writes with it.
use Rattle.std.specs.Prelude.{ℕ, ◌+◌, List, Option}
use Rattle.command_line.specs.declared.asked.Options.{Options}
use Rattle.command_line.specs.Asked.{NamesStates, Text}
use Rattle.log_text.specs.Log.{longest_log}
use Rattle.program_devices.specs.Answer.{memory_line}
use Rattle.program_devices.specs.Device.{ReadsUpTo}
use Rattle.log_answer.specs.Answer.{IsLogAnswer}
use Rattle.check_command.specs.Text.{usage_line}

-- The most bytes that are read: one more than a log has.
abbrev pub most_read : ℕ
most_read = longest_log + 1

-- The text that goes with a status, for these words and a reader whose known bytes were unread and are left now.
pub data IsAnswer (words : List Text) (unread left : Option (List ℕ)) : ℕ → List ℕ → Type 0 where
  judges : (input : List ℕ) (options : Options) (status : ℕ) (text : List ℕ) → NamesStates words options → ReadsUpTo most_read unread left input
      → IsLogAnswer input status text → IsAnswer words unread left status text
  lacks_memory : IsAnswer words unread left 1 memory_line
  refuses : ((options : Options) → NamesStates words options → ⊥) → IsAnswer words unread left 2 usage_line
