-- What the program answers: its exit status, and what it writes with it.
use Rattle.std.specs.Prelude.{ℕ, List, Option, codes}
use Rattle.command_line.specs.Asked.{Text}
use Rattle.program_devices.specs.Answer.{memory_line}
use Rattle.program_devices.specs.Device.{ReadsUpTo, most_read}
use Rattle.revoker_runs.specs.Answer.{IsPlanAnswer}
use Rattle.revoker_command.specs.declared.words.Choice.{Choice}
use Rattle.revoker_command.specs.Words.{NamesPlan}

-- What is written where the words are refused.
abbrev pub usage_line : List ℕ
usage_line = codes "usage: heap_revoker by-hand|cornucopia|reloaded [--workers N] [--cut N]\n"

-- The text that goes with a status below 4, for these words and a reader whose known bytes were unread and
-- are left now. No option changes it.
pub data IsAnswer (words : List Text) (unread left : Option (List ℕ)) : ℕ → List ℕ → Type 0 where
  shows_log : (input : List ℕ) (choice : Choice) (status : ℕ) (text : List ℕ) → NamesPlan words choice → ReadsUpTo most_read unread left input
      → IsPlanAnswer choice.way input status text → IsAnswer words unread left status text
  lacks_memory : IsAnswer words unread left 1 memory_line
  refuses : ((choice : Choice) → NamesPlan words choice → ⊥) → IsAnswer words unread left 2 usage_line
