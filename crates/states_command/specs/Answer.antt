-- What the program answers: its exit status, and what it writes with it.
use Rattle.std.specs.Prelude.{◌≡◌, ℕ, List, Option, Err, codes}
use Rattle.command_line.specs.declared.asked.Options.{Options}
use Rattle.command_line.specs.Asked.{NamesStates, Text}
use Rattle.trace_text.specs.Reading.{trace_of}
use Rattle.state_data.specs.States.{IsDataOf}
use Rattle.program_devices.specs.Answer.{memory_line}
use Rattle.trace_text.specs.Fault.{line_of_fault}
use Rattle.program_devices.specs.Device.{ReadsUpTo, most_read}
use Rattle.trace_text.specs.declared.fault.TraceFault.{TraceFault}

-- What is written where the words are refused.
abbrev pub usage_line : List ℕ
usage_line = codes "usage: heap_states [--workers N] [--cut N]\n"

-- The text that goes with a status below 4 where these bytes are read: the data of the trace that they are, or the fault
-- that they have by the grammar. No option changes it.
pub data IsStatesAnswer (input : List ℕ) : ℕ → List ℕ → Type 0 where
  tells_states : (text : List ℕ) → IsDataOf input text → IsStatesAnswer input 0 text
  names_fault : (fault : TraceFault) → trace_of input ≡ Err fault → IsStatesAnswer input 3 (line_of_fault fault)

-- The text that goes with a status below 4, for these words and a reader whose known bytes were unread and
-- are left now.
pub data IsAnswer (words : List Text) (unread left : Option (List ℕ)) : ℕ → List ℕ → Type 0 where
  shows_states : (input : List ℕ) (options : Options) (status : ℕ) (text : List ℕ) → NamesStates words options → ReadsUpTo most_read unread left input
      → IsStatesAnswer input status text → IsAnswer words unread left status text
  lacks_memory : IsAnswer words unread left 1 memory_line
  refuses : ((options : Options) → NamesStates words options → ⊥) → IsAnswer words unread left 2 usage_line
