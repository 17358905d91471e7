-- What the program answers: its exit status, and what it writes with it.
use Rattle.std.specs.Prelude.{◌≡◌, ℕ, List, [], ◌++◌, Option, Ok, Err, map, if◌then◌else◌}
use Rattle.cap_codec.specs.declared.word.Word.{Word}
use Rattle.command_line.specs.declared.asked.Options.{Options}
use Rattle.command_line.specs.Asked.{NamesRun, Text}
use Rattle.trace_text.specs.declared.fault.TraceFault.{TraceFault}
use Rattle.heap_reply.specs.declared.reply.Reply.{Reply}
use Rattle.trace_text.specs.Reading.{Script, trace_of}
use Rattle.trace_report.specs.Report.{report_text}
use Rattle.trace_report.specs.Run.{Run}
use Rattle.trace_report.specs.Image.{image_of}
use Rattle.machine_steps.specs.State.{State, first_state}
use Rattle.program_devices.specs.Answer.{memory_line}
use Rattle.trace_text.specs.Fault.{line_of_fault}
use Rattle.program_devices.specs.Device.{ReadsUpTo, most_read}
use Rattle.heap_reply.specs.WordLine.{word_line}
use Rattle.heap_command.specs.Text.{usage_line}
use Rattle.heap_command.specs.Hex.{AskForNothing, AsksForLineOf}

-- An image, where it is asked for.
abbrev pub image_shown : Options → List ℕ → List ℕ
image_shown options image = if options.image then image else []

-- The text that goes with a status below 4 where these bytes are run with these options: the report of the
-- definition's run of the trace that they are, and the image that it leaves if asked for, or the fault that
-- they have by the grammar.
pub data IsRunAnswer (input : List ℕ) (options : Options) : ℕ → List ℕ → Type 0 where
  reports : (script : Script) (replies : List Reply) (last : State) → trace_of input ≡ Ok script
      → Run (first_state script.base script.pages) (map (λ c. c.1) script.commands) replies last
      → IsRunAnswer input options 0 (report_text script.commands replies last ++ image_shown options (image_of last.heap.base last.granules))
  names_fault : (fault : TraceFault) → trace_of input ≡ Err fault → IsRunAnswer input options 3 (line_of_fault fault)

-- The text that goes with a status below 4, for these words and a reader whose known bytes were unread and
-- are left now.
pub data IsAnswer (words : List Text) (unread left : Option (List ℕ)) : ℕ → List ℕ → Type 0 where
  shows_word : (w : Word) → AsksForLineOf words w → IsAnswer words unread left 0 (word_line w)
  shows_run : (input : List ℕ) (options : Options) (status : ℕ) (text : List ℕ) → NamesRun words options → ReadsUpTo most_read unread left input
      → IsRunAnswer input options status text → IsAnswer words unread left status text
  lacks_memory : IsAnswer words unread left 1 memory_line
  refuses : AskForNothing words → IsAnswer words unread left 2 usage_line
