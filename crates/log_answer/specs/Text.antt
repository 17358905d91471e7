-- The lines that are said of a log.
use Rattle.std.specs.Prelude.{◌==◌, ℕ, Bool, List, [], ◌∷◌, ◌++◌, codes, flat_map, length, take, if◌then◌else◌}
use Rattle.std.specs.Fmt.{decimal}
use Rattle.std.specs.List.{concat}
use Rattle.hex.specs.Hex.{encode_lower}
use Rattle.heap_model.specs.declared.block.Block.{Block}
use Rattle.heap_model.specs.declared.block.Obstacle.{Obstacle}
use Rattle.heap_model.specs.declared.block.Obstacle.TheVariants.{Empty, Inexact, Outside, OverHeld, OverLive, Uneven}
use Rattle.heap_reply.specs.declared.reply.Reply.TheVariants.{Block as HandsOut, BlockAfter as HandsOutAfter}
use Rattle.heap_reply.specs.ReplyText.{text_of_reply, block_text}
use Rattle.heap_reply.specs.Display.{bit_text, hexadecimal_text, join_pieces}
use Rattle.log_text.specs.declared.fault.LogFault.{LogFault}
use Rattle.log_text.specs.declared.log.Event.{Event}
use Rattle.log_text.specs.declared.log.Event.TheVariants.{Done, Revoked, Seen}
use Rattle.log_text.specs.Fault.{log_fault_text}
use Rattle.revoker_steps.specs.RevokerText.{text_of_revoker_reply}
use Rattle.given_state.specs.declared.fault.Lack.{Lack}
use Rattle.given_state.specs.declared.fault.Lack.TheVariants as lack
use Rattle.machine_storage.specs.declared.followed.Why.{Why}
use Rattle.machine_storage.specs.declared.followed.Why.TheVariants as why
use Rattle.heap_log.specs.declared.due.DueWord.{DueWord}
use Rattle.heap_log.specs.declared.due.DueWord.TheVariants as word
use Rattle.heap_log.specs.declared.verdict.Difference.{Difference}
use Rattle.heap_log.specs.declared.verdict.Difference.TheVariants.{Answer, Granule, NoGranule, Step}
use Rattle.heap_log.specs.declared.verdict.Tally.{Tally}
use Rattle.log_answer.specs.declared.lines.Noun.{Noun}
use Rattle.log_answer.specs.declared.lines.Noun.TheVariants as noun
use Rattle.log_answer.specs.declared.lines.Origin.{Origin}
use Rattle.log_answer.specs.declared.lines.Origin.TheVariants as origin

-- What is written of a text that is no log. Its fault is never want of memory.
abbrev pub line_of_fault : LogFault → List ℕ
line_of_fault fault = concat (codes "fault " ∷ log_fault_text fault ∷ codes "\n" ∷ [])

-- What is counted: one of it, and more.
abbrev pub noun_text : Noun → List ℕ
noun_text noun.Command = codes "command"
noun_text noun.Block = codes "block"
noun_text noun.Pass = codes "pass"
noun_text noun.Tag = codes "tag"
noun_text noun.Word = codes "word"

abbrev pub plural_text : Noun → List ℕ
plural_text noun.Pass = codes "passes"
plural_text noun = noun_text noun ++ codes "s"

-- So many of it.
abbrev pub counted_text : ℕ → Noun → List ℕ
counted_text count noun =
    if count == 1 then (codes "1 " ++ noun_text noun) else join_pieces (decimal count ∷ codes " " ∷ plural_text noun ∷ [])

-- What is written of a log that agrees.
abbrev pub agrees_line : Tally → List ℕ
agrees_line tally =
    concat (
    codes "agrees " ∷ counted_text tally.commands noun.Command ∷ codes ", " ∷ counted_text tally.blocks noun.Block ∷ codes " handed out, "
    ∷ counted_text tally.passes noun.Pass ∷ codes ", " ∷ counted_text tally.tags noun.Tag ∷ codes " taken\n" ∷ []
    )

-- Where a block that is in the way came from.
abbrev pub origin_text : Origin → List ℕ
origin_text (origin.HandedOut line) = codes ", handed out at line " ++ decimal line
origin_text (origin.Freed line) = codes ", freed at line " ++ decimal line
origin_text (origin.Given line) = codes ", given at line " ++ decimal line
origin_text origin.Unknown = []

-- The block with it.
abbrev pub way_text : Block → Origin → List ℕ
way_text block from = join_pieces (hexadecimal_text block.base ∷ codes " " ∷ hexadecimal_text block.top ∷ origin_text from ∷ [])

-- Why a block may not lie where it is told to.
abbrev pub refused_text : Obstacle → Origin → List ℕ
refused_text Uneven from = codes " is not whole granules"
refused_text Empty from = codes " is empty"
refused_text Outside from = codes " lies outside the heap"
refused_text Inexact from = codes " has bounds that no capability holds"
refused_text (OverLive block) from = codes " lies over the live block " ++ way_text block from
refused_text (OverHeld block) from = codes " lies over the held block " ++ way_text block from

-- The block that an event hands out.
abbrev pub said_block_text : Event → List ℕ
said_block_text (Done command (HandsOut base top)) = block_text base top
said_block_text (Done command (HandsOutAfter base top cleared)) = block_text base top
said_block_text event = []

-- A tag and 16 bytes.
abbrev pub content_text : Bool → List ℕ → List ℕ
content_text tag bytes = join_pieces (bit_text tag ∷ codes " " ∷ encode_lower bytes ∷ [])

-- What the log says: an answer, or what was seen.
abbrev pub said_text : Event → List ℕ
said_text (Done command answer) = text_of_reply answer
said_text (Revoked command answer) = text_of_revoker_reply answer
said_text (Seen address tag bytes) = content_text tag bytes

-- It stands behind what must be.
abbrev pub and_said : Event → List (List ℕ)
and_said event = codes ", and the log says " ∷ said_text event ∷ []

-- Why the answer of an event isn't allowed, where an epoch is open or none is.
abbrev pub why_text : Event → Bool → Origin → Why → List ℕ
why_text event is_open from (why.MustBe reply) = join_pieces (codes "the answer must be " ∷ text_of_reply reply ∷ and_said event)
why_text event is_open from why.NotOfMalloc = join_pieces (codes "a malloc is answered by a block or by nospace" ∷ and_said event)
why_text event is_open from why.TooShort = said_block_text event ++ codes " is shorter than the size asked for"
why_text event is_open from why.MayNotSweep =
    if is_open then codes "no sweep may be told: an epoch is open" else codes "no sweep may be told: no block waits"
why_text event is_open from (why.Takes count) = join_pieces (codes "the sweep takes " ∷ counted_text count noun.Tag ∷ and_said event)
why_text event is_open from (why.Refused reason) = said_block_text event ++ refused_text reason from

-- How a log differs.
abbrev pub difference_text : Event → Bool → Origin → Difference → List ℕ
difference_text event is_open from (Answer reason) = why_text event is_open from reason
difference_text event is_open from (Step reply) = join_pieces (codes "the answer must be " ∷ text_of_revoker_reply reply ∷ and_said event)
difference_text event is_open from NoGranule = codes "no granule of the heap lies at this address"
difference_text event is_open from (Granule tag bytes) = join_pieces (codes "the granule holds " ∷ content_text tag bytes ∷ and_said event)

abbrev pub differs_line : ℕ → Event → Bool → Origin → Difference → List ℕ
differs_line line event is_open from difference =
    concat (codes "differs " ∷ decimal line ∷ codes ": " ∷ difference_text event is_open from difference ∷ codes "\n" ∷ [])

-- A word that is due.
abbrev pub due_line : DueWord → List ℕ
due_line (word.Register r base) = concat (codes "c" ∷ decimal r ∷ codes " base " ∷ hexadecimal_text base ∷ codes "\n" ∷ [])
due_line (word.Granule address base) = concat (codes "granule " ∷ hexadecimal_text address ∷ codes " base " ∷ hexadecimal_text base ∷ codes "\n" ∷ [])

-- The first 100 of them, and how many they are.
abbrev pub due_text : List DueWord → List ℕ
due_text words = flat_map due_line (take 100 words) ++ concat (counted_text (length words) noun.Word ∷ codes " due\n" ∷ [])

-- What a given line lacks.
abbrev pub lack_text : Origin → Lack → List ℕ
lack_text from (lack.Block (OverLive block)) = codes "the block lies over the block " ++ way_text block from
lack_text from (lack.Block reason) = codes "the block" ++ refused_text reason from
lack_text from (lack.RegisterAgain r line) = concat (codes "register c" ∷ decimal r ∷ codes " was given at line " ∷ decimal line ∷ [])
lack_text from (lack.GranuleAgain address line) =
    concat (codes "granule " ∷ hexadecimal_text address ∷ codes " was given at line " ∷ decimal line ∷ [])
lack_text from lack.NotNull = codes "register c0 is always null"
lack_text from lack.NoGranule = codes "no granule of the heap lies at this address"
lack_text from (lack.Unguarded base top) =
    join_pieces (codes "the word's bounds " ∷ hexadecimal_text base ∷ codes " " ∷ hexadecimal_text top ∷ codes " lie in no block" ∷ [])

abbrev pub unsafe_line : ℕ → Origin → Lack → List ℕ
unsafe_line line from lack = concat (codes "unsafe " ∷ decimal line ∷ codes ": " ∷ lack_text from lack ∷ codes "\n" ∷ [])
