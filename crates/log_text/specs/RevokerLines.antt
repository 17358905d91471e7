-- What a revoker does, told in a log: which words are which command, and which are which answer. They are those of the text that
-- an answer has (revoker_steps' text_of_revoker_reply), with each number in the one form that is written there.
use Rattle.std.specs.Prelude.{◌≡◌, ◌<◌, ◌^◌, ℕ, List, [], ◌∷◌, take, Option, Some, None, Result, Ok, codes, if◌then◌else◌, bytes_eq, option_and_then}
use Rattle.std.specs.Option.{ok_or, option_map}
use Rattle.trace_text.specs.declared.fault.LineFault.{LineFault}
use Rattle.trace_text.specs.declared.fault.LineFault.TheVariants.{BadNumber}
use Rattle.trace_text.specs.Lines.{words_of}
use Rattle.trace_text.specs.Reading.{◌>>=◌, below_limit, no_word_in, number_in, number_of, one_word_in, register_in}
use Rattle.revoker_steps.specs.declared.command.RevokerCommand.{RevokerCommand}
use Rattle.revoker_steps.specs.declared.command.RevokerCommand.TheVariants.{UntagGranule, UntagRegister}
use Rattle.revoker_steps.specs.declared.command.RevokerReply.{RevokerReply}
use Rattle.revoker_steps.specs.declared.command.RevokerReply.TheVariants.{Cleared, Done, Released}
use Rattle.revoker_steps.specs.declared.command.RevokerReply.TheVariants as reply
use Rattle.revoker_steps.specs.declared.command.RevokerTrap.{RevokerTrap}
use Rattle.revoker_steps.specs.declared.command.RevokerTrap.TheVariants as trap
use Rattle.revoker_steps.specs.RevokerText.{text_of_revoker_reply}
use Rattle.log_text.specs.ReplyText.{decimal_in}

-- ---- commands

-- the number of a page, or what is wrong with a word that writes none of 32 bits
abbrev pub page_in : List ℕ → Result ℕ LineFault
page_in word = ok_or (below_limit (2 ^ 32) (number_of word)) BadNumber

-- the register or the granule that loses its tag: a word that begins with the letter of registers names one
abbrev pub untag_in : List ℕ → Result RevokerCommand LineFault
untag_in word =
    if bytes_eq (take 1 word) (codes "c") then (register_in word >>= λ r. Ok (UntagRegister r))
    else (number_in word >>= λ address. Ok (UntagGranule address))

-- ---- answers

-- the numbers of an answer fit their types
abbrev pub FitsRevokerReply : RevokerReply → Type 0
FitsRevokerReply Done = Unit {0}
FitsRevokerReply (Cleared cleared) = cleared < 2 ^ 32
FitsRevokerReply (Released bytes) = bytes < 2 ^ 64
FitsRevokerReply (reply.Trap t) = Unit {0}

-- The words are those of the answer's text.
abbrev pub IsRevokerReplyText : List (List ℕ) → RevokerReply → Type 0
IsRevokerReplyText words answer = FitsRevokerReply answer × (words ≡ words_of (text_of_revoker_reply answer))

unfoldable pub revoker_trap_in : List ℕ → Option RevokerTrap
revoker_trap_in name =
    if bytes_eq name (codes "open") then Some trap.Open
    else if bytes_eq name (codes "notopen") then Some trap.NotOpen
    else if bytes_eq name (codes "bounds") then Some trap.Bounds
    else if bytes_eq name (codes "align") then Some trap.Align
    else if bytes_eq name (codes "left") then Some trap.Left
    else None

-- the answer whose text has these words
unfoldable pub revoker_reply_in : List (List ℕ) → Option RevokerReply
revoker_reply_in [] = None
revoker_reply_in (name ∷ words) =
    if bytes_eq name (codes "ok") then (if no_word_in words then Some Done else None)
    else if bytes_eq name (codes "cleared") then option_map Cleared (option_and_then (decimal_in (2 ^ 32)) (one_word_in words))
    else if bytes_eq name (codes "released") then option_map Released (option_and_then (decimal_in (2 ^ 64)) (one_word_in words))
    else if bytes_eq name (codes "trap") then option_map reply.Trap (option_and_then revoker_trap_in (one_word_in words))
    else None
