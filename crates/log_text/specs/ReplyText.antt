-- Which words are which answer. They are those of the text that a report has for a reply (heap_reply's text_of_reply), with
-- each number in the one form that is written there, so that an answer is told in one way alone.
use Rattle.std.specs.Prelude.{◌≡◌, ℕ, ◌^◌, ◌<◌, Bool, true, false, List, [], ◌∷◌, take, drop, Option, Some, None, nat_lt, ◌&&◌, codes, if◌then◌else◌, bytes_eq, option_and_then}
use Rattle.std.specs.Fmt.{digits}
use Rattle.std.specs.Option.{option_map}
use Rattle.std.specs.Str.Parse.{digits_value}
use Rattle.heap_reply.specs.declared.reply.Reply.{Reply}
use Rattle.heap_reply.specs.declared.reply.Reply.TheVariants.{Block, BlockAfter, NoSpace, NoSpaceAfter, Held, Done, Cleared, Swept, Begun}
use Rattle.heap_reply.specs.declared.reply.Reply.TheVariants as reply
use Rattle.heap_reply.specs.declared.reply.Shown.{Shown as ShownCell}
use Rattle.heap_reply.specs.declared.reply.Trap.{Trap}
use Rattle.heap_reply.specs.declared.reply.Trap.TheVariants as trap
use Rattle.heap_reply.specs.ReplyText.{text_of_reply}
use Rattle.trace_text.specs.Lines.{words_of}
use Rattle.trace_text.specs.Reading.{no_word_in, one_word_in, two_words_in}

-- ---- which words are which answer

abbrev pub FitsShown : ShownCell → Type 0
FitsShown s = (s.top < 2 ^ 128) × (s.address < 2 ^ 64) × (s.base < 2 ^ 64) × (s.otype < 2 ^ 32) × (s.perms < 2 ^ 16) × (s.exponent < 2 ^ 8)

-- the numbers of a reply fit their types
abbrev pub FitsReply : Reply → Type 0
FitsReply (Block base top) = (base < 2 ^ 64) × (top < 2 ^ 128)
FitsReply (BlockAfter base top cleared) = (base < 2 ^ 64) × (top < 2 ^ 128) × (cleared < 2 ^ 32)
FitsReply NoSpace = Unit {0}
FitsReply (NoSpaceAfter cleared) = cleared < 2 ^ 32
FitsReply (Held bytes) = bytes < 2 ^ 64
FitsReply Done = Unit {0}
FitsReply Cleared = Unit {0}
FitsReply (Swept cleared released) = (cleared < 2 ^ 32) × (released < 2 ^ 64)
FitsReply (Begun cleared) = cleared < 2 ^ 32
FitsReply (reply.Shown s) = FitsShown s
FitsReply (reply.Trap t) = Unit {0}

-- The words are those of the reply's text.
abbrev pub IsReplyText : List (List ℕ) → Reply → Type 0
IsReplyText words answer = FitsReply answer × (words ≡ words_of (text_of_reply answer))

-- ---- how they are read: answer_of equals the relation above (the law `answers`)

-- then, where something was read
infixl 10 ◌>>=◌
abbrev ◌>>=◌ : {A B : Type 0} → Option A → (A → Option B) → Option B
found >>= f = option_and_then f found

-- the number below a limit whose digits in the radix are just these: in lower case, and without leading zeros
abbrev pub number_in_radix : ℕ → ℕ → List ℕ → Option ℕ
number_in_radix radix limit word =
    if nat_lt (digits_value radix word) limit && bytes_eq (digits radix false (digits_value radix word)) word
    then Some (digits_value radix word) else None

abbrev pub decimal_in : ℕ → List ℕ → Option ℕ
decimal_in limit word = number_in_radix 10 limit word

abbrev pub hexadecimal_in : ℕ → List ℕ → Option ℕ
hexadecimal_in limit word = if bytes_eq (take 2 word) (codes "0x") then number_in_radix 16 limit (drop 2 word) else None

abbrev pub bit_in : List ℕ → Option Bool
bit_in word =
    if bytes_eq word (codes "0") then Some false
    else if bytes_eq word (codes "1") then Some true
    else None

-- how many tags a sweep took, in words that may follow: the outer None is for other words
unfoldable pub swept_in : List (List ℕ) → Option (Option ℕ)
swept_in [] = Some None
swept_in (name ∷ words) =
    if bytes_eq name (codes "swept") then option_map Some (one_word_in words >>= decimal_in (2 ^ 32)) else None

abbrev pub block_of : Option ℕ → Option ℕ → Option (Option ℕ) → Option Reply
block_of (Some base) (Some top) (Some None) = Some (Block base top)
block_of (Some base) (Some top) (Some (Some cleared)) = Some (BlockAfter base top cleared)
block_of _ _ _ = None

unfoldable pub block_in : List (List ℕ) → Option Reply
block_in (base ∷ top ∷ words) = block_of (hexadecimal_in (2 ^ 64) base) (hexadecimal_in (2 ^ 128) top) (swept_in words)
block_in _ = None

abbrev pub no_space_of : Option ℕ → Reply
no_space_of None = NoSpace
no_space_of (Some cleared) = NoSpaceAfter cleared

abbrev pub no_space_in : List (List ℕ) → Option Reply
no_space_in words = option_map no_space_of (swept_in words)

abbrev pub held_in : List (List ℕ) → Option Reply
held_in words = option_map Held (one_word_in words >>= decimal_in (2 ^ 64))

abbrev pub done_in : List (List ℕ) → Option Reply
done_in words = if no_word_in words then Some Done else None

abbrev pub swept_of : Option ℕ → Option ℕ → Option Reply
swept_of (Some cleared) (Some released) = Some (Swept cleared released)
swept_of _ _ = None

unfoldable pub cleared_in : List (List ℕ) → Option Reply
cleared_in [] = Some Cleared
cleared_in (cleared ∷ []) = option_map Begun (decimal_in (2 ^ 32) cleared)
cleared_in (cleared ∷ name ∷ released ∷ []) =
    if bytes_eq name (codes "released") then swept_of (decimal_in (2 ^ 32) cleared) (decimal_in (2 ^ 64) released) else None
cleared_in _ = None

-- what the word after this name says, and the words after that
unfoldable pub field_in : List ℕ → (List ℕ → Option ℕ) → List (List ℕ) → Option (ℕ × List (List ℕ))
field_in name read (first ∷ second ∷ words) =
    if bytes_eq first name then option_map (λ number. (number, words)) (read second) else None
field_in name read _ = None

-- address, base and top, and the words after them
unfoldable pub bounded_address_in : List (List ℕ) → Option ((ℕ × ℕ × ℕ) × List (List ℕ))
bounded_address_in words = do
  address ← field_in (codes "address") (hexadecimal_in (2 ^ 64)) words
  base ← field_in (codes "base") (hexadecimal_in (2 ^ 64)) address.1
  top ← field_in (codes "top") (hexadecimal_in (2 ^ 128)) base.1
  Some ((address.0, base.0, top.0), top.1)

-- the exponent, with which the words end
abbrev pub exponent_in : List (List ℕ) → Option ℕ
exponent_in words = do
  both ← two_words_in words
  if bytes_eq both.0 (codes "exponent") then decimal_in (2 ^ 8) both.1 else None

-- permissions, type and exponent, with which the words end
unfoldable pub kind_in : List (List ℕ) → Option (ℕ × ℕ × ℕ)
kind_in words = do
  perms ← field_in (codes "perms") (hexadecimal_in (2 ^ 16)) words
  otype ← field_in (codes "type") (hexadecimal_in (2 ^ 32)) perms.1
  exponent ← exponent_in otype.1
  Some (perms.0, otype.0, exponent)

-- what a register shows, from the tag on
unfoldable pub shown_in : List (List ℕ) → Option ShownCell
shown_in [] = None
shown_in (first ∷ words) = do
  tag ← bit_in first
  place ← bounded_address_in words
  kind ← kind_in place.1
  Some (record { top = place.0.2; address = place.0.0; base = place.0.1; otype = kind.1; perms = kind.0; exponent = kind.2; tag = tag })

unfoldable pub trap_in : List ℕ → Option Trap
trap_in name =
    if bytes_eq name (codes "tag") then Some trap.Tag
    else if bytes_eq name (codes "perm") then Some trap.Perm
    else if bytes_eq name (codes "bounds") then Some trap.Bounds
    else if bytes_eq name (codes "align") then Some trap.Align
    else if bytes_eq name (codes "empty") then Some trap.Empty
    else if bytes_eq name (codes "inexact") then Some trap.Inexact
    else if bytes_eq name (codes "freed") then Some trap.Freed
    else if bytes_eq name (codes "notblock") then Some trap.NotBlock
    else if bytes_eq name (codes "open") then Some trap.Open
    else if bytes_eq name (codes "notopen") then Some trap.NotOpen
    else None

-- the reply whose text has these words
unfoldable pub reply_in : List (List ℕ) → Option Reply
reply_in [] = None
reply_in (name ∷ words) =
    if bytes_eq name (codes "block") then block_in words
    else if bytes_eq name (codes "nospace") then no_space_in words
    else if bytes_eq name (codes "held") then held_in words
    else if bytes_eq name (codes "ok") then done_in words
    else if bytes_eq name (codes "cleared") then cleared_in words
    else if bytes_eq name (codes "tag") then option_map reply.Shown (shown_in words)
    else if bytes_eq name (codes "trap") then option_map reply.Trap (one_word_in words >>= trap_in)
    else None
