-- The texts of replies (this project's own profile).
use Rattle.std.specs.Prelude.{ℕ, List, [], ◌∷◌, codes}
use Rattle.std.specs.Fmt.{decimal}
use Rattle.heap_reply.specs.declared.reply.Reply.{Reply}
use Rattle.heap_reply.specs.declared.reply.Reply.TheVariants.{Block, BlockAfter, NoSpace, NoSpaceAfter, Held, Done, Cleared, Swept, Begun}
use Rattle.heap_reply.specs.declared.reply.Reply.TheVariants as reply
use Rattle.heap_reply.specs.declared.reply.Shown.{Shown as ShownCell}
use Rattle.heap_reply.specs.declared.reply.Trap.{Trap}
use Rattle.heap_reply.specs.declared.reply.Trap.TheVariants as trap
use Rattle.heap_reply.specs.Display.{bit_text, hexadecimal_text, join_pieces, bounded_address_text}

abbrev pub trap_name : Trap → List ℕ
trap_name trap.Tag = codes "tag"
trap_name trap.Perm = codes "perm"
trap_name trap.Bounds = codes "bounds"
trap_name trap.Align = codes "align"
trap_name trap.Empty = codes "empty"
trap_name trap.Inexact = codes "inexact"
trap_name trap.Freed = codes "freed"
trap_name trap.NotBlock = codes "notblock"
trap_name trap.Open = codes "open"
trap_name trap.NotOpen = codes "notopen"

abbrev pub shown_text : ShownCell → List ℕ
shown_text s =
    join_pieces (
    codes "tag " ∷ bit_text s.tag ∷ codes " " ∷ bounded_address_text s.address s.base s.top ∷ codes " perms " ∷ hexadecimal_text s.perms
    ∷ codes " type " ∷ hexadecimal_text s.otype ∷ codes " exponent " ∷ decimal s.exponent ∷ []
    )

abbrev pub block_text : ℕ → ℕ → List ℕ
block_text base top = join_pieces (codes "block " ∷ hexadecimal_text base ∷ codes " " ∷ hexadecimal_text top ∷ [])

-- What a command is answered.
abbrev pub text_of_reply : Reply → List ℕ
text_of_reply (Block base top) = block_text base top
text_of_reply (BlockAfter base top cleared) =
    join_pieces (codes "block " ∷ hexadecimal_text base ∷ codes " " ∷ hexadecimal_text top ∷ codes " swept " ∷ decimal cleared ∷ [])
text_of_reply NoSpace = codes "nospace"
text_of_reply (NoSpaceAfter cleared) = join_pieces (codes "nospace swept " ∷ decimal cleared ∷ [])
text_of_reply (Held bytes) = join_pieces (codes "held " ∷ decimal bytes ∷ [])
text_of_reply Done = codes "ok"
text_of_reply Cleared = codes "cleared"
text_of_reply (Swept cleared released) = join_pieces (codes "cleared " ∷ decimal cleared ∷ codes " released " ∷ decimal released ∷ [])
text_of_reply (Begun cleared) = join_pieces (codes "cleared " ∷ decimal cleared ∷ [])
text_of_reply (reply.Shown s) = shown_text s
text_of_reply (reply.Trap t) = join_pieces (codes "trap " ∷ trap_name t ∷ [])
