-- What a capability allows, its type and its exponent, as `show` shows them.
use Rattle.std.specs.Prelude.{ℕ, List, [], ◌∷◌, codes}
use Rattle.std.specs.Fmt.{decimal}
use Rattle.heap_reply.specs.Display.{hexadecimal_text, join_pieces}

abbrev pub kind_text : ℕ → ℕ → ℕ → List ℕ
kind_text perms otype exponent =
    join_pieces (codes " perms " ∷ hexadecimal_text perms ∷ codes " type " ∷ hexadecimal_text otype ∷ codes " exponent " ∷ decimal exponent ∷ [])
