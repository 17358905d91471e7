use Rattle.std.proofs.Common.{[], ◌∷◌, codes, refl}
use Rattle.std.specs.Fmt.{decimal, digits}
use Rattle.heap_reply.specs.Display.{hexadecimal_text}
use Rattle.heap_reply.proofs.JoinedPieces.{onto_joined}
use Rattle.heap_reply.proofs.text.put_kind.Goals as goal

pub returns-then-exponent-eq0-clause-text : goal.returns-then-exponent-eq0-clause-text
unfolding digits
returns-then-exponent-eq0-clause-text c = rw (c.put.ensures.text, c.if-perms-eq61.true, c.if-otype-eq262143.true, c.if-exponent-eq0.true) refl

pub returns-clause-text : goal.returns-clause-text
returns-clause-text c =
    rw (
      c.put-4.ensures.text,
      c.put_hexadecimal-2.ensures.text,
      c.from-3.ensures,
      c.put-3.ensures.text,
      c.put_hexadecimal.ensures.text,
      c.from-2.ensures,
      c.put-2.ensures.text,
      c.put_decimal.ensures.text,
      c.from.ensures,
    )
    (onto_joined (codes " perms " ∷ hexadecimal_text c.args.perms ∷ codes " type " ∷ hexadecimal_text c.args.otype ∷ codes " exponent " ∷ decimal c.args.exponent ∷ []) c.args.text.now)
