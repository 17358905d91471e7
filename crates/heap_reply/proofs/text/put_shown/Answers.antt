use Rattle.std.proofs.Common.{[], ◌∷◌, codes}
use Rattle.heap_reply.specs.Display.{bit_text, bounded_address_text}
use Rattle.heap_reply.specs.Kind.{kind_text}
use Rattle.heap_reply.proofs.JoinedPieces.{onto_joined}
use Rattle.heap_reply.proofs.text.put_shown.Goals as goal

pub returns-clause-text : goal.returns-clause-text
returns-clause-text c =
    let s = c.args.shown.now in
    rw (
      c.put-2.ensures.text,
      c.put_decimal.ensures.text,
      c.from.ensures,
      c.flag_number.ensures,
      c.put.ensures.text,
      c.put_bounded_address.ensures.text,
      c.put_kind.ensures.text,
    )
    (onto_joined (codes "tag " ∷ bit_text s.tag ∷ codes " " ∷ bounded_address_text s.address s.base s.top ∷ kind_text s.perms s.otype s.exponent ∷ []) c.args.text.now)
