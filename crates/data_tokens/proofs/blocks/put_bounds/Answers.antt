use Rattle.std.proofs.Common.{[], ◌∷◌, codes}
use Rattle.heap_reply.specs.Display.{hexadecimal_text}
use Rattle.json.specs.Token.{key, string}
use Rattle.data_tokens.specs.LineLaws.{added_two}
use Rattle.data_tokens.proofs.blocks.put_bounds.Goals as goal

pub returns : goal.returns
returns c =
    added_two _ _ _ _ _ _ _ c.in_ok-put_address.ensures c.put_address-2.ensures
    (λ i. key (codes "base") ∷ string (hexadecimal_text (c.from.ensures i)) ∷ key (codes "top") ∷ string (hexadecimal_text c.args.top) ∷ [])
