use Rattle.std.proofs.Common.{◌≡◌, ◌+◌, ◌-◌, [], ◌∷◌, codes, arith}
use Rattle.heap_reply.specs.Display.{hexadecimal_text}
use Rattle.json.specs.Token.{begin_object, end_object, key, string}
use Rattle.data_tokens.specs.LineLaws.{added_four}
use Rattle.data_tokens.proofs.blocks.put_span.Goals as goal

pub returns : goal.returns
returns c =
    let end : c.args.top ≡ c.args.base + (c.args.top - c.args.base) = omega (arith, c.requires) in
    added_four _ _ _ _ _ _ _ _ _ _ _ c.in_ok-open.ensures c.in_ok-put_bounds.ensures c.in_ok-text.ensures c.close.ensures
    (λ i. begin_object ∷ key (codes "base") ∷ string (hexadecimal_text c.args.base) ∷ key (codes "top") ∷ string (hexadecimal_text (end i)) ∷ key (codes "state") ∷ string c.args.state.now ∷ end_object ∷ [])
