use Rattle.std.proofs.Common.{[], ◌∷◌, codes}
use Rattle.std.specs.Fmt.{decimal}
use Rattle.json.specs.Token.{key, number}
use Rattle.data_tokens.specs.LineLaws.{added_three}
use Rattle.data_tokens.proofs.cells.put_rights.Goals as goal

pub returns : goal.returns
returns c =
    added_three _ _ _ _ _ _ _ _ _ c.in_ok-count.ensures c.in_ok-count-2.ensures c.count-3.ensures
    (λ i. key (codes "perms") ∷ number (decimal (c.from.ensures i)) ∷ key (codes "type") ∷ number (decimal (c.from-2.ensures i)) ∷ key (codes "exponent") ∷ number (decimal (c.from-3.ensures i)) ∷ [])
