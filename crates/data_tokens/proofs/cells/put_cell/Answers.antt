use Rattle.std.proofs.Common.{◌∷◌, ◌++◌, codes}
use Rattle.cap_codec.specs.Bytes.{bytes_of}
use Rattle.hex.specs.Hex.{encode_lower}
use Rattle.json.specs.Token.{boolean, key, string}
use Rattle.data_tokens.specs.Cells.{bounded_address_tokens, rights_tokens}
use Rattle.data_tokens.specs.LineLaws.{added_three}
use Rattle.data_tokens.proofs.cells.put_cell.Goals as goal

pub returns : goal.returns
returns c =
    let shown = c.of-shown.ensures in
    added_three _ _ _ _ _ _ _ _ _ c.in_ok-put_word.ensures c.in_ok-put_bounded_address.ensures c.put_rights.ensures
    (λ i. key (codes "tag") ∷ boolean c.args.tag ∷ key (codes "word") ∷ string (encode_lower (bytes_of c.args.word.bits)) ∷ (bounded_address_tokens (shown i) ++ rights_tokens (shown i)))
