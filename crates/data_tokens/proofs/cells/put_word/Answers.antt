use Rattle.std.proofs.Common.{◌∙◌, ◌++◌, ℕ, List, [], ◌∷◌, ap, append-nil, codes}
use Rattle.hex.specs.Hex.{encode_lower}
use Rattle.json.specs.Token.{boolean, key, string}
use Rattle.data_tokens.specs.LineLaws.{added_two}
use Rattle.data_tokens.proofs.cells.put_word.Goals as goal

pub returns : goal.returns
returns c =
    let put = c.put_bytes.ensures.text ∙ (ap (λ (old : List ℕ). encode_lower c.to_bytes.result ++ old) c.new-digits.ensures ∙ append-nil (encode_lower c.to_bytes.result)) in
    let text = c.as_str.ensures ∙ (put ∙ ap encode_lower c.to_bytes.ensures.value) in
    added_two _ _ _ _ _ _ _ c.in_ok-flag.ensures c.text.ensures (λ i. key (codes "tag") ∷ boolean c.args.tag ∷ key (codes "word") ∷ string (text i) ∷ [])
