-- Words without the first.
use Rattle.std.proofs.Common.{◌≡◌, ◌∙◌, ◌-◌, ℕ, suc, List, [], ◌∷◌, Bor, ap, arith, drop, length, refl, take}
use Rattle.std.proofs.Math.Seq.{take-length}
use Rattle.command_line.specs.Asked.{Text, texts}

pub texts-rest : (words : List (Bor Text)) → texts (take (length words - 1) (drop 1 words)) ≡ drop 1 (texts words)
texts-rest [] = refl
texts-rest (word ∷ words) =
    let one : suc (length words) - 1 ≡ length words = omega arith in
    ap (λ (n : ℕ). texts (take n words)) one ∙ ap (λ (xs : List (Bor Text)). texts xs) (take-length words)
