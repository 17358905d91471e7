-- Masks of the low bits of a field.
use Rattle.std.proofs.Common.{◌≡◌, ℕ, ◌*◌, ◌%◌, Bool, true, false, ap, ◌∙◌, arith}
use Rattle.std.specs.Prelude.{bit_and, if◌then◌else◌}
use Rattle.std.proofs.lemmas.Nat.{and_mask}
use Rattle.cap_codec.specs.Fields.{bit_of}

-- The low 3 bits where the flag is set, and else none.
pub flag_masks : (flag : Bool) (n i : ℕ) → i ≡ bit_of flag → bit_and n (7 * i) ≡ (if flag then n % 8 else 0)
flag_masks true n i e = ap (λ x. bit_and n (7 * x)) e ∙ and_mask n 3
flag_masks false n i e = ap (λ x. bit_and n (7 * x)) e ∙ (and_mask n 0 ∙ omega arith)
