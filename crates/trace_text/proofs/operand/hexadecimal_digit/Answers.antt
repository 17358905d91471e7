-- The table is held against the definition at each of the 256 bytes, by computing.
use Rattle.std.proofs.Common.{◌≡◌, ◌<◌, ℕ, List, true, get_or, eqb, refl, arith}
use Rattle.std.specs.Prelude.{if◌then◌else◌}
use Rattle.std.specs.Char.{digit_value, is_digit}
use Rattle.std.proofs.lemmas.Bool.{agree_below, agree_below_at, eqb-true}
use Rattle.trace_text.specs.declared.operand.TheConstants.{HEXADECIMAL_VALUES}
use Rattle.trace_text.proofs.operand.hexadecimal_digit.Goals as goal

abbrev value_of : ℕ → ℕ
value_of byte = if is_digit byte 16 then digit_value byte else 255

from_table : (table : List ℕ) (byte : ℕ) → byte < 256 → agree_below (λ k. eqb (get_or table k 0) (value_of k)) (λ _. true) 256 ≡ true
    → get_or table byte 0 ≡ value_of byte
from_table table byte lt agrees = eqb-true _ _ (agree_below_at (λ k. eqb (get_or table k 0) (value_of k)) (λ _. true) 256 byte agrees lt)

pub returns : goal.returns
returns c = from_table HEXADECIMAL_VALUES c.args.byte (omega arith) refl
