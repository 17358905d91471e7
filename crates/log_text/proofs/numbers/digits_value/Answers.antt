use Rattle.std.proofs.Common.{◌≡◌, ◌≤◌, ◌^◌, ℕ, List, [], ◌∷◌, length, None, sym, ◌∙◌, arith}
use Rattle.std.proofs.lemmas.Bool.Decides.{nat_tests}
use Rattle.log_text.specs.ReplyText.{number_in_radix}
use Rattle.log_text.proofs.Numerals.{limit_within, long_written, none_written, zero_written}
use Rattle.log_text.proofs.numbers.digits_value.Goals as goal
use Rattle.log_text.proofs.numbers.digits_value.Goals.{then-is_empty-via-then-is_empty, then-is_empty-via-else-is_empty+then-digits-most, then-is_empty-via-else-is_empty+else-digits-most+then-starts_with_zero}

empty : (ds : List ℕ) (most : ℕ) → most ≤ 32 → length ds ≡ 0 → number_in_radix 16 (16 ^ most) ds ≡ None
empty [] most few is = none_written most few
empty (d ∷ ds) most few is = absurd (omega arith)

pub returns-then-is_empty-clause-value : goal.returns-then-is_empty-clause-value
returns-then-is_empty-clause-value c = elim c.then-is_empty.branch [
  | then-is_empty-via-then-is_empty w ↦ sym (empty c.args.digits.now c.args.most c.requires.1 (grind (arith, nat_tests, w.if-is_empty.true, c.is_empty.ensures)))
  | then-is_empty-via-else-is_empty+then-digits-most w ↦ sym (long_written c.args.most c.args.digits.now c.requires.0 c.requires.1 w.if-digits-most.true)
  | then-is_empty-via-else-is_empty+else-digits-most+then-starts_with_zero w ↦
      sym (zero_written 16 (omega arith) (omega arith) (16 ^ c.args.most) c.args.digits.now (limit_within c.args.most c.requires.1) (sym w.starts_with_zero.ensures ∙ w.if-starts_with_zero.true))
]
