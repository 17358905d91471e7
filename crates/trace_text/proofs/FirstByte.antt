-- The first byte that passes a test: an iterator over all such places gives what `position` answers.
use Rattle.std.proofs.Common.{◌≡◌, ℕ, Bool, true, false, List, Option, Some, None, get_or, refl, sym, ap, ◌∙◌, arith}
use Rattle.std.specs.List.{position}
use Rattle.std.proofs.lemmas.List.Quantifiers.{position-Some}
use Rattle.memchr.specs.Find.{IsFirstByte, TakesFirst, first_of, places}
use Rattle.memchr.proofs.lemmas.ValueLemmas.{IsFirstByte-value}
use Rattle.trace_text.proofs.FirstWord.{position-None}

fails : (t : Bool) → t ≡ false → ¬ (t ≡ true)
fails t is_false is_true = absurd cc

first_byte : (test : ℕ → Bool) (bs : List ℕ) (found : Option ℕ) → position test bs ≡ found → IsFirstByte test bs found
first_byte test bs None e = λ k low lt. fails (test (get_or bs k 0)) (position-None test bs k e lt)
first_byte test bs (Some i) e =
    let (within, here, before) = position-Some test bs i 0 e in
    (record { low = omega arith; high = within; before = λ k low lt. fails (test (get_or bs k 0)) (before k lt) }, here)

pub first_place : (test : ℕ → Bool) (bs all later : List ℕ) (found : Option ℕ) → all ≡ places test bs → TakesFirst all found later → found ≡ position test bs
unfolding first_of
first_place test bs all later found each h = go found h where
  value : position test bs ≡ first_of all
  value = IsFirstByte-value test bs (position test bs) (first_byte test bs (position test bs) refl) ∙ ap first_of (sym each)

  go : (found : Option ℕ) → TakesFirst all found later → found ≡ position test bs
  go None none = sym (value ∙ ap first_of none.0)
  go (Some i) some = sym (value ∙ ap first_of some)
