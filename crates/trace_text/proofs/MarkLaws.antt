-- What the bits of a line's stops tell.
use Rattle.std.proofs.Common.{◌≡◌, ◌==◌, ℕ, zero, suc, ◌+◌, ◌-◌, ◌/◌, ◌%◌, ◌<◌, ◌≤◌, ◌*◌, ◌^◌, ◌≢◌, max, true, false, List, length, take, drop, get_or, bit_or, w64, refl, sym, ap, ◌∙◌, arith}
use Rattle.std.specs.Int.{bit_at}
use Rattle.std.proofs.Math.Nat.{mod-eq_of_lt}
use Rattle.std.proofs.lemmas.List.{get_or-drop, get_or-take, length-drop, length-take-le, take_rest}
use Rattle.std.proofs.lemmas.Nat.{shr-shr}
use Rattle.std.proofs.lemmas.Nat.Bits.{bit_at-lt, bit_at_or, bit_at_set_other, bit_at_set_same}
use Rattle.tag_memory.specs.Laws.{same_test}
use Rattle.tag_memory.specs.Tags.{is_set}
use Rattle.trace_text.specs.Lines.{is_blank}
use Rattle.trace_text.specs.Marked.{AreStops}

-- ---- bits

or_clear : (m n k : ℕ) → m < 2 → n < 2 → k ≡ max m n → (n == 1) ≡ false → (k == 1) ≡ (m == 1)
or_clear zero zero k lm ln e clear = rw e refl
or_clear (suc zero) zero k lm ln e clear = rw e refl
or_clear (suc (suc m)) zero k lm ln e clear = absurd (omega (arith, lm))
or_clear m (suc zero) k lm ln e clear = absurd cc
or_clear m (suc (suc n)) k lm ln e clear = absurd (omega (arith, ln))

or_set : (m n k : ℕ) → m < 2 → n < 2 → k ≡ max m n → (n == 1) ≡ true → (k == 1) ≡ true
or_set zero (suc zero) k lm ln e set = rw e refl
or_set (suc zero) (suc zero) k lm ln e set = rw e refl
or_set (suc (suc m)) n k lm ln e set = absurd (omega (arith, lm))
or_set m zero k lm ln e set = absurd cc
or_set m (suc (suc n)) k lm ln e set = absurd (omega (arith, ln))

-- ---- stops

-- those of the line before the first feed
pub stops_of : (text : List ℕ) (blanks feeds count : ℕ) → 64 ≤ length text → count < 64 → ((j : ℕ) → j < count → is_set blanks j ≡ is_blank (get_or text j 0))
    → is_set feeds count ≡ true → ((j : ℕ) → j < count → is_set feeds j ≡ false) → AreStops (take count text) (bit_or blanks feeds)
stops_of text blanks feeds count room lt marked feed none =
    let size : length (take count text) ≡ count = length-take-le count text (omega (arith, room, lt)) in
    record {
      short = omega (arith, size, lt);
      blanks = λ j within.
          let before : j < count = omega (arith, within, size) in
          or_clear (bit_at blanks j) (bit_at feeds j) (bit_at (bit_or blanks feeds) j) (bit_at-lt blanks j) (bit_at-lt feeds j) (bit_at_or blanks feeds j) (none j before)
          ∙ marked j before ∙ ap is_blank (sym (get_or-take count text j 0 before));
      end = rw size (or_set (bit_at blanks count) (bit_at feeds count) (bit_at (bit_or blanks feeds) count) (bit_at-lt blanks count) (bit_at-lt feeds count) (bit_at_or blanks feeds count) feed);
    }

-- those of what follows
pub stops_after : (bytes : List ℕ) (stops count : ℕ) → AreStops bytes stops → count ≤ length bytes
    → AreStops (take (length bytes - count) (drop count bytes)) (stops / 2 ^ (count % 64))
stops_after bytes stops count are le =
    let short : count < 64 = omega (arith, are.short, le) in
    let left : length (drop count bytes) ≡ length bytes - count = length-drop count bytes in
    let moved : (j : ℕ) → is_set (stops / 2 ^ count) j ≡ is_set stops (count + j) = λ j. same_test _ _ (ap (λ (x : ℕ). x % 2) (shr-shr stops count j)) in
    rw (take_rest bytes count, mod-eq_of_lt short) (record {
      short = omega (arith, left, are.short);
      blanks = λ j within. moved j ∙ are.blanks (count + j) (omega (arith, within, left)) ∙ ap is_blank (sym (get_or-drop count bytes j 0));
      end = moved (length (drop count bytes)) ∙ ap (is_set stops) (omega (arith, left, le)) ∙ are.end;
    })

-- those of what stands before a place
pub stops_before : (bytes : List ℕ) (stops count : ℕ) → AreStops bytes stops → count ≤ length bytes
    → AreStops (take count bytes) (bit_or stops (1 * 2 ^ (count % 64) % 18446744073709551616))
stops_before bytes stops count are le =
    let short : count < 64 = omega (arith, are.short, le) in
    let size : length (take count bytes) ≡ count = length-take-le count bytes le in
    rw (mod-eq_of_lt short) (record {
      short = omega (arith, size, short);
      blanks = λ j within.
          let before : j < count = omega (arith, within, size) in
          let other : j ≢ count = omega (arith, before) in
          same_test _ _ (bit_at_set_other w64 stops count short j other) ∙ are.blanks j (omega (arith, before, le)) ∙ ap is_blank (sym (get_or-take count bytes j 0 before));
      end = rw size (same_test _ 1 (bit_at_set_same w64 stops count short));
    })
