-- Granules painted word by word.
use Rattle.std.proofs.Common.{◌≡◌, ◌<◌, ◌≤◌, ◌+◌, ◌*◌, ◌/◌, ◌%◌, ◌^◌, ◌==◌, ◌&&◌, ◌||◌, inl, inr, nat_le, nat_lt, ℕ, zero, suc, Bool, true, false, List, length, get_or, bit_and, bit_or, refl, sym, ap, ◌∙◌, arith}
use native.Mathlib.Decide.{ℕ_discrete}
use mathlib.Core.Logic.{dite}
use Rattle.std.specs.Int.{bit_at}
use Rattle.std.proofs.lemmas.Bool.{and_parts, cases_lt, eq-eqb, eqb-true, lt-ltb, ne_eqb, or_cases, or_parts, true≢false}
use Rattle.std.proofs.lemmas.Bool.Decides.{nat_tests}
use Rattle.std.proofs.lemmas.Nat.Bits.{bit_at-lt, bit_at_or}
use Rattle.std.proofs.Math.Bool.{and_comm}
use Rattle.granule_rows.specs.Runs.{is_within}
use Rattle.heap_core.specs.Painting.{IsPainted}
use Rattle.mark_board.specs.Bits.{bit, with_bits, has, bits_without}
use Rattle.mark_board.specs.Board.{BoardState, IsOf, IsSeat, SeatState, word_count}
use Rattle.mark_board.specs.Laws.{bit-gains_other, bit-gains_same, bit-without, gains-keep, length-gains}
use Rattle.tag_memory.specs.Laws.{is_set-and, is_set_zero}
use Rattle.tag_memory.specs.Tags.{is_set, is_set_for}
use Rattle.heap_core.proofs.StoredLaws.{and_false}

-- Nothing is painted.
pub painted-none : (board : BoardState) (seat : SeatState) → IsOf board seat → IsPainted (λ k. false) board seat seat
painted-none board seat of = record {
  of = of;
  parts = refl;
  sound = λ sound. sound;
  kept = λ w j. omega arith;
  seen = λ k is. absurd (true≢false (sym is));
  mine = λ k is. refl;
}

-- Tests that agree are painted alike.
pub painted-by : (test other : ℕ → Bool) (board : BoardState) (old new : SeatState) → ((k : ℕ) → other k ≡ test k) → IsPainted test board old new → IsPainted other board old new
painted-by test other board old new same p = record {
  of = p.of;
  parts = p.parts;
  sound = p.sound;
  kept = p.kept;
  seen = λ k is. p.seen k (sym (same k) ∙ is);
  mine = λ k is. p.mine k (sym (same k) ∙ is);
}

-- One after the other.
pub painted-both : (test other : ℕ → Bool) (board : BoardState) (old mid new : SeatState) → IsPainted test board old mid → IsPainted other board mid new
    → IsPainted (λ k. test k || other k) board old new
painted-both test other board old mid new first second = record {
  of = second.of;
  parts = second.parts ∙ first.parts;
  sound = λ sound. second.sound (first.sound sound);
  kept = λ w j. omega (arith, first.kept w j, second.kept w j);
  seen = λ k is. elim (or_cases (test k) (other k) is) [
    | inl here ↦ omega (arith, first.seen k here, second.kept (k / 64) (k % 64), bit_at-lt (get_or new.seen (k / 64) 0) (k % 64))
    | inr there ↦ second.seen k there
  ];
  mine = λ k is. let both = or_parts (test k) (other k) is in second.mine k both.1 ∙ first.mine k both.0;
}

-- ---- one mark

none_of : (bit : ℕ) → bit < 2 → (bit == 1) ≡ false → bit ≡ 0
none_of zero below unset = refl
none_of (suc zero) below unset = absurd (true≢false unset)
none_of (suc (suc bit)) below unset = absurd (omega (arith, below))

-- A mark paints the bits of its mask.
pub painted-mark : {board : BoardState} {old new : SeatState} (w mask : ℕ) {answer : ℕ} (found : ℕ) → IsOf board new → new.parts ≡ old.parts → IsSeat new → w < word_count board → mask < 2 ^ 64 → found < 2 ^ 64
    → answer ≡ bits_without mask found → new.seen ≡ with_bits old.seen w (bit_or found mask) → new.mine ≡ with_bits old.mine w answer
    → IsPainted (λ k. (k / 64 == w) && is_set mask (k % 64)) board old new
painted-mark {board} {old} {new} w mask {answer} found of parts sound inside fits fits_found answer_is seen_is mine_is =
    let width_seen : length old.seen ≡ word_count board = sym (length-gains old.seen w (bit_or found mask)) ∙ (ap length (sym seen_is) ∙ (sound.seen_width ∙ ap word_count of)) in
    let width_mine : length old.mine ≡ word_count board = sym (length-gains old.mine w answer) ∙ (ap length (sym mine_is) ∙ (sound.mine_width ∙ ap word_count of)) in
    record {
      of = of;
      parts = parts;
      sound = λ before. sound;
      kept = λ v j. rw seen_is (gains-keep old.seen w (bit_or found mask) v j (omega (arith, inside, width_seen)));
      seen = λ k is.
          let both = and_parts (k / 64 == w) (is_set mask (k % 64)) is in
          let here : k / 64 ≡ w = eqb-true (k / 64) w both.0 in
          let one : bit_at mask (k % 64) ≡ 1 = eqb-true (bit_at mask (k % 64)) 1 both.1 in
          let gained = bit-gains_same old.seen w (bit_or found mask) (k % 64) (omega (arith, inside, width_seen)) in
          let there : has new.seen k ≡ bit (with_bits old.seen w (bit_or found mask)) w (k % 64) = (λ i. bit (seen_is i) (here i) (k % 64)) in
          omega (arith, there, gained, bit_at_or found mask (k % 64), one, bit_at-lt (get_or new.seen (k / 64) 0) (k % 64));
      mine = λ k is. dite (ℕ_discrete (k / 64) w)
          (λ here.
          let test : (k / 64 == w) ≡ true = eq-eqb (k / 64) w here in
          let unset : is_set mask (k % 64) ≡ false = (rw test at is) in
          let zero_bit : bit_at mask (k % 64) ≡ 0 = none_of (bit_at mask (k % 64)) (bit_at-lt mask (k % 64)) unset in
          let gained = bit-gains_same old.mine w answer (k % 64) (omega (arith, inside, width_mine)) in
          let there : has new.mine k ≡ bit (with_bits old.mine w answer) w (k % 64) = (λ i. bit (mine_is i) (here i) (k % 64)) in
          let before : has old.mine k ≡ bit old.mine w (k % 64) = (λ i. bit old.mine (here i) (k % 64)) in
          let nothing : bit_at answer (k % 64) ≡ 0 = omega (arith, ap (λ (n : ℕ). bit_at n (k % 64)) answer_is, bit-without mask found (k % 64) fits fits_found, zero_bit) in
          omega (arith, there, gained, before, nothing))
          (λ other. ap (λ (set : List ℕ). has set k) mine_is ∙ bit-gains_other old.mine w answer (k / 64) (k % 64) other);
    }

-- ---- words of a row

distribute : (a b c x : Bool) → c ≡ (a || b) → (c && x) ≡ ((a && x) || (b && x))
distribute true true c true e = rw e refl
distribute true true c false e = rw e refl
distribute true false c true e = rw e refl
distribute true false c false e = rw e refl
distribute false true c x e = rw e refl
distribute false false c x e = rw e refl

below_more : (v w : ℕ) → nat_lt v (w + 1) ≡ (nat_lt v w || (v == w))
below_more v w = dite (ℕ_discrete v w)
    (λ same. rw (eq-eqb v w same) (grind (arith, nat_tests)))
    (λ other. elim (cases_lt v w) [
      | inl before ↦ rw (lt-ltb v w before) (grind (arith, nat_tests))
      | inr from ↦ rw (ne_eqb v w other) (let past : w + 1 ≤ v = omega (arith, from, other) in grind (arith, nat_tests))
    ])

-- The bits of a word that are painted are those of the row in the range.
pub word_painted : (row : List ℕ) (w range from to : ℕ) → ((j : ℕ) → j < 64 → is_set range j ≡ (nat_le from (64 * w + j) && nat_lt (64 * w + j) to))
    → (k : ℕ) → ((k / 64 == w) && (is_within from to k && is_set_for row k)) ≡ ((k / 64 == w) && is_set (bit_and (get_or row w 0) range) (k % 64))
word_painted row w range from to bits k = dite (ℕ_discrete (k / 64) w)
    (λ here.
    let at : 64 * w + k % 64 ≡ k = omega (arith, here) in
    let inside : is_set range (k % 64) ≡ is_within from to k = bits (k % 64) (omega arith) ∙ ap (is_within from to) at in
    let there : is_set_for row k ≡ is_set (get_or row w 0) (k % 64) = ap (λ (v : ℕ). is_set (get_or row v 0) (k % 64)) here in
    ap (λ (b : Bool). (k / 64 == w) && b) (and_comm (is_within from to k) (is_set_for row k) ∙ (λ i. there i && sym inside i) ∙ sym (is_set-and (get_or row w 0) range (k % 64))))
    (λ other. rw (ne_eqb (k / 64) w other) refl)

-- Where the mask is 0 there are none.
pub word_none : (row : List ℕ) (w range from to : ℕ) → ((j : ℕ) → j < 64 → is_set range j ≡ (nat_le from (64 * w + j) && nat_lt (64 * w + j) to))
    → bit_and (get_or row w 0) range ≡ 0 → (k : ℕ) → ((k / 64 == w) && (is_within from to k && is_set_for row k)) ≡ false
word_none row w range from to bits none k =
    word_painted row w range from to bits k ∙ (ap (λ (mask : ℕ). (k / 64 == w) && is_set mask (k % 64)) none ∙ and_false (k / 64 == w) (is_set 0 (k % 64)) (is_set_zero (k % 64)))

-- One word more.
pub word_more : (row : List ℕ) (w from to : ℕ) (k : ℕ)
    → (nat_lt (k / 64) (w + 1) && (is_within from to k && is_set_for row k))
    ≡ ((nat_lt (k / 64) w && (is_within from to k && is_set_for row k)) || ((k / 64 == w) && (is_within from to k && is_set_for row k)))
word_more row w from to k = distribute (nat_lt (k / 64) w) (k / 64 == w) (nat_lt (k / 64) (w + 1)) (is_within from to k && is_set_for row k) (below_more (k / 64) w)
