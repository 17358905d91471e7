-- What stands in bytes, piece by piece.
use Rattle.std.proofs.Common.{◌≡◌, ◌∙◌, ◌≤◌, ◌<◌, ◌+◌, ◌/◌, ◌%◌, ◌*◌, ◌^◌, ◌==◌, inl, inr, refl, ℕ, zero, suc, Bool, List, [], ◌∷◌, ◌++◌, length, drop, take, get_or, sym, ap, append_assoc, length-append, add-one, arith}
use Rattle.std.proofs.Math.Nat.{div-div-eq-div-mul, pow-succ'}
use Rattle.std.proofs.Math.Seq.{drop-cons}
use Rattle.std.proofs.lemmas.Bool.{cases_lt}
use Rattle.std.proofs.lemmas.List.{append-nil, drop-drop, drop_at, get_or-drop, length-drop, take-append-drop}
use Rattle.std.specs.Int.{byte_at, bytes_low_first}
use Rattle.byteorder.specs.Endian.{little_bytes, little_from, little_number}
use Rattle.byteorder.specs.Numbers.{little_number-reads_back}
use Rattle.tag_memory.specs.Laws.{of_test}
use Rattle.state_bytes.specs.Text.{flag_byte, texts_below}
use Rattle.state_bytes.specs.Writing.{StandsAt}

pub stands_none : (bytes : List ℕ) (at : ℕ) → StandsAt bytes at []
stands_none bytes at = record { rest = drop at bytes; is = λ j. drop at bytes }

pub stands_begin : (text : ℕ → List ℕ) (bytes : List ℕ) (at : ℕ) → StandsAt bytes at (texts_below text 0)
unfolding texts_below
stands_begin text bytes at = stands_none bytes at

pub stands_first : (bytes s t : List ℕ) (at : ℕ) → StandsAt bytes at (s ++ t) → StandsAt bytes at s
stands_first bytes s t at both = record { rest = t ++ both.rest; is = both.is ∙ append_assoc s t both.rest }

pub stands_second : (bytes s t : List ℕ) (at next : ℕ) → next ≡ at + length s → StandsAt bytes at (s ++ t) → StandsAt bytes next t
stands_second bytes s t at next is both = record {
  rest = both.rest;
  is = ap (λ (k : ℕ). drop k bytes) is
      ∙ (sym (drop-drop (length s) at bytes)
      ∙ (ap (drop (length s)) (both.is ∙ append_assoc s t both.rest) ∙ drop_at s (t ++ both.rest) (length s) (λ j. length s)));
}

pub stands_two : (bytes s t : List ℕ) (at next : ℕ) → next ≡ at + length s → StandsAt bytes at s → StandsAt bytes next t → StandsAt bytes at (s ++ t)
stands_two bytes s t at next is first second =
    let rest : first.rest ≡ t ++ second.rest =
    sym (drop_at s first.rest (length s) (λ j. length s))
    ∙ (ap (drop (length s)) (sym first.is)
    ∙ (drop-drop (length s) at bytes ∙ (ap (λ (k : ℕ). drop k bytes) (sym is) ∙ second.is))) in
    record { rest = second.rest; is = first.is ∙ (ap (λ (l : List ℕ). s ++ l) rest ∙ sym (append_assoc s t second.rest)) }

-- One more of many pieces.
pub stands_more : (bytes : List ℕ) (text : ℕ → List ℕ) (piece : List ℕ) (at next i : ℕ) → next ≡ at + length (texts_below text i) → piece ≡ text i
    → StandsAt bytes at (texts_below text i) → StandsAt bytes next piece → StandsAt bytes at (texts_below text (i + 1))
unfolding texts_below
stands_more bytes text piece at next i is same first second =
    rw add-one (rw (sym same) (stands_two bytes (texts_below text i) piece at next is first second))

-- Each of them, and those before it.
pub stands_below : (bytes : List ℕ) (text : ℕ → List ℕ) (at i n : ℕ) → i ≤ n → StandsAt bytes at (texts_below text n) → StandsAt bytes at (texts_below text i)
unfolding texts_below
stands_below bytes text at zero zero le all = all
stands_below bytes text at (suc i) zero le all = absurd (omega (arith, le))
stands_below bytes text at i (suc n) le all =
    elim (cases_lt n i) [
      | inl more ↦ let is : i ≡ suc n = omega arith in rw is all
      | inr less ↦ stands_below bytes text at i n less (stands_first bytes (texts_below text n) (text n) at all)
    ]

pub stands_each : (bytes : List ℕ) (text : ℕ → List ℕ) (at next i n : ℕ) → i < n → next ≡ at + length (texts_below text i) → StandsAt bytes at (texts_below text n) → StandsAt bytes next (text i)
unfolding texts_below
stands_each bytes text at next i n lt is all =
    stands_second bytes (texts_below text i) (text i) at next is (stands_below bytes text at (suc i) n (omega (arith, lt)) all)

no_length : (l : List ℕ) → length l ≡ 0 → l ≡ []
no_length [] is = λ j. []
no_length (x ∷ l) is = absurd (omega (arith, is))

-- All from the start of the bytes to their end.
pub stands_whole : (bytes text : List ℕ) → length bytes ≡ length text → StandsAt bytes 0 text → text ≡ bytes
stands_whole bytes text same stands =
    let none : stands.rest ≡ [] = no_length stands.rest (omega (arith, same, length-append text stands.rest, ap (λ (l : List ℕ). length l) stands.is)) in
    sym (stands.is ∙ (ap (λ (l : List ℕ). text ++ l) none ∙ append-nil text))

pub stands_self : (bytes text : List ℕ) → text ≡ bytes → StandsAt bytes 0 text
stands_self bytes text is = record { rest = []; is = sym is ∙ sym (append-nil text) }

-- ---- numbers

-- The byte at a place above is the byte below it of the number without its lowest byte.
byte_at-above : (i n : ℕ) → byte_at (suc i) n ≡ byte_at i (n / 256)
byte_at-above zero n = refl
byte_at-above (suc i) n = ap (λ x. x % 256) (ap (λ (p : ℕ). n / p) (pow-succ' 256 (suc i)) ∙ sym (div-div-eq-div-mul n 256 (256 ^ suc i)))

bytes-above : (i k n : ℕ) → bytes_low_first (suc i) k n ≡ bytes_low_first i k (n / 256)
bytes-above i zero n = refl
bytes-above i (suc k) n = let a = byte_at-above i n in let b = bytes-above (suc i) k n in cc

bytes-little_from : (k j : ℕ) (xs : List ℕ) → j + k ≤ length xs → ((i : ℕ) → get_or xs i 0 < 256) → bytes_low_first 0 k (little_from j k xs) ≡ take k (drop j xs)
bytes-little_from zero j xs h small = refl
bytes-little_from (suc k) j xs h small =
    let rest = bytes-little_from k (suc j) xs (omega arith) small in
    let here = small j in
    let low : (get_or xs j 0 + 256 * little_from (suc j) k xs) % 256 ≡ get_or xs j 0 = omega arith in
    let high : (get_or xs j 0 + 256 * little_from (suc j) k xs) / 256 ≡ little_from (suc j) k xs = omega arith in
    let above = bytes-above 0 k (get_or xs j 0 + 256 * little_from (suc j) k xs) in
    let front : drop j xs ≡ get_or xs j 0 ∷ drop (suc j) xs = drop-cons xs j 0 (omega arith) in
    rw (front, low, above, high, rest) refl

-- The bytes of the number that is read at a place stand there.
pub stands_read : (bytes : List ℕ) (at n x : ℕ) → at + n ≤ length bytes → ((i : ℕ) → get_or bytes i 0 < 256) → little_number n (drop at bytes) ≡ x → StandsAt bytes at (little_bytes n x)
stands_read bytes at n x inside small read =
    let xs = drop at bytes in
    let whole : little_bytes n (little_number n xs) ≡ take n xs = bytes-little_from n 0 xs (omega (arith, inside, length-drop at bytes)) (λ i. rw get_or-drop (small (at + i))) in
    record {
      rest = drop n xs;
      is = sym (take-append-drop n xs) ∙ ap (λ (l : List ℕ). l ++ drop n xs) (sym whole ∙ ap (little_bytes n) read);
    }

-- And a number whose bytes stand there is read.
pub reads_standing : (bytes : List ℕ) (at n x : ℕ) → x < 256 ^ n → StandsAt bytes at (little_bytes n x) → little_number n (drop at bytes) ≡ x
reads_standing bytes at n x fits stands = ap (little_number n) stands.is ∙ little_number-reads_back n x stands.rest fits

-- ---- a flag

pub flag_standing : (bytes : List ℕ) (at : ℕ) (flag : Bool) → StandsAt bytes at (flag_byte flag ∷ []) → get_or bytes at 0 ≡ flag_byte flag
flag_standing bytes at flag stands =
    ap (λ (k : ℕ). get_or bytes k 0) (omega arith) ∙ (sym (get_or-drop at bytes 0 0) ∙ ap (λ (l : List ℕ). get_or l 0 0) stands.is)

-- A byte of 0 or 1 stands for what is read of it.
pub stands_flag : (bytes : List ℕ) (at : ℕ) (flag : Bool) → at < length bytes → get_or bytes at 0 ≤ 1 → (get_or bytes at 0 == 1) ≡ flag → StandsAt bytes at (flag_byte flag ∷ [])
stands_flag bytes at flag inside small read = record {
  rest = drop (suc at) bytes;
  is = drop-cons bytes at 0 inside ∙ ap (λ (x : ℕ). x ∷ drop (suc at) bytes) (sym (of_test (get_or bytes at 0) (omega (arith, small))) ∙ ap flag_byte read);
}
