-- Bits counted, one by one and by words.
use Rattle.std.proofs.Common.{◌≡◌, ◌<◌, ◌≤◌, ◌+◌, ◌-◌, ◌*◌, ◌^◌, ◌&&◌, ℕ, zero, suc, Bool, false, cond, List, get_or, map, bit_and, refl, sym, ap, ◌∙◌, arith, w64, Fits}
use Rattle.std.specs.List.{range_with_len}
use Rattle.std.specs.Prelude.{count_ones}
use Rattle.std.proofs.lemmas.List.FromFn.{get_or-map-range_with_len, length-map-range_with_len, sum_by-map-range_with_len_more}
use Rattle.std.proofs.lemmas.List.Sums.{count_by-le-length}
use Rattle.std.proofs.lemmas.Nat.{and_le_l}
use Rattle.granule_rows.specs.Counts.{count_below, is_both}
use Rattle.tag_memory.specs.Laws.{is_set-and, is_set_for-at, ones-row}
use Rattle.tag_memory.specs.Tags.{is_set}

-- ---- one by one

pub count-none : (test : ℕ → Bool) → count_below test 0 ≡ 0
unfolding count_below
count-none test = refl

pub count-more : (test : ℕ → Bool) (n : ℕ) → count_below test (n + 1) ≡ count_below test n + cond (test n) 1 0
unfolding count_below
count-more test n = sum_by-map-range_with_len_more (λ (passes : Bool). cond passes 1 0) test 0 n n (omega arith)

pub count-le : (test : ℕ → Bool) (n : ℕ) → count_below test n ≤ n
unfolding count_below
count-le test n = omega (arith, count_by-le-length (λ (passes : Bool). passes) (map test (range_with_len 0 n)), length-map-range_with_len test 0 n)

-- Tests that agree count the same.
pub count-same : (test other : ℕ → Bool) (n : ℕ) → ((j : ℕ) → j < n → test j ≡ other j) → count_below test n ≡ count_below other n
count-same test other zero each = count-none test ∙ sym (count-none other)
count-same test other (suc n) each =
    let next : suc n ≡ n + 1 = omega arith in
    let before : count_below test n ≡ count_below other n = count-same test other n (λ j below. each j (omega arith)) in
    let one : Bool → ℕ = λ b. cond b 1 0 in
    let here = ap one (each n (omega arith)) in
    omega (arith, ap (count_below test) next, ap (count_below other) next, count-more test n, count-more other n, before, here)

-- What is counted up to a number, and from it on.
pub count-split : (test : ℕ → Bool) (a n : ℕ) → count_below test (a + n) ≡ count_below test a + count_below (λ j. test (a + j)) n
count-split test a zero =
    let at : a + 0 ≡ a = omega arith in
    omega (arith, ap (count_below test) at, count-none (λ (j : ℕ). test (a + j)))
count-split test a (suc n) =
    let after : ℕ → Bool = λ j. test (a + j) in
    let next : suc n ≡ n + 1 = omega arith in
    let at : a + suc n ≡ a + n + 1 = omega arith in
    omega (arith, ap (count_below test) at, count-more test (a + n), count-split test a n, ap (count_below after) next, count-more after n)

-- What is counted up to a number is no more than up to a later one.
pub count-grows : (test : ℕ → Bool) (a b : ℕ) → a ≤ b → count_below test a ≤ count_below test b
count-grows test a b order =
    let at : a + (b - a) ≡ b = omega (arith, order) in
    omega (arith, ap (count_below test) at, count-split test a (b - a))

-- ---- by words

-- A word has as many ones as are counted bit by bit.
pub ones-word : (word : ℕ) → word < 2 ^ 64 → count_ones word ≡ count_below (is_set word) 64
unfolding count_below
ones-word word fits =
    ones-row (λ b. b) (map (is_set word) (range_with_len 0 64)) false 64 word (length-map-range_with_len (is_set word) 0 64) fits
    (λ j h. sym (get_or-map-range_with_len (is_set word) 0 64 j j false h (omega arith)))

-- One word more.
pub count-word : (test : ℕ → Bool) (word w : ℕ) → word < 2 ^ 64 → ((j : ℕ) → j < 64 → is_set word j ≡ test (64 * w + j))
    → count_below test (64 * (w + 1)) ≡ count_below test (64 * w) + count_ones word
count-word test word w fits each =
    let next : 64 * (w + 1) ≡ 64 * w + 64 = omega arith in
    let here : count_ones word ≡ count_below (λ j. test (64 * w + j)) 64 = ones-word word fits ∙ count-same (is_set word) (λ j. test (64 * w + j)) 64 each in
    omega (arith, ap (count_below test) next, count-split test (64 * w) 64, here)

-- A bit of both rows, by their words.
pub is_both-word : (row other : List ℕ) (w j : ℕ) → j < 64 → is_set (bit_and (get_or row w 0) (get_or other w 0)) j ≡ is_both row other (64 * w + j)
is_both-word row other w j below =
    is_set-and (get_or row w 0) (get_or other w 0) j ∙ (λ k. sym (is_set_for-at row w j below) k && sym (is_set_for-at other w j below) k)

pub word_fits : (row other : List ℕ) (w : ℕ) → Fits w64 (get_or row w 0) → bit_and (get_or row w 0) (get_or other w 0) < 2 ^ 64
word_fits row other w fits = omega (arith, and_le_l (get_or row w 0) (get_or other w 0), fits.fits)

-- Where fewer are wanted than a word has, the place is in it.
pub place_in_word : (row other : List ℕ) (w n left place : ℕ) → count_below (is_both row other) (64 * w) + left ≡ n → place < 64
    → count_below (is_set (bit_and (get_or row w 0) (get_or other w 0))) place ≡ left
    → count_below (is_both row other) (64 * w + place) ≡ n
place_in_word row other w n left place before inside here =
    let test : ℕ → Bool = is_both row other in
    let same = count-same (is_set (bit_and (get_or row w 0) (get_or other w 0))) (λ j. test (64 * w + j)) place (λ j below. is_both-word row other w j (omega (arith, below, inside))) in
    omega (arith, count-split test (64 * w) place, same, here, before)

-- Where all bits of a word are counted, no more of them are wanted than it has.
pub no_more : (word j left n : ℕ) → word < 2 ^ 64 → n < count_ones word → count_below (is_set word) j + left ≡ n → j ≡ 64 → ⊥
no_more word j left n fits fewer counted all = absurd (omega (arith, ones-word word fits, ap (count_below (is_set word)) all, counted, fewer))
