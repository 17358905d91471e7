-- Granules, of their bits and of the words of their tags.
use Rattle.std.proofs.Common.{◌≡◌, ◌≢◌, ℕ, zero, suc, ◌+◌, ◌*◌, ◌/◌, ◌%◌, ◌^◌, ◌==◌, ◌&&◌, ◌<◌, ◌≤◌, Bool, false, not, if◌then◌else◌, cond, List, length, get_or, set, map, take, drop, replicate, sym, refl, ap, ◌∙◌, subst, arith, bit_and, w64, get_or-set_same, get_or-set_other}
use native.Mathlib.Decide.{ℕ_discrete}
use mathlib.Core.Logic.{dite}
use Rattle.std.specs.Int.{bit_at, bit_not}
use Rattle.std.specs.Int.RustNames.{count_ones}
use Rattle.std.specs.List.{count_by, enumerate_from}
use Rattle.std.proofs.lemmas.Bool.{eq-eqb, ne_eqb}
use Rattle.std.proofs.lemmas.List.{length-map, length-set, length-replicate, length-take, length-drop, take-take, drop-take, get_or-map, get_or-replicate, get_or-take, get_or-drop, ext_get_or}
use Rattle.std.proofs.lemmas.List.FromFn.{length-enumerate_from, get_or-enumerate_from}
use Rattle.std.proofs.lemmas.List.Sums.{sum_by-take-drop}
use Rattle.std.proofs.lemmas.Nat.{div_below, mod_below}
use Rattle.std.proofs.lemmas.Nat.Bits.{bit_at-zero, bit_at-lt, same_from_bits_below}
use Rattle.tag_memory.specs.Cells.{Granule}
use Rattle.tag_memory.specs.Laws.{is_set-cleared, is_set_for-other, of_test}
use Rattle.tag_memory.specs.Tags.{granules_of, is_set, is_set_for, is_tagged, number_of_bits, tag_word, without_tags}
use Rattle.tag_memory.proofs.BitLaws.{bit_at-number_of_bits, number_of_bits-lt, ones-number_of_bits}

-- ---- granules of bits and words

-- how many there are
pub length-granules_of : (bits tags : List ℕ) → length (granules_of bits tags) ≡ length bits
unfolding granules_of
length-granules_of bits tags = length-map _ _ ∙ length-enumerate_from 0 bits

-- one of them
pub get_or-granules_of : (bits tags : List ℕ) (i : ℕ) → i < length bits → get_or (granules_of bits tags) i (0, false) ≡ (get_or bits i 0, is_set_for tags i)
unfolding granules_of
get_or-granules_of bits tags i h =
    let here : 0 + i ≡ i = omega arith in
    let at : get_or (enumerate_from 0 bits) i (0, 0) ≡ (i, get_or bits i 0) = get_or-enumerate_from 0 bits i (0, 0) h ∙ ap (λ (n : ℕ). (n, get_or bits i 0)) here in
    get_or-map (λ (at : ℕ × ℕ). (at.1, is_set_for tags at.0)) (enumerate_from 0 bits) i (0, 0) (0, false) (rw length-enumerate_from h) ∙ ap (λ (at : ℕ × ℕ). (at.1, is_set_for tags at.0)) at

-- a list of granules is that of these bits and words, where each granule is
same_granules : (bits tags : List ℕ) (granules : List Granule) → length granules ≡ length bits → ((i : ℕ) → i < length bits → get_or granules i (0, false) ≡ (get_or bits i 0, is_set_for tags i)) → granules_of bits tags ≡ granules
same_granules bits tags granules e h =
    ext_get_or (0, false) (granules_of bits tags) granules (length-granules_of bits tags ∙ sym e)
    (λ i lt. let within : i < length bits = omega (arith, lt, length-granules_of bits tags) in get_or-granules_of bits tags i within ∙ sym (h i within))

-- ---- new memory

pub zero_at : (n i : ℕ) → get_or {A = ℕ} (replicate {A = ℕ} n 0) i 0 ≡ 0
zero_at zero i = refl
zero_at (suc n) zero = refl
zero_at (suc n) (suc i) = zero_at n i

no_bit : (m i : ℕ) → is_set_for (replicate m 0) i ≡ false
no_bit m i = rw zero_at (ap (λ (x : ℕ). x == 1) (bit_at-zero (i % 64)))

pub granules_of-zeros : (n m : ℕ) → granules_of (replicate n 0) (replicate m 0) ≡ replicate n (0, false)
granules_of-zeros n m =
    let bits : List ℕ = replicate n 0 in
    let long : length bits ≡ n = length-replicate {A = ℕ} n 0 in
    let granules : List Granule = replicate n (0, false) in
    let count : length granules ≡ n = length-replicate {A = Granule} n (0, false) in
    same_granules bits (replicate m 0) granules (count ∙ sym long)
    (λ i h. let lt : i < n = omega arith in
    get_or-replicate {A = Granule} n i (0, false) (0, false) lt ∙ (λ k. (sym (zero_at n i) k, sym (no_bit m i) k)))

-- ---- one granule written

-- the bits of the words, where one word is written so that one bit is
is_set_for-set : (tags : List ℕ) (i word k : ℕ) (tag : Bool) → i / 64 < length tags → ((j : ℕ) → j < 64 → is_set word j ≡ (if j == i % 64 then tag else is_set (get_or tags (i / 64) 0) j))
    → is_set_for (set tags (i / 64) word) k ≡ (if k == i then tag else is_set_for tags k)
is_set_for-set tags i word k tag within w =
    let there : get_or (set tags (i / 64) word) (i / 64) 0 ≡ word = get_or-set_same tags (i / 64) word 0 within in
    let place : is_set word (k % 64) ≡ (if k % 64 == i % 64 then tag else is_set (get_or tags (i / 64) 0) (k % 64)) = w (k % 64) (mod_below k 64 (omega arith)) in
    dite (ℕ_discrete k i)
    (λ here. rw (eq-eqb k i here) (rw here (rw there (w (i % 64) (mod_below i 64 (omega arith)) ∙ rw (eq-eqb (i % 64) (i % 64) refl) refl))))
    (λ other. rw (ne_eqb k i other) (dite (ℕ_discrete (k / 64) (i / 64))
    (λ same. let apart : k % 64 ≢ i % 64 = (λ e. other (omega arith)) in
    rw same (rw there (place ∙ rw (ne_eqb (k % 64) (i % 64) apart) refl)))
    (λ ne. is_set_for-other tags (i / 64) word k ne)))

pub granules_of-set : (bits tags : List ℕ) (i b word : ℕ) (tag : Bool) → length bits ≡ 64 * length tags → i < length bits → ((j : ℕ) → j < 64 → is_set word j ≡ (if j == i % 64 then tag else is_set (get_or tags (i / 64) 0) j))
    → granules_of (set bits i b) (set tags (i / 64) word) ≡ set (granules_of bits tags) i (b, tag)
granules_of-set bits tags i b word tag e h w =
    let granules : List Granule = granules_of bits tags in
    let new_tags : List ℕ = set tags (i / 64) word in
    let long : length granules ≡ length bits = length-granules_of bits tags in
    let within : i / 64 < length tags = div_below i 64 (length tags) (omega arith) (omega arith) in
    same_granules (set bits i b) new_tags (set granules i (b, tag)) (length-set granules i (b, tag) ∙ (long ∙ sym (length-set bits i b)))
    (λ k lt. let below : k < length bits = omega (arith, lt, length-set bits i b) in
    let bit : is_set_for new_tags k ≡ (if k == i then tag else is_set_for tags k) = is_set_for-set tags i word k tag within w in
    dite (ℕ_discrete k i)
    (λ here. let old : get_or (set granules i (b, tag)) k (0, false) ≡ (b, tag) = rw here (get_or-set_same granules i (b, tag) (0, false) (omega arith)) in
    let new : get_or (set bits i b) k 0 ≡ b = rw here (get_or-set_same bits i b 0 h) in
    let tagged : is_set_for new_tags k ≡ tag = bit ∙ rw (eq-eqb k i here) refl in
    old ∙ (λ x. (sym new x, sym tagged x)))
    (λ other. let old : get_or (set granules i (b, tag)) k (0, false) ≡ (get_or bits k 0, is_set_for tags k) = get_or-set_other granules i k (b, tag) (0, false) other ∙ get_or-granules_of bits tags k below in
    let new : get_or (set bits i b) k 0 ≡ get_or bits k 0 = get_or-set_other bits i k b 0 other in
    let tagged : is_set_for new_tags k ≡ is_set_for tags k = bit ∙ rw (ne_eqb k i other) refl in
    old ∙ (λ x. (sym new x, sym tagged x))))

-- ---- a word of tags

-- the bit of granule 64 * w + j is bit j of word w
word_place : (w j : ℕ) → j < 64 → ((64 * w + j) / 64 ≡ w) × ((64 * w + j) % 64 ≡ j)
word_place w j h = (omega arith, omega arith)

pub is_set-granules_of : (bits tags : List ℕ) (w j : ℕ) → 64 * w + j < length bits → j < 64 → is_set (get_or tags w 0) j ≡ is_tagged (granules_of bits tags) (64 * w + j)
is_set-granules_of bits tags w j within h =
    let place : ((64 * w + j) / 64 ≡ w) × ((64 * w + j) % 64 ≡ j) = word_place w j h in
    let cell : get_or (granules_of bits tags) (64 * w + j) (0, false) ≡ (get_or bits (64 * w + j) 0, is_set_for tags (64 * w + j)) = get_or-granules_of bits tags (64 * w + j) within in
    sym (ap (λ (x : Granule). x.1) cell ∙ rw (place.0, place.1) refl)

abbrev tag_of : Granule → Bool
tag_of cell = cell.1

-- the w-th 64 granules
abbrev run_of : List Granule → ℕ → List Granule
run_of granules w = take 64 (drop (64 * w) granules)

length-run_of : (granules : List Granule) (w : ℕ) → 64 * w + 64 ≤ length granules → length (run_of granules w) ≡ 64
length-run_of granules w h = omega (arith, length-take 64 (drop (64 * w) granules), length-drop (64 * w) granules)

get_or-run_of : (granules : List Granule) (w j : ℕ) → 64 * w + 64 ≤ length granules → j < 64 → get_or (map tag_of (run_of granules w)) j false ≡ is_tagged granules (64 * w + j)
get_or-run_of granules w j h lt =
    let short : j < length (run_of granules w) = omega (arith, lt, length-run_of granules w h) in
    get_or-map tag_of (run_of granules w) j (0, false) false short ∙ ap tag_of (get_or-take 64 (drop (64 * w) granules) j (0, false) lt ∙ get_or-drop (64 * w) granules j (0, false))

pub tag_word-granules_of : (bits tags : List ℕ) (w : ℕ) → 64 * w + 64 ≤ length bits → get_or tags w 0 < 2 ^ 64 → get_or tags w 0 ≡ tag_word (granules_of bits tags) w
unfolding tag_word
tag_word-granules_of bits tags w within fits =
    let granules : List Granule = granules_of bits tags in
    let long : 64 * w + 64 ≤ length granules = omega (arith, within, length-granules_of bits tags) in
    let row : List Bool = map tag_of (run_of granules w) in
    let count : length row ≡ 64 = length-map (run_of granules w) tag_of ∙ length-run_of granules w long in
    let below : number_of_bits row < 2 ^ 64 = subst (λ (n : ℕ). number_of_bits row < 2 ^ n) count (number_of_bits-lt row) in
    sym (same_from_bits_below 64 (number_of_bits row) (get_or tags w 0) below fits (λ j h.
    bit_at-number_of_bits row j
    ∙ (ap (λ (b : Bool). if b then 1 else 0) (get_or-run_of granules w j long h ∙ sym (is_set-granules_of bits tags w j (omega arith) h))
    ∙ of_test (bit_at (get_or tags w 0) j) (bit_at-lt (get_or tags w 0) j))))

-- ---- tags counted by words

counted : (granules : List Granule) (w : ℕ) → count_ones (tag_word granules w) ≡ count_by tag_of (run_of granules w)
unfolding tag_word
counted granules w = ones-number_of_bits tag_of (run_of granules w)

pub count_more : (bits tags : List ℕ) (w : ℕ) → 64 * w + 64 ≤ length bits → get_or tags w 0 < 2 ^ 64
    → count_by tag_of (take (64 * (w + 1)) (granules_of bits tags)) ≡ count_by tag_of (take (64 * w) (granules_of bits tags)) + count_ones (get_or tags w 0)
count_more bits tags w within fits =
    let granules : List Granule = granules_of bits tags in
    let next : 64 * (w + 1) ≡ 64 * w + 64 = omega arith in
    let split = sum_by-take-drop (λ (x : Granule). cond (tag_of x) 1 0) (take (64 * w + 64) granules) (64 * w) in
    let before : take (64 * w) (take (64 * w + 64) granules) ≡ take (64 * w) granules = take-take (64 * w) (64 * w + 64) granules (omega arith) in
    let here : drop (64 * w) (take (64 * w + 64) granules) ≡ run_of granules w = drop-take (64 * w) 64 granules in
    let ones : count_ones (get_or tags w 0) ≡ count_by tag_of (run_of granules w) = ap count_ones (tag_word-granules_of bits tags w within fits) ∙ counted granules w in
    rw (next, ones) (sym (rw (before, here) at split))

-- ---- tags taken by words

pub without_tags-granules_of : (bits tags masks new : List ℕ) → length bits ≡ 64 * length tags → ((k : ℕ) → get_or masks k 0 < 2 ^ 64) → ((k : ℕ) → k < length tags → get_or new k 0 ≡ bit_and (get_or tags k 0) (bit_not w64 (get_or masks k 0)))
    → granules_of bits new ≡ without_tags masks (granules_of bits tags)
unfolding without_tags
without_tags-granules_of bits tags masks new e fits each =
    let granules : List Granule = granules_of bits tags in
    let count : length granules ≡ length bits = length-granules_of bits tags in
    let numbered : length (enumerate_from 0 granules) ≡ length bits = length-enumerate_from 0 granules ∙ count in
    let kept : ℕ × Granule → Granule = λ at. (at.1.0, at.1.1 && not (is_set_for masks at.0)) in
    same_granules bits new (map kept (enumerate_from 0 granules)) (length-map _ _ ∙ numbered)
    (λ i h. let here : 0 + i ≡ i = omega arith in
    let at : get_or (enumerate_from 0 granules) i (0, (0, false)) ≡ (i, (get_or bits i 0, is_set_for tags i)) =
    get_or-enumerate_from 0 granules i (0, (0, false)) (omega arith) ∙ (λ k. (here k, get_or-granules_of bits tags i h k)) in
    let word : i / 64 < length tags = div_below i 64 (length tags) (omega arith) (omega arith) in
    let bit : is_set_for new i ≡ (is_set_for tags i && not (is_set_for masks i)) =
    rw (each (i / 64) word) (is_set-cleared (get_or tags (i / 64) 0) (get_or masks (i / 64) 0) (i % 64) (fits (i / 64)) (mod_below i 64 (omega arith))) in
    get_or-map kept (enumerate_from 0 granules) i (0, (0, false)) (0, false) (omega arith) ∙ (ap kept at ∙ (λ k. (get_or bits i 0, sym bit k))))
