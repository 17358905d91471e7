-- Shares that are painted, and joined to a shadow.
use Rattle.std.proofs.Common.{◌≡◌, ◌∙◌, ◌<◌, ◌≤◌, ◌+◌, ◌-◌, ◌*◌, ◌/◌, ◌%◌, ◌^◌, ◌==◌, ◌||◌, inl, inr, nat_le, ℕ, Bool, false, All, List, [], ◌∷◌, ◌++◌, drop, length, get_or, take, refl, sym, ap, subst, arith}
use Rattle.std.specs.List.{list_any}
use Rattle.std.proofs.lemmas.Bool.{and_parts, cases_Bool, cases_lt, eqb-true, or_cases, or_parts}
use Rattle.std.proofs.lemmas.List.{drop-drop, drop-take, get_or_append_left, get_or_push, length-append, take-append-drop, take-take, take_all}
use Rattle.std.proofs.lemmas.List.Folds.{list_any-append}
use Rattle.std.proofs.lemmas.List.Elements.{All-head, All-tail}
use Rattle.std.proofs.Math.Nat.{div-le_of_le-mul, div-mul-le_self}
use Rattle.std.proofs.lemmas.Nat.{le-div, mul-le}
use Rattle.std.proofs.lemmas.Nat.Bits.{bit_at-lt}
use Rattle.heap_model.specs.Blocks.{Span, end_of, has_address, lies_in, start_of}
use Rattle.heap_model.specs.Heap.{HeapState, IsInside, IsSound, due}
use Rattle.heap_model.specs.Laws.{due-inside, has_address-after, has_address-before, has_address-within}
use Rattle.heap_core.specs.Painting.{IsPainted, is_in_due}
use Rattle.heap_model.specs.Quarantine.{IsShadow}
use Rattle.mark_board.specs.Bits.{has, union}
use Rattle.mark_board.specs.Board.{BoardState, IsOf, IsSeat, SeatState, no_bits, word_count}
use Rattle.mark_board.specs.Laws.{bit-none, bit-united}
use Rattle.sweep_pool.specs.Painting.{EachAt, HasGranules, HasPainted, is_due_at, share_start}
use Rattle.tag_memory.specs.Tags.{is_set_for}

-- ---- blocks by their numbers

-- A granule in blocks a to c is in a to b, or in b to c.
pub in_due-split : (s : HeapState) (a b c k : ℕ) → a ≤ b → b ≤ c → is_in_due s a c k ≡ (is_in_due s a b k || is_in_due s b c k)
in_due-split s a b c k low high =
    let from_a : List Span = drop a (due s) in
    let test : Span → Bool = has_address (s.base + 16 * k) in
    let whole : (b - a) + (c - b) ≡ c - a = omega (arith, low, high) in
    let at : a + (b - a) ≡ b = omega (arith, low) in
    let first : take (b - a) (take (c - a) from_a) ≡ take (b - a) from_a = take-take (b - a) (c - a) from_a (omega (arith, high)) in
    let second : drop (b - a) (take (c - a) from_a) ≡ take (c - b) (drop b (due s)) =
    ap (λ (n : ℕ). drop (b - a) (take n from_a)) (sym whole) ∙ (drop-take (b - a) (c - b) from_a ∙ ap (take (c - b)) (drop-drop (b - a) a (due s) ∙ ap (λ (n : ℕ). drop n (due s)) at)) in
    let both = list_any-append test (take (b - a) (take (c - a) from_a)) (drop (b - a) (take (c - a) from_a)) in
    ap (list_any test) (sym (take-append-drop (b - a) (take (c - a) from_a))) ∙ (both ∙ (λ i. list_any test (first i) || list_any test (second i)))

abbrev lies_in_at : (s : HeapState) (k : ℕ) → List Span → Bool
lies_in_at s k blocks = lies_in blocks (s.base + 16 * k)

-- ---- seats

-- One share more: what lies in neither part was set through neither seat.
pub painted-join : (s : HeapState) (board : BoardState) (a b c : ℕ) (whole one both : SeatState) → a ≤ b → b ≤ c → HasPainted s board b c whole → HasPainted s board a b one
    → IsOf board both → IsSeat both → both.mine ≡ union whole.mine one.mine → both.seen ≡ union whole.seen one.seen → HasPainted s board a c both
painted-join s board a b c whole one both low high all more of sound mine seen = record {
  of = of;
  sound = sound;
  mine = λ k free.
      let parts = or_parts (is_in_due s a b k) (is_in_due s b c k) (sym (in_due-split s a b c k low high) ∙ free) in
      omega (arith, ap (λ (set : List ℕ). has set k) mine, bit-united whole.mine one.mine (k / 64) (k % 64), all.mine k parts.1, more.mine k parts.0);
  seen = λ k is.
      let limit = bit_at-lt (get_or both.seen (k / 64) 0) (k % 64) in
      let set = bit-united whole.seen one.seen (k / 64) (k % 64) in
      let at = ap (λ (set : List ℕ). has set k) seen in
      elim (or_cases (is_in_due s a b k) (is_in_due s b c k) (sym (in_due-split s a b c k low high) ∙ is)) [
        | inl here ↦ omega (arith, at, set, more.seen k here, limit)
        | inr there ↦ omega (arith, at, set, all.seen k there, limit)
      ];
}

-- What a worker leaves.
pub painted-share : (s : HeapState) (board : BoardState) (a b : ℕ) (old new : SeatState) → old.mine ≡ no_bits board → IsSeat old → IsPainted (is_in_due s a b) board old new → HasPainted s board a b new
painted-share s board a b old new none sound p = record {
  of = p.of;
  sound = p.sound sound;
  mine = λ k free. p.mine k free ∙ (ap (λ (set : List ℕ). has set k) none ∙ bit-none _ (k / 64) (k % 64));
  seen = p.seen;
}

-- ---- the shadow

base_whole : (s : HeapState) → IsSound s → s.base % 16 ≡ 0
base_whole s sound =
    let page : s.base % 4096 ≡ 0 = eqb-true (s.base % 4096) 0 (and_parts (s.base % 4096 == 0) (nat_le (s.base + 4096 * sound.pages) (2 ^ 64)) sound.place).0 in
    omega (arith, page)

-- A block that is due is whole granules.
same_granule : (s : HeapState) (a k : ℕ) (block : Span) → s.base % 16 ≡ 0 → IsInside s block → s.base + 16 * k ≤ a → a < s.base + 16 * k + 16 → has_address a block ≡ has_address (s.base + 16 * k) block
same_granule s a k block base inside low high = elim (cases_lt a (start_of block)) [
  | inl before ↦ (let there : s.base + 16 * k < start_of block = omega (arith, before, low) in has_address-before a block before ∙ sym (has_address-before (s.base + 16 * k) block there))
  | inr from ↦
      let there : start_of block ≤ s.base + 16 * k = omega (arith, from, high, base, inside.start) in
      elim (cases_lt a (end_of block)) [
        | inl short ↦ (let less : s.base + 16 * k < end_of block = omega (arith, short, low) in has_address-within a block from short ∙ sym (has_address-within (s.base + 16 * k) block there less))
        | inr past ↦ (let less : end_of block ≤ s.base + 16 * k = omega (arith, past, high, base, inside.start, inside.length) in has_address-after a block past ∙ sym (has_address-after (s.base + 16 * k) block less))
      ]
]

same_granules : (s : HeapState) (a k : ℕ) (blocks : List Span) → s.base % 16 ≡ 0 → All (IsInside s) blocks → s.base + 16 * k ≤ a → a < s.base + 16 * k + 16 → lies_in blocks a ≡ lies_in blocks (s.base + 16 * k)
same_granules s a k [] base inside low high = refl
same_granules s a k (block ∷ blocks) base inside low high =
    let here = same_granule s a k block base (All-head (IsInside s) block blocks inside) low high in
    let rest = same_granules s a k blocks base (All-tail (IsInside s) block blocks inside) low high in
    λ i. here i || rest i

-- Words of which each bit says whether its granule lies in a block that is due are the shadow.
pub shadow-from_words : (s : HeapState) (shadow : List Bool) → IsSound s → 16 * length shadow ≡ s.size → ((k : ℕ) → k < length shadow → get_or shadow k false ≡ is_due_at s k) → IsShadow s shadow
shadow-from_words s shadow sound long each =
    let base : s.base % 16 ≡ 0 = base_whole s sound in
    record {
      granules = long;
      painted = λ a from before.
          let k : ℕ = (a - s.base) / 16 in
          each ((a - s.base) / 16) (omega (arith, from, before, long)) ∙ sym (same_granules s a ((a - s.base) / 16) (due s) base (due-inside s sound) (omega (arith, from)) (omega (arith, from)));
    }

-- What one seat has painted in the end says it of each granule.
pub words-due : (s : HeapState) (board : BoardState) (seat : SeatState) (words : List ℕ) → HasPainted s board 0 (length (due s)) seat → words ≡ seat.mine → words ≡ seat.seen → (k : ℕ) → is_set_for words k ≡ is_due_at s k
words-due s board seat words p mine seen k =
    let none : length (due s) - 0 ≡ length (due s) = omega arith in
    let all : is_in_due s 0 (length (due s)) k ≡ is_due_at s k = ap (λ (n : ℕ). lies_in_at s k (take n (due s))) none ∙ ap (lies_in_at s k) (take_all (length (due s)) (due s) (omega arith)) in
    elim (cases_Bool (is_due_at s k)) [
      | inl is ↦ ap (λ (bit : ℕ). bit == 1) (ap (λ (set : List ℕ). has set k) seen ∙ p.seen k (all ∙ is)) ∙ sym is
      | inr free ↦ ap (λ (bit : ℕ). bit == 1) (ap (λ (set : List ℕ). has set k) mine ∙ p.mine k (all ∙ free)) ∙ sym free
    ]

-- There is a word for 64 granules.
pub words-long : (s : HeapState) (board : BoardState) (seat : SeatState) (words : List ℕ) (granules : ℕ) → IsSound s → HasGranules s board → HasPainted s board 0 (length (due s)) seat → words ≡ seat.mine → 16 * granules ≡ s.size → 64 * length words ≡ granules
words-long s board seat words granules sound bits p mine size =
    let width : length words ≡ word_count board = ap length mine ∙ (p.sound.mine_width ∙ ap word_count p.of) in
    omega (arith, width, bits, size, sound.bytes)

-- ---- shares

-- A share ends where the next one begins, or after.
pub share_order : (h workers i : ℕ) → 0 < workers → share_start h workers i ≤ share_start h workers (i + 1)
share_order h workers i some =
    let least : i * h / workers * workers ≤ i * h = div-mul-le_self (i * h) workers in
    let more : (i + 1) * h ≡ i * h + h = omega arith in
    le-div (i * h / workers) ((i + 1) * h) workers some (omega (arith, least, more))

-- No share goes past the last block,
pub share_limit : (h workers i : ℕ) → i ≤ workers → share_start h workers i ≤ h
share_limit h workers i few = div-le_of_le-mul workers (mul-le i h workers h few (omega arith))

-- at which the last one ends.
pub share_last : (h workers : ℕ) → 0 < workers → share_start h workers workers ≡ h
share_last h workers some =
    let most = share_limit h workers workers (omega arith) in
    let swap : h * workers ≡ workers * h = omega arith in
    let least : h ≤ workers * h / workers = le-div h (workers * h) workers some (omega (arith, swap)) in
    omega (arith, most, least)

-- ---- seats in a list

-- What holds of each element by its number holds of all but the last, and of the last.
pub each_prefix : {X : Type 0} (P : ℕ → X → Type 0) (xs ys : List X) (x : X) → xs ≡ ys ++ x ∷ [] → EachAt P xs → EachAt P ys × P (length ys) x
each_prefix {X = X} P xs ys x is each =
    let long : length xs ≡ length ys + 1 = ap length is ∙ length-append ys (x ∷ []) in
    let before : EachAt P ys = λ i d below. subst (P i) (ap (λ (zs : List X). get_or zs i d) is ∙ get_or_append_left ys (x ∷ []) d i below) (each i d (omega (arith, below, long))) in
    let last : P (length ys) x = subst (P (length ys)) (ap (λ (zs : List X). get_or zs (length ys) x) is ∙ get_or_push ys x x (length ys) refl) (each (length ys) x (omega (arith, long))) in
    (before, last)

pub one_longer : {X : Type 0} (xs ys : List X) (x : X) → xs ≡ ys ++ x ∷ [] → length xs ≡ length ys + 1
one_longer xs ys x is = ap length is ∙ length-append ys (x ∷ [])
