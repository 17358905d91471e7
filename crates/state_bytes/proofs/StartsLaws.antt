-- Which block starts at an address.
use Rattle.std.proofs.Common.{◌≡◌, ◌∙◌, ◌<◌, ◌≤◌, ◌+◌, ◌-◌, ◌%◌, ◌^◌, ◌==◌, inl, inr, ℕ, true, false, List, [], ◌∷◌, get_or, refl, sym, ap, subst, eq-eqb, arith}
use Rattle.std.specs.Prelude.{All, nat_le}
use Rattle.std.proofs.lemmas.Bool.{and_left, and_parts, cases_eq, cases_lt, ne_eqb, true≢false}
use Rattle.std.proofs.lemmas.Bool.Decides.{nat_tests}
use Rattle.std.proofs.lemmas.List.Elements.{All-contains, All-head, All-tail}
use Rattle.heap_model.specs.Blocks.{IsApart, Span, end_of, has_address, has_bounds, is_block, length_of, start_of}
use Rattle.heap_model.specs.Found.{IsFound, blocks_in}
use Rattle.heap_model.specs.Heap.{HeapState, IsInside, IsSound}
use Rattle.heap_model.specs.Laws.{Contains-block, has_address-within}
use Rattle.heap_model.specs.declared.block.Kind.{Kind}
use Rattle.heap_model.specs.declared.block.Kind.TheVariants.{Live, Painted, Waiting}
use Rattle.state_bytes.specs.Text.{starts_in}

pub starts_in-zero : (blocks : List Span) (a : ℕ) → All (λ b. start_of b ≡ a → ⊥) blocks → starts_in blocks a ≡ 0
starts_in-zero [] a none = refl
starts_in-zero (b ∷ blocks) a none =
    rw (ne_eqb (start_of b) a (All-head (λ (b : Span). start_of b ≡ a → ⊥) b blocks none)) (starts_in-zero blocks a (All-tail (λ (b : Span). start_of b ≡ a → ⊥) b blocks none))

pub starts_in-found : (blocks : List Span) (a top n : ℕ) → All (λ b. start_of b ≡ a → length_of b ≡ n) blocks → is_block blocks a top ≡ true → starts_in blocks a ≡ n
starts_in-found [] a top n each is = absurd (true≢false (sym is))
starts_in-found (b ∷ blocks) a top n each is =
    elim (cases_eq (start_of b) a) [
      | inl same ↦ rw (eq-eqb (start_of b) a same) (All-head (λ (b : Span). start_of b ≡ a → length_of b ≡ n) b blocks each same)
      | inr other ↦
          let no : has_bounds a top b ≡ false = and_left (start_of b == a) (end_of b == top) (ne_eqb (start_of b) a other) in
          rw (ne_eqb (start_of b) a other) (starts_in-found blocks a top n (All-tail (λ (b : Span). start_of b ≡ a → length_of b ≡ n) b blocks each) (rw no at is))
    ]

-- What holds of each block holds of the one that starts at an address.
pub All-start : (P : Span → Type 0) (a n : ℕ) (xs : List Span) → All P xs → starts_in xs a ≡ n → 0 < n → P (a, n)
All-start P a n [] each is some = absurd (omega (arith, is, some))
All-start P a n (b ∷ xs) each is some =
    elim (cases_eq (start_of b) a) [
      | inl same ↦
          let long : length_of b ≡ n = sym (rw (eq-eqb (start_of b) a same) refl) ∙ is in
          let block : b ≡ (a, n) = λ i. (same i, long i) in
          subst P block (All-head P b xs each)
      | inr other ↦
          let next : starts_in xs a ≡ n = sym (rw (ne_eqb (start_of b) a other) refl) ∙ is in
          All-start P a n xs (All-tail P b xs each) next some
    ]

-- Its length is whole granules.
pub starts_even : (s : HeapState) (xs : List Span) (a : ℕ) → All (IsInside s) xs → starts_in xs a % 16 ≡ 0
starts_even s [] a inside = refl
starts_even s (b ∷ xs) a inside =
    elim (cases_eq (start_of b) a) [
      | inl same ↦ rw (eq-eqb (start_of b) a same) (All-head (IsInside s) b xs inside).length
      | inr other ↦ rw (ne_eqb (start_of b) a other) (starts_even s xs a (All-tail (IsInside s) b xs inside))
    ]

not_both : (a n k : ℕ) → 0 < n → 0 < k → IsApart (a, n) (a, k) → ⊥
not_both a n k some_n some_k (inl ends) = omega (arith, ends, some_n)
not_both a n k some_n some_k (inr begins) = omega (arith, begins, some_k)

-- Of blocks that are apart only one starts there.
pub starts_apart : (xs ys : List Span) (a : ℕ) → All (λ x. All (IsApart x) ys) xs → 0 < starts_in xs a → starts_in ys a ≡ 0
starts_apart xs ys a each some =
    elim (cases_lt 0 (starts_in ys a)) [
      | inl other ↦
          let apart : All (IsApart (a, starts_in xs a)) ys = All-start (λ (x : Span). All (IsApart x) ys) a (starts_in xs a) xs each refl some in
          absurd (not_both a (starts_in xs a) (starts_in ys a) some other (All-start (IsApart (a, starts_in xs a)) a (starts_in ys a) ys apart refl other))
      | inr most ↦ omega (arith, most)
    ]

-- ---- the block that was found

-- The blocks of each kind lie inside the heap.
pub inside_of : (heap : HeapState) (kind : Kind) → IsSound heap → All (IsInside heap) (blocks_in heap kind)
inside_of heap Live sound = sound.live_inside
inside_of heap Waiting sound = sound.waiting_inside
inside_of heap Painted sound = sound.painted_inside

starts_has : (a : ℕ) (b : Span) → 0 < length_of b → start_of b ≡ a → has_address a b ≡ true
starts_has a b some is = has_address-within a b (omega (arith, is)) (omega (arith, is, some))

pub length_in-other : (heap : HeapState) (a base top : ℕ) (kind wanted : Kind) → IsSound heap → IsFound heap a base top kind → (base ≡ a → kind ≡ wanted → ⊥)
    → starts_in (blocks_in heap wanted) a ≡ 0
length_in-other heap a base top kind wanted sound found other =
    starts_in-zero (blocks_in heap wanted) a
    (λ k d lt is.
    let only = found.only wanted k d lt (starts_has a (get_or (blocks_in heap wanted) k d) (inside_of heap wanted sound k d lt).some is) in
    other (sym (ap start_of only.0) ∙ is) (sym only.1))

pub length_in-found : (heap : HeapState) (a base top : ℕ) (kind : Kind) → IsSound heap → IsFound heap a base top kind → base ≡ a
    → starts_in (blocks_in heap kind) a ≡ top - a
length_in-found heap a base top kind sound found at =
    let block : is_block (blocks_in heap kind) a top ≡ true = (λ i. is_block (blocks_in heap kind) (sym at i) top) ∙ found.block in
    starts_in-found (blocks_in heap kind) a top (top - a)
    (λ k d lt is.
    let only = found.only kind k d lt (starts_has a (get_or (blocks_in heap kind) k d) (inside_of heap kind sound k d lt).some is) in
    ap length_of only.0 ∙ ap (λ (x : ℕ). top - x) at) block

-- A block is not long.
pub found_limit : (heap : HeapState) (a base top : ℕ) (kind : Kind) → IsSound heap → IsFound heap a base top kind → top ≤ base + 2 ^ 22
found_limit heap a base top kind sound found =
    let inside = All-contains (IsInside heap) (blocks_in heap kind) (base, top - base) (inside_of heap kind sound) (Contains-block base top (blocks_in heap kind) found.block) in
    let both = and_parts (nat_le 1 sound.pages) (nat_le sound.pages 1024) sound.size in
    let most : sound.pages ≤ 1024 = grind (arith, nat_tests, both.1) in
    omega (arith, inside.from, inside.end, sound.bytes, most, found.from, found.before)
