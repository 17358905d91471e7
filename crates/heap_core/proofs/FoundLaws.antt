-- The block in which an address lies, by the table.
use Rattle.std.proofs.Common.{◌≡◌, ◌∙◌, ◌⊎◌, ◌<◌, ◌≤◌, ◌+◌, ◌-◌, ◌*◌, ◌==◌, if◌then◌else◌, inl, inr, not, ◌||◌, ℕ, Bool, true, false, List, length, get_or, refl, sym, ap, subst, arith}
use Rattle.std.specs.Prelude.{All}
use Rattle.std.proofs.lemmas.Bool.{cases_Bool, cases_lt, ne_eqb, true≢false}
use Rattle.std.proofs.lemmas.List.Elements.{All-nil}
use Rattle.heap_model.specs.Blocks.{Span, has_address, start_of}
use Rattle.heap_core.specs.Consistent.{AreLate, either_mark, heap_inside, heap_state}
use Rattle.heap_core.specs.declared.heap.Heap.TheInside.{Inside}
use Rattle.heap_model.specs.Shadow.{bits_of}
use Rattle.heap_model.specs.Found.{IsFound, IsInNoBlock, blocks_in}
use Rattle.heap_model.specs.Laws.{has_address-after, has_address-before}
use Rattle.heap_core.specs.Table.{IsBlockAt, IsTable, blocks_of, is_marked, is_unmarked}
use Rattle.heap_model.specs.declared.block.Kind.{Kind}
use Rattle.heap_model.specs.declared.block.Kind.TheVariants.{Live, Painted, Waiting}
use Rattle.heap_core.proofs.BlockLaws.{All-blocks_of}
use Rattle.heap_core.proofs.LateLaws.{get_or-either, length-either}
use Rattle.heap_core.proofs.QuarantineLaws.{is_block_at, live_mark}

-- The address lies in the block from `start` to `top`, at granule p.
pub record LiesAt (base : ℕ) (lengths : List ℕ) (a start top p : ℕ) : Type 0 where
  pub at : IsBlockAt base lengths start top p
  pub from : start ≤ a
  pub before : a < top

-- So it lies in no other block of a list.
only_in : (keeps : Bool → Bool) {base : ℕ} {lengths : List ℕ} (marks : List Bool) {a start top p : ℕ} (Q : Type 0)
    → ((j k : ℕ) → j < k → 0 < get_or lengths k 0 → j + get_or lengths j 0 ≤ k) → LiesAt base lengths a start top p → (keeps (get_or marks p false) ≡ true → Q)
    → All (λ (b : Span). has_address a b ≡ true → (b ≡ (start, top - start)) × Q) (blocks_of keeps base 0 lengths marks)
only_in keeps {base} {lengths} marks {a} {start} {top} {p} Q apart lies q =
    All-blocks_of (λ (b : Span). has_address a b ≡ true → (b ≡ (start, top - start)) × Q) keeps base 0 lengths marks false
    (λ k s at lt some kept has.
    elim (cases_lt k p) [
      | inl less ↦ absurd (true≢false (sym has ∙ has_address-after a (s, 16 * get_or lengths k 0) (omega (arith, apart k p less lies.at.some, lies.at.start_is, lies.from))))
      | inr le ↦ elim (cases_lt p k) [
        | inl more ↦ absurd (true≢false (sym has ∙ has_address-before a (s, 16 * get_or lengths k 0) (omega (arith, apart p k more some, lies.at.top_is, lies.at.start_is, lies.before))))
        | inr ge ↦
            let same : k ≡ p = omega arith in
            let first : s ≡ start = omega (arith, lies.at.start_is) in
            let bytes : 16 * get_or lengths k 0 ≡ top - start = ap (λ (i : ℕ). 16 * get_or lengths i 0) same ∙ omega (arith, lies.at.top_is) in
            (λ i. (first i, bytes i), q (ap (λ (i : ℕ). keeps (get_or marks i false)) (sym same) ∙ kept))
      ]
    ])

-- The marks of a list are those of one row or the other.
either_held : (marks lates : List Bool) (p : ℕ) → length lates ≡ length marks → get_or marks p false ≡ true → not (get_or (either_mark marks lates) p false) ≡ false
either_held marks lates p same held = ap not (get_or-either marks lates p same ∙ ap (λ b. b || get_or lates p false) held)

either_late : (marks lates : List Bool) (p : ℕ) → length lates ≡ length marks → get_or marks p false ≡ false → get_or lates p false ≡ true → not (get_or (either_mark marks lates) p false) ≡ false
either_late marks lates p same none late = ap not (get_or-either marks lates p same ∙ (λ i. none i || late i))

-- A block whose mark is set is painted in an open epoch, and waits otherwise.
pub IsFound-painted : {base : ℕ} {lengths : List ℕ} {marks lates : List Bool} {is_open : Bool} {a start top p : ℕ} → IsTable base lengths marks → AreLate lengths marks lates is_open
    → LiesAt base lengths a start top p → is_open ≡ true → get_or marks p false ≡ true → IsFound (heap_state base lengths marks lates is_open) a start top Painted
IsFound-painted {is_open = false} table are lies is held = absurd (true≢false (sym is))
IsFound-painted {base} {lengths} {marks} {lates} {is_open = true} {a} {start} {top} {p} table are lies is held =
    record {
      block = is_block_at is_marked marks table.same lies.at held;
      from = lies.from;
      before = lies.before;
      only = each;
    } where
      each : (other : Kind) → All (λ (b : Span). has_address a b ≡ true → (b ≡ (start, top - start)) × (other ≡ Painted)) (blocks_in (heap_state base lengths marks lates true) other)
      each Live = only_in is_unmarked (either_mark marks lates) (Live ≡ Painted) table.apart lies (λ kept. absurd (true≢false (sym kept ∙ either_held marks lates p (are.same ∙ sym table.same) held)))
      each Waiting = only_in is_marked lates (Waiting ≡ Painted) table.apart lies (λ kept. absurd (true≢false (sym held ∙ are.apart p kept)))
      each Painted = only_in is_marked marks (Painted ≡ Painted) table.apart lies (λ kept. refl)

pub IsFound-waiting : {base : ℕ} {lengths : List ℕ} {marks lates : List Bool} {is_open : Bool} {a start top p : ℕ} → IsTable base lengths marks → AreLate lengths marks lates is_open
    → LiesAt base lengths a start top p → is_open ≡ false → get_or marks p false ≡ true → IsFound (heap_state base lengths marks lates is_open) a start top Waiting
IsFound-waiting {is_open = true} table are lies is held = absurd (true≢false is)
IsFound-waiting {base} {lengths} {marks} {lates} {is_open = false} {a} {start} {top} {p} table are lies is held =
    record {
      block = is_block_at is_marked marks table.same lies.at held;
      from = lies.from;
      before = lies.before;
      only = each;
    } where
      each : (other : Kind) → All (λ (b : Span). has_address a b ≡ true → (b ≡ (start, top - start)) × (other ≡ Waiting)) (blocks_in (heap_state base lengths marks lates false) other)
      each Live = only_in is_unmarked (either_mark marks lates) (Live ≡ Waiting) table.apart lies (λ kept. absurd (true≢false (sym kept ∙ either_held marks lates p (are.same ∙ sym table.same) held)))
      each Waiting = only_in is_marked marks (Waiting ≡ Waiting) table.apart lies (λ kept. refl)
      each Painted = All-nil (λ (b : Span). has_address a b ≡ true → (b ≡ (start, top - start)) × (Painted ≡ Waiting))

-- A late block waits.
pub IsFound-late : {base : ℕ} {lengths : List ℕ} {marks lates : List Bool} {is_open : Bool} {a start top p : ℕ} → IsTable base lengths marks → AreLate lengths marks lates is_open
    → LiesAt base lengths a start top p → get_or marks p false ≡ false → get_or lates p false ≡ true → IsFound (heap_state base lengths marks lates is_open) a start top Waiting
IsFound-late {is_open = false} {p} table are lies none late = absurd (true≢false (sym late ∙ are.closed refl p))
IsFound-late {base} {lengths} {marks} {lates} {is_open = true} {a} {start} {top} {p} table are lies none late =
    record {
      block = is_block_at is_marked lates are.same lies.at late;
      from = lies.from;
      before = lies.before;
      only = each;
    } where
      each : (other : Kind) → All (λ (b : Span). has_address a b ≡ true → (b ≡ (start, top - start)) × (other ≡ Waiting)) (blocks_in (heap_state base lengths marks lates true) other)
      each Live = only_in is_unmarked (either_mark marks lates) (Live ≡ Waiting) table.apart lies (λ kept. absurd (true≢false (sym kept ∙ either_late marks lates p (are.same ∙ sym table.same) none late)))
      each Waiting = only_in is_marked lates (Waiting ≡ Waiting) table.apart lies (λ kept. refl)
      each Painted = only_in is_marked marks (Painted ≡ Waiting) table.apart lies (λ kept. absurd (true≢false (sym kept ∙ none)))

-- And every other block is live.
pub IsFound-live : {base : ℕ} {lengths : List ℕ} {marks lates : List Bool} {is_open : Bool} {a start top p : ℕ} → IsTable base lengths marks → AreLate lengths marks lates is_open
    → LiesAt base lengths a start top p → get_or marks p false ≡ false → get_or lates p false ≡ false → IsFound (heap_state base lengths marks lates is_open) a start top Live
IsFound-live {base} {lengths} {marks} {lates} {is_open} {a} {start} {top} {p} table are lies none early =
    let live : not (get_or (either_mark marks lates) p false) ≡ true = ap not (live_mark p table.same are none early) in
    record {
      block = is_block_at is_unmarked (either_mark marks lates) (length-either marks lates ∙ table.same) lies.at live;
      from = lies.from;
      before = lies.before;
      only = each is_open;
    } where
      each : (opened : Bool) (other : Kind) → All (λ (b : Span). has_address a b ≡ true → (b ≡ (start, top - start)) × (other ≡ Live)) (blocks_in (heap_state base lengths marks lates opened) other)
      each opened Live = only_in is_unmarked (either_mark marks lates) (Live ≡ Live) table.apart lies (λ kept. refl)
      each true Waiting = only_in is_marked lates (Waiting ≡ Live) table.apart lies (λ kept. absurd (true≢false (sym kept ∙ early)))
      each false Waiting = only_in is_marked marks (Waiting ≡ Live) table.apart lies (λ kept. absurd (true≢false (sym kept ∙ none)))
      each true Painted = only_in is_marked marks (Painted ≡ Live) table.apart lies (λ kept. absurd (true≢false (sym kept ∙ none)))
      each false Painted = All-nil (λ (b : Span). has_address a b ≡ true → (b ≡ (start, top - start)) × (Painted ≡ Live))

-- So what is so of a block goes by both marks of its granule.
pub IsFound-kind : {base : ℕ} {lengths : List ℕ} {marks lates : List Bool} {is_open : Bool} {a start top p : ℕ} {kind : Kind} → IsTable base lengths marks → AreLate lengths marks lates is_open
    → LiesAt base lengths a start top p
    → (get_or marks p false ≡ true → kind ≡ (if is_open then Painted else Waiting))
    → (get_or marks p false ≡ false → get_or lates p false ≡ true → kind ≡ Waiting)
    → (get_or marks p false ≡ false → get_or lates p false ≡ false → kind ≡ Live)
    → IsFound (heap_state base lengths marks lates is_open) a start top kind
IsFound-kind {base} {lengths} {marks} {lates} {is_open} {a} {start} {top} {p} table are lies due late live =
    let found = IsFound (heap_state base lengths marks lates is_open) a start top in
    elim (cases_Bool (get_or marks p false)) [
      | inl held ↦ elim (cases_Bool is_open) [
        | inl opened ↦ subst found (sym (due held ∙ ap (λ (b : Bool). if b then Painted else Waiting) opened)) (IsFound-painted table are lies opened held)
        | inr closed ↦ subst found (sym (due held ∙ ap (λ (b : Bool). if b then Painted else Waiting) closed)) (IsFound-waiting table are lies closed held)
      ]
      | inr none ↦ elim (cases_Bool (get_or lates p false)) [
        | inl waits ↦ subst found (sym (late none waits)) (IsFound-late table are lies none waits)
        | inr early ↦ subst found (sym (live none early)) (IsFound-live table are lies none early)
      ]
    ]

-- An address that lies in no block of the table lies in none of a list.
none_in : (keeps : Bool → Bool) (base : ℕ) (lengths : List ℕ) (marks : List Bool) (a : ℕ)
    → ((k : ℕ) → k < length lengths → 0 < get_or lengths k 0 → has_address a (base + 16 * k, 16 * get_or lengths k 0) ≡ false)
    → All (λ (b : Span). has_address a b ≡ false) (blocks_of keeps base 0 lengths marks)
none_in keeps base lengths marks a none =
    All-blocks_of (λ (b : Span). has_address a b ≡ false) keeps base 0 lengths marks false
    (λ k s at lt some kept. let first : s ≡ base + 16 * k = omega arith in ap (λ (x : ℕ). has_address a (x, 16 * get_or lengths k 0)) first ∙ none k lt some)

pub IsInNoBlock-table : (h : Inside) (a : ℕ)
    → ((k : ℕ) → k < length h.table.lengths → 0 < get_or h.table.lengths k 0 → has_address a (h.base + 16 * k, 16 * get_or h.table.lengths k 0) ≡ false)
    → IsInNoBlock (heap_inside h) a
IsInNoBlock-table h a none = each h.is_open where
  each : (opened : Bool) → IsInNoBlock (heap_state h.base h.table.lengths h.table.marks (bits_of h.late.items) opened) a
  each opened Live = none_in is_unmarked h.base h.table.lengths (either_mark h.table.marks (bits_of h.late.items)) a none
  each true Waiting = none_in is_marked h.base h.table.lengths (bits_of h.late.items) a none
  each false Waiting = none_in is_marked h.base h.table.lengths h.table.marks a none
  each true Painted = none_in is_marked h.base h.table.lengths h.table.marks a none
  each false Painted = All-nil (λ (b : Span). has_address a b ≡ false)

-- So it is outside the heap,
pub IsInNoBlock-outside : (h : Inside) (a : ℕ) → IsTable h.base h.table.lengths h.table.marks
    → (a < h.base) ⊎ (h.base + 16 * length h.table.lengths ≤ a) → IsInNoBlock (heap_inside h) a
IsInNoBlock-outside h a table (inl below) =
    IsInNoBlock-table h a (λ k lt some. has_address-before a (h.base + 16 * k, 16 * get_or h.table.lengths k 0) (omega (arith, below)))
IsInNoBlock-outside h a table (inr above) =
    IsInNoBlock-table h a (λ k lt some. has_address-after a (h.base + 16 * k, 16 * get_or h.table.lengths k 0) (omega (arith, above, table.inside k lt)))

-- and where no block reaches past its granule g.
pub IsInNoBlock-ends : (h : Inside) (a g : ℕ) → h.base + 16 * g ≤ a → a < h.base + 16 * g + 16
    → ((k : ℕ) → k ≤ g → k + get_or h.table.lengths k 0 ≤ g) → IsInNoBlock (heap_inside h) a
IsInNoBlock-ends h a g from before ends =
    IsInNoBlock-table h a
    (λ k lt some. elim (cases_lt g k) [
      | inl more ↦ has_address-before a (h.base + 16 * k, 16 * get_or h.table.lengths k 0) (omega (arith, more, before))
      | inr le ↦ has_address-after a (h.base + 16 * k, 16 * get_or h.table.lengths k 0) (omega (arith, ends k le, from))
    ])

-- ---- blocks that start at an address

-- Where no block of the table starts at granule g, none of a list starts at its address.
none_starts : (keeps : Bool → Bool) (base : ℕ) (lengths : List ℕ) (marks : List Bool) (g : ℕ) → get_or lengths g 0 ≡ 0
    → All (λ (b : Span). (start_of b == base + 16 * g) ≡ false) (blocks_of keeps base 0 lengths marks)
none_starts keeps base lengths marks g none =
    All-blocks_of (λ (b : Span). (start_of b == base + 16 * g) ≡ false) keeps base 0 lengths marks false
    (λ k s at lt some kept. ne_eqb s (base + 16 * g)
    (λ same. let here : k ≡ g = omega (arith, same) in omega (arith, ap (λ (i : ℕ). get_or lengths i 0) here)))

pub none_start : (h : Inside) (g : ℕ) → get_or h.table.lengths g 0 ≡ 0
    → (kind : Kind) → All (λ (b : Span). (start_of b == h.base + 16 * g) ≡ false) (blocks_in (heap_inside h) kind)
none_start h g none = each h.is_open where
  each : (opened : Bool) (kind : Kind) → All (λ (b : Span). (start_of b == h.base + 16 * g) ≡ false) (blocks_in (heap_state h.base h.table.lengths h.table.marks (bits_of h.late.items) opened) kind)
  each opened Live = none_starts is_unmarked h.base h.table.lengths (either_mark h.table.marks (bits_of h.late.items)) g none
  each true Waiting = none_starts is_marked h.base h.table.lengths (bits_of h.late.items) g none
  each false Waiting = none_starts is_marked h.base h.table.lengths h.table.marks g none
  each true Painted = none_starts is_marked h.base h.table.lengths h.table.marks g none
  each false Painted = All-nil (λ (b : Span). (start_of b == h.base + 16 * g) ≡ false)
