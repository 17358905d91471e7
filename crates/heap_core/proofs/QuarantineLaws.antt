-- A block of a table that is given up: what it is, and the table once it is held.
use Rattle.std.proofs.Common.{◌≡◌, ◌<◌, ◌+◌, ◌*◌, ◌-◌, ◌==◌, inl, inr, nat_lt, ◌&&◌, ◌||◌, not, ℕ, zero, suc, Bool, true, false, List, [], ◌∷◌, length, get_or, set, length-set, refl, sym, ap, ◌∙◌, subst, arith}
use Rattle.std.proofs.lemmas.Bool.{and_left, and_right, cases_Bool, cases_eq, eq-eqb, false_from_ne_true, lt-ltb, ne_eqb, true≢false}
use Rattle.std.proofs.lemmas.List.{set-get_or}
use Rattle.std.proofs.lemmas.List.Elements.{All-head, All-tail}
use Rattle.std.specs.Prelude.{All}
use Rattle.heap_model.specs.Blocks.{Span, blocks_with, blocks_without, bytes_in, has_bounds, is_block}
use Rattle.heap_core.specs.Consistent.{AreLate, either_mark, heap_state}
use Rattle.heap_model.specs.Quarantine.{freed_of}
use Rattle.heap_core.specs.Table.{IsBlockAt, IsTable, blocks_of, is_marked, is_unmarked}
use Rattle.heap_model.specs.declared.block.Freed.TheVariants.{AlreadyHeld, Held, NotBlock}
use Rattle.heap_core.proofs.BlockLaws.{All-blocks_of, blocks_of-set}
use Rattle.heap_core.proofs.KeptLaws.{any-block, any-no_block}
use Rattle.heap_core.proofs.LateLaws.{get_or-either, length-either}
use Rattle.heap_core.proofs.SumLaws.{bytes_in-blocks_with, bytes_of_both}
use Rattle.heap_core.proofs.SoundLaws.{IsTable-marks}

-- ---- which block has these bounds

has_bounds_same : (start bytes base top : ℕ) → start ≡ base → start + bytes ≡ top → has_bounds base top (start, bytes) ≡ true
has_bounds_same start bytes base top first last = rw (eq-eqb start base first, eq-eqb (start + bytes) top last) refl

has_bounds_other : (start bytes base top : ℕ) → (start ≡ base → start + bytes ≡ top → ⊥) → has_bounds base top (start, bytes) ≡ false
has_bounds_other start bytes base top other =
    elim (cases_eq start base) [
      | inl same ↦ and_right (start == base) (start + bytes == top) (ne_eqb (start + bytes) top (λ end. other same end))
      | inr apart ↦ and_left (start == base) (start + bytes == top) (ne_eqb start base apart)
    ]

-- The block at granule k is one of those whose marks pass, where its mark does.
pub is_block_at : (keeps : Bool → Bool) {base : ℕ} {lengths : List ℕ} (marks : List Bool) {start top k : ℕ} → length marks ≡ length lengths
    → IsBlockAt base lengths start top k → keeps (get_or marks k false) ≡ true → is_block (blocks_of keeps base 0 lengths marks) start top ≡ true
is_block_at keeps {base} {lengths} marks {start} {top} {k} same at kept =
    any-block (has_bounds start top) keeps base 0 lengths marks false k same (omega (arith, at.start_is)) at.within at.some kept
    (has_bounds_same start (16 * get_or lengths k 0) start top refl (sym at.top_is))

-- And otherwise it isn't.
is_other_block : (keeps : Bool → Bool) {base : ℕ} {lengths : List ℕ} (marks : List Bool) {start top k : ℕ}
    → IsBlockAt base lengths start top k → keeps (get_or marks k false) ≡ false → is_block (blocks_of keeps base 0 lengths marks) start top ≡ false
is_other_block keeps {base} {lengths} marks {start} {top} {k} at other =
    any-no_block (has_bounds start top) keeps base lengths marks false
    (λ j s s_is lt some kept. has_bounds_other s (16 * get_or lengths j 0) start top
    (λ first last.
    let same : j ≡ k = omega (arith, at.start_is) in
    absurd (true≢false (sym kept ∙ subst (λ (i : ℕ). keeps (get_or marks i false) ≡ false) (sym same) other))))

-- Where no block has these bounds, none in a list has.
is_no_block : (keeps : Bool → Bool) {base : ℕ} {lengths : List ℕ} (marks : List Bool) {start top : ℕ}
    → ((k : ℕ) → IsBlockAt base lengths start top k → ⊥) → is_block (blocks_of keeps base 0 lengths marks) start top ≡ false
is_no_block keeps {base} {lengths} marks {start} {top} none =
    any-no_block (has_bounds start top) keeps base lengths marks false
    (λ j s s_is lt some kept. has_bounds_other s (16 * get_or lengths j 0) start top
    (λ first last. none j (record { within = lt; some = some; start_is = omega arith; top_is = omega arith })))

-- ---- what is answered

pub freed_of-none : {base : ℕ} {lengths : List ℕ} (marks lates : List Bool) (is_open : Bool) {start top : ℕ} → ((k : ℕ) → IsBlockAt base lengths start top k → ⊥)
    → freed_of (heap_state base lengths marks lates is_open) start top ≡ NotBlock
freed_of-none marks lates true none =
    rw (is_no_block is_unmarked (either_mark marks lates) none, is_no_block is_marked lates none, is_no_block is_marked marks none) refl
freed_of-none marks lates false none = rw (is_no_block is_unmarked (either_mark marks lates) none, is_no_block is_marked marks none) refl

-- A block that is due.
pub freed_of-due : {base : ℕ} {lengths : List ℕ} {marks lates : List Bool} {is_open : Bool} {start top k : ℕ} → length marks ≡ length lengths → AreLate lengths marks lates is_open
    → IsBlockAt base lengths start top k → get_or marks k false ≡ true → freed_of (heap_state base lengths marks lates is_open) start top ≡ AlreadyHeld
freed_of-due {marks} {lates} {is_open = true} {k} same are at held =
    let either : get_or (either_mark marks lates) k false ≡ true = get_or-either marks lates k (are.same ∙ sym same) ∙ ap (λ b. b || get_or lates k false) held in
    let other : get_or lates k false ≡ false = false_from_ne_true (get_or lates k false) (λ late. true≢false (sym held ∙ are.apart k late)) in
    rw (is_other_block is_unmarked (either_mark marks lates) at (ap not either), is_other_block is_marked lates at other, is_block_at is_marked marks same at held) refl
freed_of-due {marks} {lates} {is_open = false} {k} same are at held =
    let either : get_or (either_mark marks lates) k false ≡ true = get_or-either marks lates k (are.same ∙ sym same) ∙ ap (λ b. b || get_or lates k false) held in
    rw (is_other_block is_unmarked (either_mark marks lates) at (ap not either), is_block_at is_marked marks same at held) refl

-- A late block.
pub freed_of-late : {base : ℕ} {lengths : List ℕ} {marks lates : List Bool} {is_open : Bool} {start top k : ℕ} → length marks ≡ length lengths → AreLate lengths marks lates is_open
    → IsBlockAt base lengths start top k → get_or lates k false ≡ true → freed_of (heap_state base lengths marks lates is_open) start top ≡ AlreadyHeld
freed_of-late {marks} {lates} {is_open = true} {k} same are at late =
    let either : get_or (either_mark marks lates) k false ≡ true = get_or-either marks lates k (are.same ∙ sym same) ∙ (λ i. are.apart k late i || late i) in
    rw (is_other_block is_unmarked (either_mark marks lates) at (ap not either), is_block_at is_marked lates are.same at late) refl
freed_of-late {is_open = false} {k} same are at late = absurd (true≢false (sym late ∙ are.closed refl k))

-- The mark of a live block.
pub live_mark : {lengths : List ℕ} {marks lates : List Bool} {is_open : Bool} (k : ℕ) → length marks ≡ length lengths → AreLate lengths marks lates is_open
    → get_or marks k false ≡ false → get_or lates k false ≡ false → get_or (either_mark marks lates) k false ≡ false
live_mark {marks} {lates} k same are not_due not_late = get_or-either marks lates k (are.same ∙ sym same) ∙ (λ i. not_due i || not_late i)

pub freed_of-live : {base : ℕ} {lengths : List ℕ} {marks lates : List Bool} {is_open : Bool} {start top k : ℕ} → length marks ≡ length lengths → AreLate lengths marks lates is_open
    → IsBlockAt base lengths start top k → get_or (either_mark marks lates) k false ≡ false → freed_of (heap_state base lengths marks lates is_open) start top ≡ Held
freed_of-live {marks} {lates} same are at live = rw (is_block_at is_unmarked (either_mark marks lates) (length-either marks lates ∙ same) at (ap not live)) refl

-- ---- the table once the block is held

-- Where no block has the bounds, all stay.
blocks_without-none : (start top : ℕ) (blocks : List Span) → All (λ block. has_bounds start top block ≡ false) blocks → blocks_without start top blocks ≡ blocks
blocks_without-none start top [] none = refl
blocks_without-none start top (b ∷ blocks) none =
    let here = All-head (λ block. has_bounds start top block ≡ false) b blocks none in
    rw (here, blocks_without-none start top blocks (All-tail (λ block. has_bounds start top block ≡ false) b blocks none)) refl

-- The live blocks are all but that one.
pub live_blocks-held : (base i : ℕ) (lengths : List ℕ) (marks : List Bool) (start top k : ℕ) → length marks ≡ length lengths → k < length lengths
    → start ≡ base + 16 * (i + k) → top ≡ start + 16 * get_or lengths k 0 → 0 < get_or lengths k 0
    → blocks_of is_unmarked base i lengths (set marks k true) ≡ blocks_without start top (blocks_of is_unmarked base i lengths marks)
live_blocks-held base i [] marks start top k same lt at end some = absurd (omega arith)
live_blocks-held base i (n ∷ lengths) [] start top k same lt at end some = absurd (omega arith)
live_blocks-held base i (n ∷ lengths) (mark ∷ marks) start top zero same lt at end some =
    let here : has_bounds start top (base + 16 * i, 16 * n) ≡ true = has_bounds_same (base + 16 * i) (16 * n) start top (omega arith) (omega arith) in
    let later : blocks_without start top (blocks_of is_unmarked base (i + 1) lengths marks) ≡ blocks_of is_unmarked base (i + 1) lengths marks =
    blocks_without-none start top (blocks_of is_unmarked base (i + 1) lengths marks)
    (All-blocks_of (λ block. has_bounds start top block ≡ false) is_unmarked base (i + 1) lengths marks false
    (λ j s s_is j_lt j_some kept. has_bounds_other s (16 * get_or lengths j 0) start top (λ first last. absurd (omega arith)))) in
    elim (cases_Bool mark) [
      | inl is ↦ rw (is, lt-ltb 0 n some) (sym later)
      | inr is ↦ rw (is, lt-ltb 0 n some, here) (sym later)
    ]
live_blocks-held base i (n ∷ lengths) (mark ∷ marks) start top (suc k) same lt at end some =
    let rest = live_blocks-held base (i + 1) lengths marks start top k (omega arith) (omega arith) (omega arith) end some in
    let here : has_bounds start top (base + 16 * i, 16 * n) ≡ false = has_bounds_other (base + 16 * i) (16 * n) start top (λ first last. absurd (omega arith)) in
    elim (cases_Bool (nat_lt 0 n && not mark)) [
      | inl is ↦ rw (is, here, rest) refl
      | inr is ↦ rw (is, rest) refl
    ]

-- And it is one more of the held ones.
pub held_blocks-held : {base : ℕ} {lengths : List ℕ} (marks : List Bool) {start top k : ℕ} → length marks ≡ length lengths
    → IsBlockAt base lengths start top k → get_or marks k false ≡ false
    → blocks_of is_marked base 0 lengths (set marks k true) ≡ blocks_with (start, top - start) (blocks_of is_marked base 0 lengths marks)
held_blocks-held {base} {lengths} marks {start} {top} {k} same at live =
    let n = get_or lengths k 0 in
    let bytes : 16 * get_or lengths k 0 ≡ top - start = omega (arith, at.top_is) in
    let more = blocks_of-set is_marked base 0 lengths marks false k n at.within same (and_right (nat_lt 0 n) (get_or marks k false) live) at.some refl (omega (arith, at.start_is)) in
    subst (λ (xs : List ℕ). blocks_of is_marked base 0 xs (set marks k true) ≡ blocks_with (start, top - start) (blocks_of is_marked base 0 lengths marks))
    (set-get_or lengths k 0) (more ∙ ap (λ (x : ℕ). blocks_with (start, x) (blocks_of is_marked base 0 lengths marks)) bytes)

pub IsTable-held : {base : ℕ} {lengths : List ℕ} {marks : List Bool} (k : ℕ) → IsTable base lengths marks → IsTable base lengths (set marks k true)
IsTable-held {marks} k table = IsTable-marks (length-set marks k true ∙ table.same) table

-- The bytes of the block go from the live to the held ones.
pub record HasMoved (base : ℕ) (lengths : List ℕ) (marks : List Bool) (k : ℕ) : Type 0 where
  pub live : bytes_in (blocks_of is_unmarked base 0 lengths (set marks k true)) + 16 * get_or lengths k 0 ≡ bytes_in (blocks_of is_unmarked base 0 lengths marks)
  pub held : bytes_in (blocks_of is_marked base 0 lengths (set marks k true)) ≡ bytes_in (blocks_of is_marked base 0 lengths marks) + 16 * get_or lengths k 0

pub HasMoved-held : {base : ℕ} {lengths : List ℕ} {marks : List Bool} {start top k : ℕ} → length marks ≡ length lengths
    → IsBlockAt base lengths start top k → get_or marks k false ≡ false → HasMoved base lengths marks k
HasMoved-held {base} {lengths} {marks} {start} {top} {k} same at live =
    let before = bytes_of_both base 0 lengths marks same in
    let after = bytes_of_both base 0 lengths (set marks k true) (length-set marks k true ∙ same) in
    let more = ap bytes_in (held_blocks-held marks same at live)
    ∙ bytes_in-blocks_with (start, top - start) (blocks_of is_marked base 0 lengths marks) in
    record { live = omega (arith, at.top_is); held = omega (arith, at.top_is) }
