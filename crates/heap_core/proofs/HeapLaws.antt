-- What a caller sees of a heap once its table or its late blocks have changed.
use Rattle.std.proofs.Common.{◌≡◌, ◌≤◌, ◌+◌, ◌*◌, ℕ, Bool, true, false, List, length, get_or, set, length-set, replicate, refl, sym, ap, ◌∙◌, arith}
use Rattle.std.proofs.lemmas.Bool.{true≢false}
use Rattle.std.proofs.lemmas.List.{set-get_or}
use Rattle.heap_model.specs.Blocks.{blocks_with, bytes_in}
use Rattle.heap_core.specs.Consistent.{AreLate, IsConsistent, either_mark, heap_state}
use Rattle.heap_model.specs.Heap.{held_bytes}
use Rattle.heap_model.specs.Shadow.{bits_of}
use Rattle.heap_model.specs.Quarantine.{with_epoch, with_waiting, without_due, without_epoch}
use Rattle.heap_core.specs.declared.heap.Heap.TheInside.{Inside}
use Rattle.heap_core.specs.Table.{IsBlockAt, IsGap, blocks_of, is_marked, is_unmarked, kept_lengths}
use Rattle.heap_core.proofs.KeptLaws.{held_blocks-kept, length-kept_lengths}
use Rattle.heap_core.proofs.LateLaws.{bytes_in-either, either-none_left, either-none_right, either-set_left, either-set_none, either-set_right, late_blocks-dropped, length-either, live_blocks-dropped, no_due, none_in_gap}
use Rattle.heap_core.proofs.QuarantineLaws.{HasMoved-held, held_blocks-held, live_blocks-held}
use Rattle.heap_core.proofs.RunLaws.{held_blocks-set, live_blocks-set}
use Rattle.heap_core.proofs.SoundLaws.{IsTable-marks}
use Rattle.heap_core.proofs.SumLaws.{granules_fit}

-- ---- a block more

-- The late blocks stay.
pub late_blocks-set : (base : ℕ) {lengths : List ℕ} {marks lates : List Bool} {is_open : Bool} {p n : ℕ} → AreLate lengths marks lates is_open → IsGap lengths p n
    → blocks_of is_marked base 0 (set lengths p n) lates ≡ blocks_of is_marked base 0 lengths lates
late_blocks-set base {lengths} {lates} {p} {n} are run =
    let same : set lates p false ≡ lates = ap (λ b. set lates p b) (sym (none_in_gap are run)) ∙ set-get_or lates p false in
    ap (λ (xs : List Bool). blocks_of is_marked base 0 (set lengths p n) xs) (sym same) ∙ held_blocks-set base lates run

pub live_blocks-put : (base : ℕ) {lengths : List ℕ} {marks lates : List Bool} {is_open : Bool} {p n : ℕ} → length marks ≡ length lengths → AreLate lengths marks lates is_open → IsGap lengths p n
    → blocks_of is_unmarked base 0 (set lengths p n) (either_mark (set marks p false) lates)
    ≡ blocks_with (base + 16 * p, 16 * n) (blocks_of is_unmarked base 0 lengths (either_mark marks lates))
live_blocks-put base {lengths} {marks} {lates} {p} {n} same are run =
    let none = none_in_gap are run in
    ap (λ (xs : List Bool). blocks_of is_unmarked base 0 (set lengths p n) xs) (either-set_none marks lates p (are.same ∙ sym same) none)
    ∙ live_blocks-set base (either_mark marks lates) (length-either marks lates ∙ same) run

pub heap_state-set : {base : ℕ} {lengths : List ℕ} {marks lates : List Bool} {is_open : Bool} {p n : ℕ} → length marks ≡ length lengths → AreLate lengths marks lates is_open → IsGap lengths p n
    → heap_state base (set lengths p n) (set marks p false) lates is_open
    ≡ record (heap_state base lengths marks lates is_open) { live = blocks_with (base + 16 * p, 16 * n) (blocks_of is_unmarked base 0 lengths (either_mark marks lates)) }
heap_state-set {base} {lengths} {marks} {p} {n} same are run =
    rw (length-set lengths p n, live_blocks-put base same are run, late_blocks-set base are run, held_blocks-set base marks run) refl

-- ---- a block given up

-- Without an epoch it is due.
pub heap_state-held : {base : ℕ} {lengths : List ℕ} (marks lates : List Bool) {is_open : Bool} {start top k : ℕ} → is_open ≡ false → length marks ≡ length lengths
    → IsBlockAt base lengths start top k → get_or marks k false ≡ false
    → heap_state base lengths (set marks k true) lates is_open ≡ with_waiting (heap_state base lengths marks lates is_open) start top
heap_state-held marks lates {is_open = true} closed same at live = absurd (true≢false closed)
heap_state-held {base} {lengths} marks lates {is_open = false} {start} {top} {k} closed same at live =
    rw (
      either-set_left marks lates k,
      live_blocks-held base 0 lengths (either_mark marks lates) start top k (length-either marks lates ∙ same) at.within (omega (arith, at.start_is)) at.top_is at.some,
      held_blocks-held marks same at live,
    ) refl

-- In an open epoch it is late.
pub heap_state-late : {base : ℕ} {lengths : List ℕ} {marks lates : List Bool} {is_open : Bool} {start top k : ℕ} → is_open ≡ true → length marks ≡ length lengths → AreLate lengths marks lates is_open
    → IsBlockAt base lengths start top k → get_or lates k false ≡ false
    → heap_state base lengths marks (set lates k true) is_open ≡ with_waiting (heap_state base lengths marks lates is_open) start top
heap_state-late {is_open = false} open_now same are at live = absurd (true≢false (sym open_now))
heap_state-late {base} {lengths} {marks} {lates} {is_open = true} {start} {top} {k} open_now same are at live =
    rw (
      either-set_right marks lates k (are.same ∙ sym same),
      live_blocks-held base 0 lengths (either_mark marks lates) start top k (length-either marks lates ∙ same) at.within (omega (arith, at.start_is)) at.top_is at.some,
      held_blocks-held lates are.same at live,
    ) refl

-- The bytes of the live blocks then.
pub live_bytes-due : {base : ℕ} {lengths : List ℕ} (marks lates : List Bool) {start top k : ℕ} → length marks ≡ length lengths → length lates ≡ length lengths
    → IsBlockAt base lengths start top k → get_or (either_mark marks lates) k false ≡ false
    → bytes_in (blocks_of is_unmarked base 0 lengths (either_mark (set marks k true) lates)) + 16 * get_or lengths k 0 ≡ bytes_in (blocks_of is_unmarked base 0 lengths (either_mark marks lates))
live_bytes-due {base} {lengths} marks lates {k} same also at live =
    ap (λ (xs : List Bool). bytes_in (blocks_of is_unmarked base 0 lengths xs) + 16 * get_or lengths k 0) (either-set_left marks lates k)
    ∙ (HasMoved-held (length-either marks lates ∙ same) at live).live

pub live_bytes-late : {base : ℕ} {lengths : List ℕ} (marks lates : List Bool) {start top k : ℕ} → length marks ≡ length lengths → length lates ≡ length lengths
    → IsBlockAt base lengths start top k → get_or (either_mark marks lates) k false ≡ false
    → bytes_in (blocks_of is_unmarked base 0 lengths (either_mark marks (set lates k true))) + 16 * get_or lengths k 0 ≡ bytes_in (blocks_of is_unmarked base 0 lengths (either_mark marks lates))
live_bytes-late {base} {lengths} marks lates {k} same also at live =
    ap (λ (xs : List Bool). bytes_in (blocks_of is_unmarked base 0 lengths xs) + 16 * get_or lengths k 0) (either-set_right marks lates k (also ∙ sym same))
    ∙ (HasMoved-held (length-either marks lates ∙ same) at live).live

-- ---- epochs, and blocks given back

-- What begins an epoch moves no block of the table.
pub heap_state-begun : {base : ℕ} {lengths : List ℕ} {marks lates : List Bool} {is_open : Bool} → is_open ≡ false → AreLate lengths marks lates is_open
    → heap_state base lengths marks lates true ≡ with_epoch (heap_state base lengths marks lates is_open)
heap_state-begun {is_open = true} closed are = absurd (true≢false closed)
heap_state-begun {base} {lengths} {lates} {is_open = false} closed are = rw (no_due base 0 lengths lates (are.closed refl)) refl

-- Where no block is late, those that are due are dropped, and no epoch is open then.
pub heap_state-dropped : (base : ℕ) (lengths : List ℕ) (marks lates : List Bool) (is_open : Bool) → length marks ≡ length lengths → length lates ≡ length lengths
    → ((k : ℕ) → get_or lates k false ≡ false)
    → heap_state base (kept_lengths is_unmarked lengths marks) (replicate (length lengths) false) lates false ≡ without_due (heap_state base lengths marks lates is_open)
unfolding without_due
heap_state-dropped base lengths marks lates true same also none =
    rw (
      length-kept_lengths is_unmarked lengths marks same,
      either-none_left (length lengths) lates also,
      live_blocks-dropped base 0 lengths marks lates same also,
      held_blocks-kept base 0 lengths marks same,
      no_due base 0 lengths lates none,
    ) refl
heap_state-dropped base lengths marks lates false same also none =
    rw (
      length-kept_lengths is_unmarked lengths marks same,
      either-none_left (length lengths) lates also,
      live_blocks-dropped base 0 lengths marks lates same also,
      held_blocks-kept base 0 lengths marks same,
    ) refl

-- At the end of an epoch the late blocks are due.
pub heap_state-ended : {base : ℕ} {lengths : List ℕ} {marks lates : List Bool} (nones : List Bool) {is_open : Bool} → is_open ≡ true → length marks ≡ length lengths → AreLate lengths marks lates is_open
    → ((k : ℕ) → get_or nones k false ≡ false)
    → heap_state base (kept_lengths is_unmarked lengths marks) lates nones false ≡ without_epoch (heap_state base lengths marks lates is_open)
heap_state-ended nones {is_open = false} open_now same are none = absurd (true≢false (sym open_now))
heap_state-ended {base} {lengths} {marks} {lates} nones {is_open = true} open_now same are none =
    rw (
      length-kept_lengths is_unmarked lengths marks same,
      either-none_right lates nones none,
      live_blocks-dropped base 0 lengths marks lates same are.same,
      late_blocks-dropped base 0 lengths marks lates same are.same are.apart,
    ) refl

-- ---- the granules of blocks of all kinds

-- The held blocks are those that are due and the late ones.
pub held_bytes-state : (base : ℕ) {lengths : List ℕ} {marks lates : List Bool} {is_open : Bool} → AreLate lengths marks lates is_open
    → held_bytes (heap_state base lengths marks lates is_open) ≡ bytes_in (blocks_of is_marked base 0 lengths marks) + bytes_in (blocks_of is_marked base 0 lengths lates)
held_bytes-state base {is_open = true} are = omega arith
held_bytes-state base {lengths} {lates} {is_open = false} are = rw (no_due base 0 lengths lates (are.closed refl)) refl

pub granules_of_all : {h : Inside} → IsConsistent h → h.live_granules + h.due_granules + h.late_granules ≤ length h.table.lengths
granules_of_all {h} are =
    let marks = h.table.marks in
    let lates = bits_of h.late.items in
    let both = bytes_in-either h.base 0 h.table.lengths marks lates are.table.same are.lates.same are.lates.apart in
    let fits = granules_fit h.live_granules (h.due_granules + h.late_granules) (IsTable-marks (length-either marks lates ∙ are.table.same) are.table) are.live (omega (arith, both, are.due, are.late)) in
    omega (arith, fits)
