-- A heap is made from a text, granule by granule.
use Rattle.std.proofs.Common.{◌≡◌, ◌∙◌, ◌<◌, ◌≤◌, ◌+◌, ◌-◌, ◌*◌, ℕ, Bool, true, false, List, [], drop, length, take, refl, sym, ap, subst, arith}
use Rattle.std.proofs.lemmas.List.{length-drop, take_all}
use Rattle.byteorder.specs.Endian.{little_number}
use Rattle.heap_model.specs.Blocks.{blocks_with}
use Rattle.heap_model.specs.Found.{blocks_in}
use Rattle.heap_model.specs.Heap.{HeapState}
use Rattle.heap_model.specs.Claim.{IsClaimable}
use Rattle.heap_model.specs.declared.block.Kind.{Kind}
use Rattle.heap_model.specs.declared.block.Kind.TheVariants.{Live, Waiting}
use Rattle.heap_model.specs.Place.{with_block}
use Rattle.heap_machine.specs.Storage.{MachineState}
use Rattle.state_bytes.specs.Replay.{heap_below, blocks_below}
use Rattle.state_bytes.specs.State.{IsState}
use Rattle.state_bytes.specs.Text.{kind_number, length_told, starts_in}
use Rattle.state_bytes.proofs.UptoLaws.{live_replay_step, replay_step, upto_end, upto_init}
use Rattle.state_bytes.proofs.StartReplay.{live_replay, painted_replay, waiting_replay}

-- What is read from a place on, of a slice.
pub from_place : (n at k : ℕ) (bytes : List ℕ) (result : ℕ) → result ≡ little_number n (take (length bytes - at) (drop at bytes)) → at ≡ k → result ≡ little_number n (drop k bytes)
from_place n at k bytes result is same =
    is ∙ (ap (little_number n) (take_all (length bytes - at) (drop at bytes) (omega (arith, length-drop at bytes))) ∙ ap (λ (x : ℕ). little_number n (drop x bytes)) same)

-- A granule of the heap is one of the memory.
pub inside_granules : (m : MachineState) (size granules i : ℕ) → IsState m → size ≡ m.state.heap.size → 16 * granules ≡ size → i < granules → i < length m.state.granules
inside_granules m size granules i state same whole lt = omega (arith, lt, same, whole, state.invariant.sound.granules)

-- A row of a block that is to be painted.
pub painted_row : (m : MachineState) (s now new : HeapState) (i n : ℕ) (result : Bool) → IsState m
    → s ≡ record m.state.heap { live = []; waiting = []; painted = []; is_open = false } → n ≡ starts_in m.state.heap.painted (m.state.heap.base + 16 * i)
    → now ≡ record s { waiting = blocks_below (s.base + 16 * i) m.state.heap.painted }
    → (n ≡ 0 → (result ≡ true) × (new ≡ now))
    → (0 < n → IsClaimable now (now.base + 16 * i) (now.base + 16 * i + n)
    → (result ≡ true) × (new ≡ record now { waiting = blocks_with (now.base + 16 * i, n) now.waiting }))
    → (result ≡ true) × (new ≡ record s { waiting = blocks_below (s.base + 16 * (i + 1)) m.state.heap.painted })
painted_row m s now new i n result e is n_is =
    let there : n ≡ starts_in m.state.heap.painted (s.base + 16 * i) = n_is ∙ ap (λ (h : HeapState). starts_in m.state.heap.painted (h.base + 16 * i)) (sym is) in
    replay_step m.state.heap s now new m.state.heap.painted i n result (painted_replay m s e is) there

-- Before the first of these rows, and behind the last.
pub painted_first : (m : MachineState) (s : HeapState) → IsState m → s ≡ record m.state.heap { live = []; waiting = []; painted = []; is_open = false }
    → s ≡ record s { waiting = blocks_below (s.base + 16 * 0) m.state.heap.painted }
painted_first m s e is =
    let heap = m.state.heap in
    let none = sym (upto_init m.state.heap heap.painted e.invariant.sound.safe.heap.painted_inside) in
    subst (λ (h : HeapState). h ≡ record h { waiting = blocks_below (h.base + 16 * 0) m.state.heap.painted }) (sym is)
    (λ j. record heap { live = []; waiting = none j; painted = []; is_open = false })

pub painted_last : (m : MachineState) (s now : HeapState) (i : ℕ) → IsState m → s ≡ record m.state.heap { live = []; waiting = []; painted = []; is_open = false }
    → now ≡ record s { waiting = blocks_below (s.base + 16 * i) m.state.heap.painted } → s.size ≤ 16 * i → now ≡ record s { waiting = m.state.heap.painted }
painted_last m s now i e is now_is all =
    let base : s.base ≡ m.state.heap.base = ap (λ (h : HeapState). h.base) is in
    let size : s.size ≡ m.state.heap.size = ap (λ (h : HeapState). h.size) is in
    let end = ap (λ (b : ℕ). blocks_below (b + 16 * i) m.state.heap.painted) base ∙ upto_end m.state.heap m.state.heap.painted i e.invariant.sound.safe.heap.painted_inside (omega (arith, size, all)) in
    now_is ∙ (λ j. record s { waiting = end j })

-- The heap once the block of row i waits, if it is one that does, and before it is live, if it is a live one.
abbrev pub between : HeapState → ℕ → HeapState
between heap i = record heap { live = blocks_below (heap.base + 16 * i) heap.live; waiting = blocks_below (heap.base + 16 * (i + 1)) heap.waiting }

-- A row of a block that waits.
pub waiting_row : (m : MachineState) (now new : HeapState) (i n : ℕ) (result : Bool) → IsState m → now ≡ heap_below m.state.heap i
    → n ≡ starts_in m.state.heap.waiting (m.state.heap.base + 16 * i)
    → (n ≡ 0 → (result ≡ true) × (new ≡ now))
    → (0 < n → IsClaimable now (now.base + 16 * i) (now.base + 16 * i + n)
    → (result ≡ true) × (new ≡ record now { waiting = blocks_with (now.base + 16 * i, n) now.waiting }))
    → (result ≡ true) × (new ≡ between m.state.heap i)
unfolding heap_below
waiting_row m now new i n result e now_is n_is =
    let heap = m.state.heap in
    replay_step m.state.heap (record heap { live = blocks_below (heap.base + 16 * i) heap.live; waiting = [] }) now new m.state.heap.waiting i n result (waiting_replay m (heap.base + 16 * i) e) n_is now_is

-- A row of a live block.
pub live_row : (m : MachineState) (now new : HeapState) (i n : ℕ) (result : Bool) → IsState m → now ≡ between m.state.heap i
    → n ≡ starts_in m.state.heap.live (m.state.heap.base + 16 * i)
    → (n ≡ 0 → (result ≡ true) × (new ≡ now))
    → (0 < n → IsClaimable now (now.base + 16 * i) (now.base + 16 * i + n)
    → (result ≡ true) × (new ≡ with_block now (now.base + 16 * i) n))
    → (result ≡ true) × (new ≡ heap_below m.state.heap (i + 1))
unfolding heap_below
live_row m now new i n result e now_is n_is =
    let heap = m.state.heap in
    live_replay_step m.state.heap (record heap { live = []; waiting = blocks_below (heap.base + 16 * (i + 1)) heap.waiting }) now new m.state.heap.live i n result (live_replay m (heap.base + 16 * (i + 1)) e) n_is now_is

-- A row whose number is 0 tells of no block.
pub other_row : (m : MachineState) (now : HeapState) (i number : ℕ) → IsState m → now ≡ heap_below m.state.heap i
    → ((kind : Kind) → length_told (kind_number kind) number ≡ starts_in (blocks_in m.state.heap kind) (m.state.heap.base + 16 * i))
    → number ≡ 0 → now ≡ heap_below m.state.heap (i + 1)
other_row m now i number e now_is told none =
    let waits = waiting_row m now now i 0 true e now_is (ap (length_told 2) (sym none) ∙ told Waiting) (λ _. (refl, refl)) (λ some. absurd (omega (arith, some))) in
    (live_row m now now i 0 true e waits.1 (ap (length_told 1) (sym none) ∙ told Live) (λ _. (refl, refl)) (λ some. absurd (omega (arith, some)))).1

-- Before the first row, and behind the last.
pub reached_first : (m : MachineState) (s : HeapState) → IsState m → s ≡ record m.state.heap { live = []; waiting = [] } → s ≡ heap_below m.state.heap 0
unfolding heap_below
reached_first m s e is =
    let heap = m.state.heap in
    let sound = e.invariant.sound.safe.heap in
    let live = sym (upto_init m.state.heap heap.live sound.live_inside) in
    let waiting = sym (upto_init m.state.heap heap.waiting sound.waiting_inside) in
    is ∙ (λ j. record heap { live = live j; waiting = waiting j })

pub reached_last : (m : MachineState) (s : HeapState) (i : ℕ) → IsState m → s ≡ heap_below m.state.heap i → m.state.heap.size ≤ 16 * i → s ≡ m.state.heap
unfolding heap_below
reached_last m s i e is all =
    let heap = m.state.heap in
    let sound = e.invariant.sound.safe.heap in
    let live = upto_end m.state.heap heap.live i sound.live_inside all in
    let waiting = upto_end m.state.heap heap.waiting i sound.waiting_inside all in
    is ∙ (λ j. record heap { live = live j; waiting = waiting j })

reached_size : (m : MachineState) (s : HeapState) (i : ℕ) → s ≡ heap_below m.state.heap i → s.size ≡ m.state.heap.size
unfolding heap_below
reached_size m s i is = ap (λ (h : HeapState). h.size) is

-- The memory has a granule for each row.
pub row_inside : (m : MachineState) (s : HeapState) (i : ℕ) → IsState m → s ≡ heap_below m.state.heap i → 16 * i < s.size → i < length m.state.granules
row_inside m s i e is lt = omega (arith, lt, reached_size m s i is, e.invariant.sound.granules)
