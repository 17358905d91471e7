-- What holds of a sound state, and the first one.
use Rattle.std.proofs.Common.{◌≡◌, ◌∙◌, ℕ, ◌≤◌, ◌+◌, ◌*◌, ◌%◌, ◌^◌, Bool, true, false, cond, eqb, inl, inr, List, [], length, get_or, set, refl, sym, ap, subst, arith}
use Rattle.std.specs.Prelude.{◌==◌, All, nat_le, replicate}
use Rattle.std.proofs.lemmas.Bool.Decides.{nat_tests}
use Rattle.std.proofs.lemmas.Bool.{and_parts, cases_lt}
use Rattle.std.proofs.lemmas.List.{get_or_past, length-replicate}
use Rattle.std.proofs.lemmas.List.Elements.{All-get_or, All-nil, All-replicate, All-set, All-weaker}
use Rattle.heap_model.specs.Heap.{HeapState, IsInside, IsSound as IsSoundHeap, empty_heap}
use Rattle.cap_codec.specs.declared.word.Word.{Word}
use Rattle.heap_model.specs.Blocks.{IsApart, Span}
use Rattle.tag_memory.specs.Extent.{is_base, is_size}
use Rattle.tag_memory.specs.Cells.{Cell, Granule, cell_of, new_registers, null_cell}
use Rattle.machine_steps.specs.Safety.{HoldsGuarded, IsGuarded, IsLiveOrHeld, IsSafe}
use Rattle.machine_steps.specs.Sound.{IsMachine}
use Rattle.machine_steps.specs.State.{State, first_state, register, with_register}
use Rattle.machine_steps.specs.Step.{granule_at, index_in, with_granule}
use Rattle.machine_steps.specs.GuardLaws.{IsGuarded-in, IsGuarded-untagged, LiesInside, LiesInside-guarded}

either : {A : Type 0} (P : A → Type 0) (b : Bool) (x y : A) → P x → P y → P (cond b x y)
either P true x y p q = p
either P false x y p q = q

-- ---- where the heap lies

-- The heap begins at a granule and ends within 64-bit addresses.
pub record FitsAddresses (heap : HeapState) : Type 0 where
  pub aligned : heap.base % 16 ≡ 0
  pub end : heap.base + heap.size ≤ 2 ^ 64

pub FitsAddresses-heap : (heap : HeapState) → IsSoundHeap heap → FitsAddresses heap
FitsAddresses-heap heap sound =
    let both = and_parts (heap.base % 4096 == 0) (nat_le (heap.base + 4096 * sound.pages) (2 ^ 64)) sound.place in
    let whole : heap.base % 4096 ≡ 0 = grind (arith, nat_tests, both.0) in
    let end : heap.base + 4096 * sound.pages ≤ 2 ^ 64 = grind (arith, nat_tests, both.1) in
    record { aligned = omega (arith, whole); end = omega (arith, end, sound.bytes) }

pub FitsAddresses-state : (s : State) → IsSafe s → FitsAddresses s.heap
FitsAddresses-state s safe = FitsAddresses-heap s.heap safe.heap

-- ---- granules

pub IsGuarded-register : (s : State) (r : ℕ) → IsSafe s → IsGuarded s.heap (register s r)
IsGuarded-register s r safe =
    either (IsGuarded s.heap) (eqb r 0) null_cell (get_or s.registers r null_cell) (IsGuarded-untagged s.heap _)
    (elim (cases_lt r (length s.registers)) [
      | inl lt ↦ All-get_or (IsGuarded s.heap) s.registers r null_cell lt safe.registers
      | inr out ↦ subst (IsGuarded s.heap) (sym (get_or_past s.registers r null_cell out)) (IsGuarded-untagged s.heap _)
    ])

pub HoldsGuarded-at : (s : State) (w : Word) → IsSafe s → HoldsGuarded s.heap (granule_at s w)
HoldsGuarded-at s w safe =
    elim (cases_lt (index_in s w) (length s.granules)) [
      | inl lt ↦ All-get_or (HoldsGuarded s.heap) s.granules (index_in s w) (0, false) lt safe.granules
      | inr out ↦ subst (HoldsGuarded s.heap) (sym (get_or_past s.granules (index_in s w) (0, false) out)) (IsGuarded-untagged s.heap _)
    ]

pub LiesInside-register : (s : State) (r : ℕ) → IsSafe s → LiesInside s.heap.base s.heap.size (register s r)
LiesInside-register s r safe = LiesInside-guarded s.heap (register s r) safe.heap (IsGuarded-register s r safe)

-- ---- states

-- A register may be written with a guarded word.
pub IsSafe-with : (s : State) (r : ℕ) (c : Cell) → IsSafe s → IsGuarded s.heap c → IsSafe (with_register s r c)
IsSafe-with s r c safe guarded = record {
  heap = safe.heap;
  registers = either (All (IsGuarded s.heap)) (eqb r 0) s.registers (set s.registers r c) safe.registers (All-set (IsGuarded s.heap) s.registers r c guarded safe.registers);
  granules = safe.granules;
}

-- So may a granule.
pub IsSafe-put : (s : State) (w : Word) (granule : Granule) → IsSafe s → HoldsGuarded s.heap granule → IsSafe (with_granule s w granule)
IsSafe-put s w granule safe guarded = record {
  heap = safe.heap;
  registers = safe.registers;
  granules = All-set (HoldsGuarded s.heap) s.granules (index_in s w) granule guarded safe.granules;
}

-- Another heap has the same granules guarded where each of its blocks is one still.
pub IsSafe-in : (s : State) (heap : HeapState) → IsSoundHeap heap → ((block : Span) → IsLiveOrHeld s.heap block → IsLiveOrHeld heap block)
    → IsSafe s → IsSafe (record s { heap = heap })
IsSafe-in s heap sound still safe = record {
  heap = sound;
  registers = All-weaker (IsGuarded s.heap) (IsGuarded heap) (λ c. IsGuarded-in s.heap heap c still) s.registers safe.registers;
  granules = All-weaker (HoldsGuarded s.heap) (HoldsGuarded heap) (λ granule. IsGuarded-in s.heap heap (cell_of granule) still) s.granules safe.granules;
}

-- The first state of a machine has no tagged word.
pub IsMachine-first : (s : State) (base pages : ℕ) → IsSoundHeap s.heap → s.heap ≡ empty_heap base pages → s.granules ≡ replicate (256 * pages) (0, false) → s.registers ≡ new_registers → IsMachine s
IsMachine-first s base pages sound heap granules registers =
    let size_is : s.heap.size ≡ 4096 * pages = ap (λ (h : HeapState). h.size) heap in
    let count : length s.granules ≡ 256 * pages = ap length granules ∙ length-replicate (256 * pages) (0, false) in
    record {
      granules = omega (arith, count, size_is);
      count = ap length registers ∙ length-replicate 32 null_cell;
      zero = ap (λ (xs : List Cell). get_or xs 0 null_cell) registers;
      safe = record {
        heap = sound;
        registers = subst (All (IsGuarded s.heap)) (sym registers) (All-replicate (IsGuarded s.heap) 32 null_cell (IsGuarded-untagged s.heap _));
        granules = subst (All (HoldsGuarded s.heap)) (sym granules) (All-replicate (HoldsGuarded s.heap) (256 * pages) (0, false) (IsGuarded-untagged s.heap _));
      };
    }

-- A heap without blocks is sound.
IsMachine-empty : (base pages : ℕ) → is_size pages ≡ true → is_base base pages ≡ true → IsSoundHeap (empty_heap base pages)
IsMachine-empty base pages size place = record {
  pages = pages;
  bytes = refl;
  size = size;
  place = place;
  live_inside = All-nil (IsInside (empty_heap base pages));
  waiting_inside = All-nil (IsInside (empty_heap base pages));
  painted_inside = All-nil (IsInside (empty_heap base pages));
  live_order = λ j k d less within. absurd (omega arith);
  waiting_order = λ j k d less within. absurd (omega arith);
  painted_order = λ j k d less within. absurd (omega arith);
  apart_waiting = All-nil (λ block. All (IsApart block) []);
  apart_painted = All-nil (λ block. All (IsApart block) []);
  apart_held = All-nil (λ block. All (IsApart block) []);
  closed = λ _. refl;
}

pub IsSafe-first : (base pages : ℕ) → is_size pages ≡ true → is_base base pages ≡ true → IsSafe (first_state base pages)
IsSafe-first base pages size place = (IsMachine-first (first_state base pages) base pages (IsMachine-empty base pages size place) refl refl refl).safe
