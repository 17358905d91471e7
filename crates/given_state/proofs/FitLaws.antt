-- Memory and registers that fit a heap: new ones do, and so they do with one more word that is guarded.
use Rattle.std.proofs.Common.{◌≡◌, ◌∙◌, ◌<◌, ◌-◌, ◌*◌, ◌/◌, ◌==◌, ℕ, Bool, true, false, List, inl, inr, get_or, if◌then◌else◌, length, refl, replicate, set, sym, ap, subst, arith}
use Rattle.std.specs.Prelude.{All, IfErr, IsOk, Result, Ok, Err}
use Rattle.std.proofs.lemmas.Bool.{and_parts, cases_eq, cases_lt, true≢false}
use Rattle.std.proofs.lemmas.List.{get_or-replicate, get_or-set_other, get_or-set_same, get_or_past, length-replicate, length-set}
use Rattle.std.proofs.lemmas.List.Elements.{All-replicate, All-set}
use Rattle.cap_codec.specs.Bytes.{bits_of_bytes}
use Rattle.tag_memory.specs.Cells.{Cell, MemoryState, cell_of, is_dirty_at, marks_after, new_memory, new_registers, null_cell, register_at, register_count, registers_with}
use Rattle.heap_model.specs.Heap.{HeapState}
use Rattle.heap_model.specs.Blocks.{Span}
use Rattle.heap_model.specs.Sweep.{is_revoked, takes_tag}
use Rattle.log_text.specs.declared.log.Given.{Given}
use Rattle.log_text.specs.declared.log.Given.TheVariants.{Epoch, Granule, Live, Painted, Register, Waiting}
use Rattle.heap_machine.specs.Making.{IsFlaw}
use Rattle.machine_steps.specs.Safety.{HoldsGuarded, IsGuarded}
use Rattle.heap_machine.specs.declared.machine.making.Flaw.{Flaw}
use Rattle.heap_machine.specs.declared.machine.making.Flaw.TheVariants as flaw
use Rattle.given_state.specs.Given.{HasGranule, MayHold, cell_with, given_heap, with_given_granule, with_given_register}
use Rattle.given_state.specs.Giving.{AreTagsDirty, FitHeap, memory_with, with_given_memory}
use Rattle.given_state.proofs.GuardLaws.{IsGuarded-untagged}
use Rattle.given_state.proofs.PlaceLaws.{LieAtOne-given}

-- ---- new ones

no_tag : (n i : ℕ) → (get_or {A = ℕ × Bool} (replicate n (0, false)) i (0, false)).1 ≡ false
no_tag n i =
    let zero : ℕ × Bool = (0, false) in
    let none : get_or (replicate n zero) i zero ≡ zero = elim (cases_lt i n) [
      | inl lt ↦ get_or-replicate {A = ℕ × Bool} n i zero zero lt
      | inr past ↦ get_or_past (replicate n zero) i zero (let l : length (replicate n zero) ≡ n = length-replicate n zero in omega (arith, past, l))
    ] in
    ap (λ (g : ℕ × Bool). g.1) none

new_length : (pages : ℕ) → length (new_memory 0 pages).granules ≡ 256 * pages
new_length pages = length-replicate (256 * pages) (0, false)

pub FitHeap-new : (s : HeapState) (base pages : ℕ) → s.base ≡ base → s.size ≡ 4096 * pages → FitHeap s (new_memory base pages) new_registers
FitHeap-new s base pages lies long = record {
  together = record { base = sym lies; granules = omega (arith, new_length pages, long) };
  pages = let d : length (replicate pages false) ≡ pages = length-replicate pages false in omega (arith, new_length pages, d);
  words = All-replicate (IsGuarded s) register_count null_cell (IsGuarded-untagged s null_cell refl);
  granules = All-replicate (HoldsGuarded s) (256 * pages) (0, false) (IsGuarded-untagged s (cell_of (0, false)) refl);
  dirty = λ i tagged. absurd (true≢false (sym tagged ∙ no_tag (256 * pages) i));
}

-- So do new ones fit the given heap.
pub FitHeap-first : (base pages : ℕ) (lines : List (ℕ × Given)) (s : HeapState) (m : MemoryState) (registers : List Cell) → s ≡ given_heap base pages lines
    → m ≡ new_memory base pages → registers ≡ new_registers → FitHeap s m registers
FitHeap-first base pages lines s m registers heap memory zeros =
    let at = LieAtOne-given base pages lines in
    subst (λ (x : MemoryState). FitHeap s x registers) (sym memory) (
    subst (λ (x : List Cell). FitHeap s (new_memory base pages) x) (sym zeros) (
    FitHeap-new s base pages (ap (λ (h : HeapState). h.base) heap ∙ at.base) (ap (λ (h : HeapState). h.size) heap ∙ at.size)))

-- ---- one more word

register_kept : (s : HeapState) (registers : List Cell) (r : ℕ) (c : Cell) (zero : Bool) → All (IsGuarded s) registers → IsGuarded s c
    → All (IsGuarded s) (if zero then registers else set registers r c)
register_kept s registers r c true all guarded = all
register_kept s registers r c false all guarded = All-set (IsGuarded s) registers r c guarded all

-- A page that is dirty stays so once another is.
still_dirty : (dirty : List Bool) (page j : ℕ) → is_dirty_at dirty page ≡ true → is_dirty_at (set dirty j true) page ≡ true
still_dirty dirty page j is =
    elim (cases_eq page j) [
      | inl same ↦
          let inside : page < length dirty = elim (cases_lt page (length dirty)) [
            | inl lt ↦ lt
            | inr past ↦ absurd (true≢false (sym is ∙ get_or_past dirty page false past))
          ] in
          subst (λ (k : ℕ). get_or (set dirty k true) page false ≡ true) same (get_or-set_same dirty page true false inside)
      | inr other ↦ get_or-set_other dirty j page true false other ∙ is
    ]

mark_kept : (dirty : List Bool) (i page : ℕ) (tag : Bool) → is_dirty_at dirty page ≡ true → is_dirty_at (marks_after dirty i tag) page ≡ true
mark_kept dirty i page false was = was
mark_kept dirty i page true was = still_dirty dirty page (i / 256) was

-- The page of a granule that is written is marked where it is tagged.
mark_set : (dirty : List Bool) (i : ℕ) (tag : Bool) → i / 256 < length dirty → tag ≡ true → is_dirty_at (marks_after dirty i tag) (i / 256) ≡ true
mark_set dirty i false within is = absurd (true≢false (sym is))
mark_set dirty i true within is = get_or-set_same dirty (i / 256) true false within

marks_length : (dirty : List Bool) (i : ℕ) (tag : Bool) → length (marks_after dirty i tag) ≡ length dirty
marks_length dirty i false = refl
marks_length dirty i true = length-set dirty (i / 256) true

AreTagsDirty-put : (m : MemoryState) (i bits : ℕ) (tag : Bool) → length m.granules ≡ 256 * length m.dirty → i < length m.granules → AreTagsDirty m
    → (k : ℕ) → (get_or (set m.granules i (bits, tag)) k (0, false)).1 ≡ true → is_dirty_at (marks_after m.dirty i tag) (k / 256) ≡ true
AreTagsDirty-put m i bits tag pages within all k tagged =
    elim (cases_eq k i) [
      | inl same ↦
          let here : get_or (set m.granules i (bits, tag)) k (0, false) ≡ (bits, tag) =
          subst (λ (j : ℕ). get_or (set m.granules i (bits, tag)) j (0, false) ≡ (bits, tag)) (sym same) (get_or-set_same m.granules i (bits, tag) (0, false) within) in
          let is : tag ≡ true = ap (λ (g : ℕ × Bool). g.1) (sym here) ∙ tagged in
          subst (λ (j : ℕ). is_dirty_at (marks_after m.dirty i tag) (j / 256) ≡ true) (sym same) (mark_set m.dirty i tag (omega (arith, within, pages)) is)
      | inr other ↦
          mark_kept m.dirty i (k / 256) tag
          (all k (ap (λ (g : ℕ × Bool). g.1) (sym (get_or-set_other m.granules i k (bits, tag) (0, false) other)) ∙ tagged))
    ]

-- A granule more.
FitHeap-put : (s : HeapState) (m : MemoryState) (registers : List Cell) (address : ℕ) (tag : Bool) (bytes : List ℕ) → FitHeap s m registers → HasGranule s address
    → IsGuarded s (cell_with tag bytes) → FitHeap s (memory_with m address tag bytes) registers
FitHeap-put s m registers address tag bytes fit there guarded =
    let i = (address - m.base) / 16 in
    let within : (address - m.base) / 16 < length m.granules = omega (arith, there.1.at, there.1.before_end, fit.together.base, fit.together.granules) in
    let granules : length (set m.granules i (bits_of_bytes bytes, tag)) ≡ length m.granules = length-set m.granules i (bits_of_bytes bytes, tag) in
    let dirty : length (marks_after m.dirty i tag) ≡ length m.dirty = marks_length m.dirty i tag in
    record {
      together = record { base = fit.together.base; granules = omega (arith, fit.together.granules, granules) };
      pages = omega (arith, fit.pages, granules, dirty);
      words = fit.words;
      granules = All-set (HoldsGuarded s) m.granules i (bits_of_bytes bytes, tag) guarded fit.granules;
      dirty = AreTagsDirty-put m i (bits_of_bytes bytes) tag fit.pages within fit.dirty;
    }

with_words : (s : HeapState) (m : MemoryState) (registers new : List Cell) → FitHeap s m registers → All (IsGuarded s) new → FitHeap s m new
with_words s m registers new fit all =
    record { together = fit.together; pages = fit.pages; words = all; granules = fit.granules; dirty = fit.dirty }

-- What a line leaves that may be held.
FitHeap-given : (s : HeapState) (m : MemoryState) (registers : List Cell) (given : Given) → FitHeap s m registers → MayHold s given
    → FitHeap s (with_given_memory m given) (with_given_register registers given)
FitHeap-given s m registers (Register r tag bytes) fit may =
    with_words s m registers (registers_with registers r (cell_with tag bytes)) fit (register_kept s registers r (cell_with tag bytes) (r == 0) fit.words may.1)
FitHeap-given s m registers (Granule address tag bytes) fit may = FitHeap-put s m registers address tag bytes fit may.0 may.1
FitHeap-given s m registers (Live base top) fit may = fit
FitHeap-given s m registers (Waiting base top) fit may = fit
FitHeap-given s m registers (Painted base top) fit may = fit
FitHeap-given s m registers Epoch fit may = fit

-- The granules of the memory, as the meaning of the lines has them.
granules_given : (m : MemoryState) (base : ℕ) (given : Given) → m.base ≡ base → (with_given_memory m given).granules ≡ with_given_granule base m.granules given
granules_given m base (Granule address tag bytes) at = ap (λ (b : ℕ). set m.granules ((address - b) / 16) (bits_of_bytes bytes, tag)) at
granules_given m base (Register r tag bytes) at = refl
granules_given m base (Live start top) at = refl
granules_given m base (Waiting start top) at = refl
granules_given m base (Painted start top) at = refl
granules_given m base Epoch at = refl

base_given : (m : MemoryState) (given : Given) → (with_given_memory m given).base ≡ m.base
base_given m (Granule address tag bytes) = refl
base_given m (Register r tag bytes) = refl
base_given m (Live start top) = refl
base_given m (Waiting start top) = refl
base_given m (Painted start top) = refl
base_given m Epoch = refl

-- A line more, whose word may be held.
pub FitHeap-more : (s : HeapState) (m new : MemoryState) (registers written : List Cell) (given : Given) → FitHeap s m registers → MayHold s given
    → new ≡ with_given_memory m given → written ≡ with_given_register registers given → FitHeap s new written
FitHeap-more s m new registers written given fit may puts sets =
    subst (λ (x : MemoryState). FitHeap s x written) (sym puts) (
    subst (λ (x : List Cell). FitHeap s (with_given_memory m given) x) (sym sets) (FitHeap-given s m registers given fit may))

pub granules_more : (m new : MemoryState) (base : ℕ) (given : Given) → m.base ≡ base → new ≡ with_given_memory m given → new.granules ≡ with_given_granule base m.granules given
granules_more m new base given at puts = ap (λ (x : MemoryState). x.granules) puts ∙ granules_given m base given at

pub base_more : (m new : MemoryState) (base : ℕ) (given : Given) → m.base ≡ base → new ≡ with_given_memory m given → new.base ≡ base
base_more m new base given at puts = ap (λ (x : MemoryState). x.base) puts ∙ (base_given m given ∙ at)

-- ---- no flaw

-- Parts that fit have none.
register_kept_at : (s : HeapState) (registers : List Cell) (r : ℕ) (zero : Bool) → All (IsGuarded s) registers → IsGuarded s (if zero then null_cell else get_or registers r null_cell)
register_kept_at s registers r true all = IsGuarded-untagged s null_cell refl
register_kept_at s registers r false all = elim (cases_lt r (length registers)) [
  | inl lt ↦ all r null_cell lt
  | inr past ↦ subst (IsGuarded s) (sym (get_or_past registers r null_cell past)) (IsGuarded-untagged s null_cell refl)
]

register_at_all : (s : HeapState) (registers : List Cell) (r : ℕ) → All (IsGuarded s) registers → IsGuarded s (register_at registers r)
register_at_all s registers r all = register_kept_at s registers r (r == 0) all

taken_tag : (held : List Span) (g : ℕ × Bool) → takes_tag held (cell_of g) ≡ true → g.1 ≡ true
taken_tag held g taken = (and_parts g.1 (is_revoked held (cell_of g).0) taken).0

no_flaw : (s : HeapState) (m : MemoryState) (registers : List Cell) (why : Flaw) → FitHeap s m registers → IsFlaw s m registers why → ⊥
no_flaw s m registers flaw.Elsewhere fit is = is fit.together
no_flaw s m registers (flaw.Register r) fit is = is.2.lacks (register_at_all s registers r fit.words)
no_flaw s m registers (flaw.Granule i) fit is = is.3.lacks (fit.granules i (0, false) is.2)
no_flaw s m registers (flaw.Clean i) fit is = is.4.lacks (λ taken. fit.dirty i (taken_tag s.painted (get_or m.granules i (0, false)) taken))

pub IsOk-made : {X : Type 0} (s : HeapState) (m : MemoryState) (registers : List Cell) (answer : Result X Flaw) → FitHeap s m registers → IfErr answer (IsFlaw s m registers) → IsOk answer
IsOk-made s m registers (Ok made) fit flawed = refl
IsOk-made s m registers (Err why) fit flawed = absurd (no_flaw s m registers why fit flawed)
