-- The state after a sweep: each tagged word whose base lies in a held block has lost its tag.
use Rattle.std.proofs.Common.{◌≡◌, ◌∙◌, ◌+◌, ◌&&◌, ℕ, suc, Bool, true, false, cond, not, inl, inr, All, List, [], ◌∷◌, get_or, drop, refl, sym, ap, subst, arith}
use Rattle.std.proofs.Math.Bool.{and-false, and-true}
use Rattle.std.specs.Prelude.{count_by}
use Rattle.std.specs.List.{Contains}
use Rattle.std.proofs.lemmas.Bool.{and_parts, not-true, true≢false}
use Rattle.std.proofs.lemmas.List.{drop-map}
use Rattle.std.proofs.lemmas.List.Elements.{All-head, All-map, All-weaker}
use Rattle.std.proofs.lemmas.List.Folds.{list_any-from_Any}
use Rattle.std.proofs.lemmas.List.Sums.{sum_by-cons}
use Rattle.cap_codec.specs.declared.word.Word.{Word}
use Rattle.heap_model.specs.Blocks.{Span, bytes_in, has_address, length_of}
use Rattle.heap_model.specs.Laws.{has_address-within}
use Rattle.heap_model.specs.Heap.{HeapState, IsInside, IsSound as IsSoundHeap, held_bytes}
use Rattle.heap_model.specs.Quarantine.{with_epoch, without_epoch, without_waiting}
use Rattle.heap_model.specs.Sweep.{is_revoked, swept_cell, swept_cells, swept_granule, swept_granules, tags_taken, takes_tag}
use Rattle.tag_memory.specs.Cells.{Cell, Granule, cell_of}
use Rattle.machine_steps.specs.Safety.{HoldsGuarded, IsGuarded, IsLiveOrHeld, IsSafe, LieIn}
use Rattle.machine_steps.specs.State.{State, tags_of}
use Rattle.cap_codec.specs.Words.{base_of, bounds_in}
use Rattle.machine_steps.specs.Step.{after_begin, after_end, after_sweep, begin_takes}
use Rattle.machine_steps.specs.GuardLaws.{IsGuarded-in}

-- ---- tags

kept_or_taken : (t r : Bool) → cond (t && not r) 1 0 + cond (t && r) 1 0 ≡ cond t 1 0
kept_or_taken true true = refl
kept_or_taken true false = refl
kept_or_taken false r = refl

-- The tags that a sweep leaves and those that it takes are the tags before.
count-swept_granules : (held : List Span) (granules : List Granule)
    → count_by (λ (g : Granule). g.1) (swept_granules held granules) + count_by (λ (g : Granule). g.1 && is_revoked held (cell_of g).0) granules
    ≡ count_by (λ (g : Granule). g.1) granules
count-swept_granules held [] = refl
count-swept_granules held (g ∷ granules) =
    let taken : Granule → Bool = λ x. x.1 && is_revoked held (cell_of x).0 in
    let rest = count-swept_granules held granules in
    let here = kept_or_taken g.1 (is_revoked held (cell_of g).0) in
    omega (
      arith,
      sum_by-cons (λ (x : Granule). cond x.1 1 0) (swept_granule held g) (swept_granules held granules),
      sum_by-cons (λ (x : Granule). cond (taken x) 1 0) g granules,
      sum_by-cons (λ (x : Granule). cond x.1 1 0) g granules,
      rest,
      here,
    )

count-swept_cells : (held : List Span) (registers : List Cell)
    → count_by (λ (c : Cell). c.1) (swept_cells held registers) + count_by (λ (c : Cell). c.1 && is_revoked held c.0) registers
    ≡ count_by (λ (c : Cell). c.1) registers
count-swept_cells held [] = refl
count-swept_cells held (c ∷ registers) =
    let taken : Cell → Bool = λ x. x.1 && is_revoked held x.0 in
    let rest = count-swept_cells held registers in
    let here = kept_or_taken c.1 (is_revoked held c.0) in
    omega (
      arith,
      sum_by-cons (λ (x : Cell). cond x.1 1 0) (swept_cell held c) (swept_cells held registers),
      sum_by-cons (λ (x : Cell). cond (taken x) 1 0) c registers,
      sum_by-cons (λ (x : Cell). cond x.1 1 0) c registers,
      rest,
      here,
    )

pub tags_of-swept : (s : State) → tags_of (after_sweep s) + tags_taken s.heap.waiting s.granules s.registers ≡ tags_of s
tags_of-swept s =
    let held = s.heap.waiting in
    let taken = count_by (λ (c : Cell). c.1 && is_revoked s.heap.waiting c.0) (drop 1 s.registers) in
    let registers = subst (λ (xs : List Cell). count_by (λ (c : Cell). c.1) xs + taken ≡ count_by (λ (c : Cell). c.1) (drop 1 s.registers))
    (sym (drop-map (swept_cell held) 1 s.registers)) (count-swept_cells held (drop 1 s.registers)) in
    omega (arith, count-swept_granules held s.granules, registers)

-- ---- what stays guarded

-- A word whose bounds lie in a held block is revoked.
revoked_in : (held : List Span) (w : Word) (block : Span) → Contains held block → LieIn (bounds_in w) block → is_revoked held w ≡ true
revoked_in held w block there lie =
    let here = has_address-within (base_of w) block (omega (arith, lie.start)) (omega (arith, lie.some, lie.end)) in
    list_any-from_Any (has_address (base_of w)) held (there.0, block, there.1, there.2, here)

-- What keeps its tag lies in a live or a painted block.
pub IsGuarded-swept : (heap : HeapState) (c : Cell) → IsGuarded heap c → IsGuarded (without_waiting heap) (swept_cell heap.waiting c)
IsGuarded-swept heap c guarded = record {
  within = λ e.
      let both = and_parts c.1 (not (is_revoked heap.waiting c.0)) e in
      let x = guarded.within both.0 in
      elim x.1 [
        | inl live ↦ (x.0, inl live, x.2)
        | inr held ↦ elim held [
          | inl waits ↦ absurd (true≢false (sym (revoked_in heap.waiting c.0 x.0 waits x.2) ∙ not-true (is_revoked heap.waiting c.0) both.1))
          | inr painted ↦ (x.0, inr (inr painted), x.2)
        ]
      ];
}

pub IsSafe-swept : (s : State) → IsSafe s → IsSoundHeap (without_waiting s.heap) → IsSafe (after_sweep s)
IsSafe-swept s safe sound =
    let heap = without_waiting s.heap in
    let held = s.heap.waiting in
    record {
      heap = sound;
      registers = All-map (IsGuarded heap) (swept_cell held) s.registers (All-weaker (IsGuarded s.heap) (λ c. IsGuarded heap (swept_cell held c)) (IsGuarded-swept s.heap) s.registers safe.registers);
      granules = All-map (HoldsGuarded heap) (swept_granule held) s.granules (All-weaker (HoldsGuarded s.heap) (λ granule. HoldsGuarded heap (swept_granule held granule)) (λ granule. IsGuarded-swept s.heap (cell_of granule)) s.granules safe.granules);
    }

-- ---- epochs

-- Once an epoch has begun each block is one still, ..
begun_still : (heap : HeapState) → heap.painted ≡ [] → (block : Span) → IsLiveOrHeld heap block → IsLiveOrHeld (with_epoch heap) block
begun_still heap none block (inl live) = inl live
begun_still heap none block (inr (inl waits)) = inr (inr waits)
begun_still heap none block (inr (inr painted)) = (let nowhere : Contains [] block = subst (λ (blocks : List Span). Contains blocks block) none painted in absurd (omega (arith, nowhere.1)))

-- .. and a cell without its tag is guarded as before.
IsGuarded-fewer : (heap : HeapState) (held : List Span) (c : Cell) → IsGuarded heap c → IsGuarded heap (swept_cell held c)
IsGuarded-fewer heap held c guarded = record { within = λ e. guarded.within (and_parts c.1 (not (is_revoked held c.0)) e).0 }

pub IsSafe-begun : (s : State) → IsSafe s → IsSoundHeap (with_epoch s.heap) → s.heap.painted ≡ [] → IsSafe (after_begin s)
IsSafe-begun s safe sound none =
    let heap = with_epoch s.heap in
    let held = s.heap.waiting in
    let still = begun_still s.heap none in
    record {
      heap = sound;
      registers = All-weaker (IsGuarded s.heap) (IsGuarded heap) (λ c. IsGuarded-in s.heap heap c still) s.registers safe.registers;
      granules = All-map (HoldsGuarded heap) (swept_granule held) s.granules
          (All-weaker (HoldsGuarded s.heap) (λ granule. HoldsGuarded heap (swept_granule held granule))
          (λ granule guarded. IsGuarded-fewer heap held (cell_of granule) (IsGuarded-in s.heap heap (cell_of granule) still guarded)) s.granules safe.granules);
    }

-- At its end what keeps its tag lies in a live block, or in one that waits.
IsGuarded-ended : (heap : HeapState) (c : Cell) → IsGuarded heap c → IsGuarded (without_epoch heap) (swept_cell heap.painted c)
IsGuarded-ended heap c guarded = record {
  within = λ e.
      let both = and_parts c.1 (not (is_revoked heap.painted c.0)) e in
      let x = guarded.within both.0 in
      elim x.1 [
        | inl live ↦ (x.0, inl live, x.2)
        | inr held ↦ elim held [
          | inl waits ↦ (x.0, inr (inl waits), x.2)
          | inr painted ↦ absurd (true≢false (sym (revoked_in heap.painted c.0 x.0 painted x.2) ∙ not-true (is_revoked heap.painted c.0) both.1))
        ]
      ];
}

pub IsSafe-ended : (s : State) → IsSafe s → IsSoundHeap (without_epoch s.heap) → IsSafe (after_end s)
IsSafe-ended s safe sound =
    let heap = without_epoch s.heap in
    let held = s.heap.painted in
    record {
      heap = sound;
      registers = All-map (IsGuarded heap) (swept_cell held) s.registers (All-weaker (IsGuarded s.heap) (λ c. IsGuarded heap (swept_cell held c)) (IsGuarded-ended s.heap) s.registers safe.registers);
      granules = All-map (HoldsGuarded heap) (swept_granule held) s.granules (All-weaker (HoldsGuarded s.heap) (λ granule. HoldsGuarded heap (swept_granule held granule)) (λ granule. IsGuarded-ended s.heap (cell_of granule)) s.granules safe.granules);
    }

-- ---- where no block waits, and where no word is taken

no_spans : (heap : HeapState) (blocks : List Span) → All (IsInside heap) blocks → bytes_in blocks ≡ 0 → blocks ≡ []
no_spans heap [] inside none = refl
no_spans heap (b ∷ blocks) inside none =
    let some = (All-head (IsInside heap) b blocks inside).some in
    absurd (omega (arith, some, none, sum_by-cons length_of b blocks))

-- Every block has a byte at least, so where held blocks have none there is none.
pub no_blocks : (heap : HeapState) → IsSoundHeap heap → held_bytes heap ≡ 0 → heap.waiting ≡ []
no_blocks heap sound none = no_spans heap heap.waiting sound.waiting_inside (omega (arith, none))

-- Where none of its words loses its tag, memory stays as it is.
pub swept_granules-untouched : (held : List Span) (granules : List Granule) → ((i : ℕ) → takes_tag held (cell_of (get_or granules i (0, false))) ≡ false)
    → swept_granules held granules ≡ granules
swept_granules-untouched held [] untouched = refl
swept_granules-untouched held (g ∷ granules) untouched =
    λ i. (g.0, kept g.1 (is_revoked held (cell_of g).0) (untouched 0) i) ∷ swept_granules-untouched held granules (λ k. untouched (suc k)) i where
      kept : (t r : Bool) → (t && r) ≡ false → (t && not r) ≡ t
      kept true true none = absurd (true≢false none)
      kept true false none = refl
      kept false r none = refl

-- And no tag of it is counted.
pub granules_taken-untouched : (held : List Span) (granules : List Granule) → ((i : ℕ) → takes_tag held (cell_of (get_or granules i (0, false))) ≡ false)
    → count_by (λ (g : Granule). takes_tag held (cell_of g)) granules ≡ 0
granules_taken-untouched held granules untouched =
    omega (arith, count-swept_granules held granules, ap (count_by (λ (g : Granule). g.1)) (swept_granules-untouched held granules untouched))

swept_granules-none : (granules : List Granule) → swept_granules [] granules ≡ granules
swept_granules-none granules = swept_granules-untouched [] granules (λ i. and-false (get_or granules i (0, false)).1)

swept_cells-none : (registers : List Cell) → swept_cells [] registers ≡ registers
swept_cells-none [] = refl
swept_cells-none (c ∷ registers) = λ i. (c.0, and-true c.1 i) ∷ swept_cells-none registers i

-- A sweep then leaves the state as it is, and takes no tag.
pub swept-none : (s : State) → s.heap.waiting ≡ [] → after_sweep s ≡ s
swept-none s none =
    subst (λ (held : List Span). record s { heap = record s.heap { waiting = [] }; granules = swept_granules held s.granules; registers = swept_cells held s.registers } ≡ s) (sym none)
    (λ i. record s { heap = record s.heap { waiting = sym none i }; granules = swept_granules-none s.granules i; registers = swept_cells-none s.registers i })

pub tags_taken-none : (s : State) → s.heap.waiting ≡ [] → tags_taken s.heap.waiting s.granules s.registers ≡ 0
tags_taken-none s none = omega (arith, tags_of-swept s, ap tags_of (swept-none s none))

-- And what begins an epoch takes none of memory.
pub begun-none : (s : State) → s.heap.waiting ≡ [] → after_begin s ≡ record s { heap = with_epoch s.heap }
begun-none s none =
    ap (λ (held : List Span). record s { heap = with_epoch s.heap; granules = swept_granules held s.granules }) none
    ∙ (λ i. record s { heap = with_epoch s.heap; granules = swept_granules-none s.granules i })

pub taken_at_begin-none : (s : State) → s.heap.waiting ≡ [] → begin_takes s ≡ 0
taken_at_begin-none s none =
    omega (
      arith,
      count-swept_granules s.heap.waiting s.granules,
      ap (λ (held : List Span). count_by (λ (g : Granule). g.1) (swept_granules held s.granules)) none ∙ ap (count_by (λ (g : Granule). g.1)) (swept_granules-none s.granules),
    )
