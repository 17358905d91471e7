-- Dirty pages, visited one after the other.
use Rattle.std.proofs.Common.{◌≡◌, ◌∙◌, ◌+◌, ◌*◌, ◌^◌, ◌<◌, ◌≤◌, ◌/◌, ℕ, Bool, true, false, inl, inr, List, length, get_or, set, refl, sym, ap, subst, arith}
use Rattle.std.specs.Prelude.{All}
use Rattle.std.proofs.lemmas.Bool.{cases_eq, false_from_ne_true, true≢false}
use Rattle.std.proofs.lemmas.List.{get_or-set_other, get_or-set_same, get_or_past, length-set}
use Rattle.std.proofs.lemmas.List.Elements.{All-from_get_or, All-get_or}
use Rattle.sweep_masks.specs.Tasks.{Cut}
use Rattle.tag_memory.specs.Cells.{is_dirty_at}
use Rattle.heap_machine.specs.Storage.{MachineState}
use Rattle.machine_steps.specs.Dirty.{HasPages, IsDirtied}
use Rattle.machine_steps.specs.State.{State}
use Rattle.revoker_steps.specs.Tracked.{AreClean, IsDueAt}
use Rattle.revokers.specs.declared.acts.Act.{Act}
use Rattle.revokers.specs.Ending.{Visits}
use Rattle.revokers.specs.Looks.{IsVisited, Looks}
use Rattle.revokers.proofs.EndingLaws.{VisitsBelow, VisitsBelow-next, VisitsBelow-none, VisitsBelow-passed, VisitsBelow-visits}

-- The dirty pages below n were visited, and are clean; the others are as they were.
pub record CleanBelow (old : MachineState) (before : List Act) (n cleared : ℕ) (now : MachineState) (after : List Act) : Type 0 where
  pub below : VisitsBelow (is_dirty_at old.dirty) old.state before n cleared now.state after
  pub clean : (page : ℕ) → page < n → is_dirty_at now.dirty page ≡ false
  pub rest : (page : ℕ) → n ≤ page → is_dirty_at now.dirty page ≡ is_dirty_at old.dirty page
  pub marks : length now.dirty ≡ length old.dirty
  pub cutting : now.cutting ≡ old.cutting

pub CleanBelow-none : (old : MachineState) (before : List Act) → old.state.heap.is_open ≡ true → CleanBelow old before 0 0 old before
CleanBelow-none old before opened = record {
  below = VisitsBelow-none (is_dirty_at old.dirty) old.state before opened;
  clean = λ page lt. absurd (omega (arith, lt));
  rest = λ page le. refl;
  marks = refl;
  cutting = refl;
}

pub CleanBelow-next : (old : MachineState) (before : List Act) (n cleared more : ℕ) (now : MachineState) (told : List Act) (new : MachineState) (after : List Act) → HasPages old.state old.dirty → n < length old.dirty
    → CleanBelow old before n cleared now told → Looks (is_dirty_at now.dirty n) n now told more new after → new.cutting ≡ now.cutting → more < 2 ^ 32 → CleanBelow old before (n + 1) (cleared + more) new after
CleanBelow-next old before n cleared more now told new after pages lt so looks cutting few = go (is_dirty_at now.dirty n) refl looks where
  go : (b : Bool) → is_dirty_at now.dirty n ≡ b → Looks b n now told more new after → CleanBelow old before (n + 1) (cleared + more) new after
  go true e looks =
      let inside : 256 * n < length old.state.granules = omega (arith, lt, pages) in
      record {
        below = VisitsBelow-next (is_dirty_at old.dirty) old.state before n cleared more now.state told looks.reply new.state after so.below (sym (so.rest n (omega arith)) ∙ e) inside looks.step looks.count few looks.told;
        clean = λ page below. ap (λ (marks : List Bool). get_or marks page false) looks.dirty ∙ (elim (cases_eq page n) [
          | inl same ↦ ap (λ k. get_or (set now.dirty n false) k false) same ∙ get_or-set_same now.dirty n false false (omega (arith, lt, so.marks))
          | inr other ↦ get_or-set_other now.dirty n page false false other ∙ so.clean page (omega (arith, below, other))
        ]);
        rest = λ page above. ap (λ (marks : List Bool). get_or marks page false) looks.dirty ∙ get_or-set_other now.dirty n page false false (λ same. absurd (omega (arith, above, same))) ∙ so.rest page (omega (arith, above));
        marks = ap (λ (marks : List Bool). length marks) looks.dirty ∙ length-set now.dirty n false ∙ so.marks;
        cutting = cutting ∙ so.cutting;
      }
  go false e looks =
      let same : new ≡ now = looks.1 in
      let sums : cleared ≡ cleared + more = omega (arith, looks.0) in
      subst (λ (acts : List Act). CleanBelow old before (n + 1) (cleared + more) new acts) (sym looks.2)
      (subst (λ (m : MachineState). CleanBelow old before (n + 1) (cleared + more) m told) (sym same) (subst (λ (k : ℕ). CleanBelow old before (n + 1) k now told) sums (record {
        below = VisitsBelow-passed (is_dirty_at old.dirty) old.state before n cleared now.state told so.below (sym (so.rest n (omega arith)) ∙ e);
        clean = λ page below. elim (cases_eq page n) [
          | inl same ↦ ap (λ k. get_or now.dirty k false) same ∙ e
          | inr other ↦ so.clean page (omega (arith, below, other))
        ];
        rest = λ page above. so.rest page (omega (arith, above));
        marks = so.marks;
        cutting = so.cutting;
      })))

pub CleanBelow-visits : (old : MachineState) (before : List Act) (n cleared : ℕ) (now : MachineState) (after : List Act) → n ≡ length old.dirty → CleanBelow old before n cleared now after
    → Visits (is_dirty_at old.dirty) old.state before cleared now.state after
CleanBelow-visits old before n cleared now after count so =
    VisitsBelow-visits (is_dirty_at old.dirty) old.state before n cleared now.state after so.below (λ page le. get_or_past old.dirty page false (omega (arith, le, count)))

pub CleanBelow-clean : (old : MachineState) (before : List Act) (n cleared : ℕ) (now : MachineState) (after : List Act) → n ≡ length old.dirty → CleanBelow old before n cleared now after → AreClean now.dirty
CleanBelow-clean old before n cleared now after count so = All-from_get_or (λ b. b ≡ false) now.dirty false (λ page lt. so.clean page (omega (arith, lt, so.marks, count)))

-- ---- what is due

-- The granule is on a dirty page.
abbrev pub on_dirty : List Bool → ℕ → Bool
on_dirty dirty i = is_dirty_at dirty (i / 256)

pub IsDueAt-dirty : (s : State) (dirty : List Bool) → IsDirtied s dirty → IsDueAt s (on_dirty dirty)
IsDueAt-dirty s dirty stand i taken = stand i taken

pub clean-none_due : (s : State) (dirty : List Bool) → HasPages s dirty → AreClean dirty → (i : ℕ) → i < length s.granules → on_dirty dirty i ≡ false
clean-none_due s dirty pages clean i lt = All-get_or (λ b. b ≡ false) dirty (i / 256) false (omega (arith, lt, pages)) clean
