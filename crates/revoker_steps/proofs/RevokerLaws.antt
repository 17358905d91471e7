-- What a revoker's step leaves where no check fails, and that this is safe.
use Rattle.std.proofs.Common.{◌≡◌, ◌∙◌, ◌*◌, ◌&&◌, ℕ, Bool, cond, not, inl, inr, List, [], refl, sym, ap, subst, arith}
use Rattle.std.specs.Prelude.{slice_index_or, false, true}
use Rattle.std.specs.List.{Contains}
use Rattle.std.proofs.lemmas.Bool.{and_parts, true≢false}
use Rattle.std.proofs.lemmas.List.Elements.{All-from_get_or, All-get_or}
use Rattle.std.proofs.lemmas.List.Folds.{list_any-from_Any}
use Rattle.cap_codec.specs.declared.word.Word.{Word}
use Rattle.cap_codec.specs.Words.{base_of, bounds_in}
use Rattle.heap_model.specs.Blocks.{Span, has_address}
use Rattle.heap_model.specs.Heap.{HeapState, IsSound as IsSoundHeap}
use Rattle.heap_model.specs.Laws.{has_address-within}
use Rattle.heap_model.specs.Quarantine.{with_epoch, without_epoch}
use Rattle.heap_model.specs.Sweep.{is_revoked, swept_cell, swept_granule, takes_tag}
use Rattle.tag_memory.specs.Cells.{Cell, cell_of, null_cell}
use Rattle.machine_steps.specs.Safety.{HoldsGuarded, IsGuarded, IsLiveOrHeld, IsSafe, LieIn}
use Rattle.machine_steps.specs.SoundLaws.{IsSafe-in}
use Rattle.machine_steps.specs.Sound.{IsMachine}
use Rattle.machine_steps.specs.State.{State}
use Rattle.revoker_steps.specs.declared.command.RevokerCommand.{RevokerCommand}
use Rattle.revoker_steps.specs.declared.command.RevokerCommand.TheVariants.{Paint, Release, UntagGranule, UntagRegister, Visit}
use Rattle.revoker_steps.specs.Revoker.{IsNothingLeft, after_paint, after_release, after_untag, after_untag_registers, is_at, is_in_page, is_register}
use Rattle.revoker_steps.specs.ChangedLaws.{All-changed, get_or-changed, length-changed}

-- When a revoker may do so.
abbrev pub MayRevoke : State → RevokerCommand → Type 0
MayRevoke s Paint = s.heap.is_open ≡ false
MayRevoke s (Visit page) = s.heap.is_open ≡ true
MayRevoke s (UntagGranule address) = s.heap.is_open ≡ true
MayRevoke s (UntagRegister r) = s.heap.is_open ≡ true
MayRevoke s Release = (s.heap.is_open ≡ true) × IsNothingLeft s s.heap.painted

-- The state that it leaves.
abbrev pub after_revoker : State → RevokerCommand → State
after_revoker s Paint = after_paint s
after_revoker s (Visit page) = after_untag (is_in_page page) s
after_revoker s (UntagGranule address) = after_untag (is_at s address) s
after_revoker s (UntagRegister r) = after_untag_registers (is_register r) s
after_revoker s Release = after_release s

-- What the crate below says of heaps.
pub record EpochLaws : Type 0 where
  pub begun : (s : HeapState) → IsSoundHeap s → IsSoundHeap (with_epoch s)
  pub ended : (s : HeapState) → IsSoundHeap s → IsSoundHeap (without_epoch s)

-- ---- paint

begun_still : (heap : HeapState) → heap.painted ≡ [] → (block : Span) → IsLiveOrHeld heap block → IsLiveOrHeld (with_epoch heap) block
begun_still heap none block (inl live) = inl live
begun_still heap none block (inr (inl waits)) = inr (inr waits)
begun_still heap none block (inr (inr painted)) = (let nowhere : Contains [] block = subst (λ (blocks : List Span). Contains blocks block) none painted in absurd (omega (arith, nowhere.1)))

IsSafe-painted : EpochLaws → (s : State) → IsSafe s → s.heap.is_open ≡ false → IsSafe (after_paint s)
IsSafe-painted laws s safe closed = IsSafe-in s (with_epoch s.heap) (laws.begun s.heap safe.heap) (begun_still s.heap (safe.heap.closed closed)) safe

-- ---- tags taken

-- A cell without its tag is guarded as before.
IsGuarded-fewer : (heap : HeapState) (held : List Span) (c : Cell) → IsGuarded heap c → IsGuarded heap (swept_cell held c)
IsGuarded-fewer heap held c guarded = record { within = λ e. guarded.within (and_parts c.1 (not (is_revoked held c.0)) e).0 }

pub IsSafe-untag : (test : ℕ → Bool) (s : State) → IsSafe s → IsSafe (after_untag test s)
IsSafe-untag test s safe = record {
  heap = safe.heap;
  registers = safe.registers;
  granules = All-changed (HoldsGuarded s.heap) (swept_granule s.heap.painted) (λ granule guarded. IsGuarded-fewer s.heap s.heap.painted (cell_of granule) guarded) test s.granules safe.granules;
}

pub IsSafe-untag_registers : (test : ℕ → Bool) (s : State) → IsSafe s → IsSafe (after_untag_registers test s)
IsSafe-untag_registers test s safe = record {
  heap = safe.heap;
  registers = All-changed (IsGuarded s.heap) (swept_cell s.heap.painted) (λ c guarded. IsGuarded-fewer s.heap s.heap.painted c guarded) test s.registers safe.registers;
  granules = safe.granules;
}

-- ---- release

-- A word whose bounds lie in a held block is revoked.
pub revoked_in : (held : List Span) (w : Word) (block : Span) → Contains held block → LieIn (bounds_in w) block → is_revoked held w ≡ true
revoked_in held w block there lie =
    let here = has_address-within (base_of w) block (omega (arith, lie.start)) (omega (arith, lie.some, lie.end)) in
    list_any-from_Any (has_address (base_of w)) held (there.0, block, there.1, there.2, here)

-- A tagged word whose base lies in no painted block is guarded once these are free.
IsGuarded-released : (heap : HeapState) (c : Cell) → takes_tag heap.painted c ≡ false → IsGuarded heap c → IsGuarded (without_epoch heap) c
IsGuarded-released heap c left guarded = record {
  within = λ e.
      let x = guarded.within e in
      elim x.1 [
        | inl live ↦ (x.0, inl live, x.2)
        | inr held ↦ elim held [
          | inl waits ↦ (x.0, inr (inl waits), x.2)
          | inr painted ↦ absurd (true≢false (sym (taken c.1 (is_revoked heap.painted c.0) e (revoked_in heap.painted c.0 x.0 painted x.2)) ∙ left))
        ]
      ];
} where
  taken : (t r : Bool) → t ≡ true → r ≡ true → (t && r) ≡ true
  taken true r p q = q
  taken false r p q = p

IsSafe-released : EpochLaws → (s : State) → IsSafe s → IsNothingLeft s s.heap.painted → IsSafe (after_release s)
IsSafe-released laws s safe left =
    let heap = without_epoch s.heap in
    record {
      heap = laws.ended s.heap safe.heap;
      registers = All-from_get_or (IsGuarded heap) s.registers null_cell
          (λ i lt. IsGuarded-released s.heap (slice_index_or s.registers i null_cell) (left.registers i) (All-get_or (IsGuarded s.heap) s.registers i null_cell lt safe.registers));
      granules = All-from_get_or (HoldsGuarded heap) s.granules (0, false)
          (λ i lt. IsGuarded-released s.heap (cell_of (slice_index_or s.granules i (0, false))) (left.granules i) (All-get_or (HoldsGuarded s.heap) s.granules i (0, false) lt safe.granules));
    }

-- ---- the step

pub after-safe : EpochLaws → (old : State) (command : RevokerCommand) → IsSafe old → MayRevoke old command → IsSafe (after_revoker old command)
after-safe laws old Paint safe may = IsSafe-painted laws old safe may
after-safe laws old (UntagGranule address) safe may = IsSafe-untag (is_at old address) old safe
after-safe laws old (UntagRegister r) safe may = IsSafe-untag_registers (is_register r) old safe
after-safe laws old (Visit page) safe may = IsSafe-untag (is_in_page page) old safe
after-safe laws old Release safe may = IsSafe-released laws old safe may.1

-- ---- machines

-- Register 0 stays null, and as many granules and registers are there.
pub untagged-machine : (test : ℕ → Bool) (old : State) → IsMachine old → IsMachine (after_untag test old)
untagged-machine test old is = record {
  granules = ap (λ n. 16 * n) (length-changed (swept_granule old.heap.painted) test old.granules) ∙ is.granules;
  count = is.count;
  zero = is.zero;
  safe = IsSafe-untag test old is.safe;
}

pub untagged_registers-machine : (test : ℕ → Bool) (old : State) → IsMachine old → IsMachine (after_untag_registers test old)
untagged_registers-machine test old is = record {
  granules = is.granules;
  count = length-changed (swept_cell old.heap.painted) test old.registers ∙ is.count;
  zero = get_or-changed (swept_cell old.heap.painted) null_cell refl test old.registers 0 ∙ still (test 0);
  safe = IsSafe-untag_registers test old is.safe;
} where
  still : (b : Bool) → cond b (swept_cell old.heap.painted (slice_index_or old.registers 0 null_cell)) (slice_index_or old.registers 0 null_cell) ≡ null_cell
  still true = ap (swept_cell old.heap.painted) is.zero
  still false = is.zero

pub after-machine : EpochLaws → (old : State) (command : RevokerCommand) → IsMachine old → MayRevoke old command → IsMachine (after_revoker old command)
after-machine laws old Paint is may = record { granules = is.granules; count = is.count; zero = is.zero; safe = after-safe laws old Paint is.safe may }
after-machine laws old (Visit page) is may = untagged-machine (is_in_page page) old is
after-machine laws old (UntagGranule address) is may = untagged-machine (is_at old address) old is
after-machine laws old (UntagRegister r) is may = untagged_registers-machine (is_register r) old is
after-machine laws old Release is may = record { granules = is.granules; count = is.count; zero = is.zero; safe = after-safe laws old Release is.safe may }
