-- What is left once the tags of a sweep's masks are taken.
use Rattle.std.proofs.Common.{◌≡◌, ◌∙◌, ◌<◌, ◌≤◌, ◌+◌, ◌/◌, ◌^◌, ℕ, List, false, inl, inr, length, get_or, refl, sym, arith}
use Rattle.std.specs.Prelude.{count_ones, nat_le, sum_by}
use Rattle.std.proofs.lemmas.Bool.{and_parts, cases_Bool, leb-true, true≢false}
use Rattle.heap_model.specs.Blocks.{Span}
use Rattle.heap_model.specs.Sweep.{AreInDirtyPages, tags_taken, takes_tag}
use Rattle.tag_memory.specs.Cells.{Cell, Granule, MemoryState, cell_of, is_dirty_at, null_cell, register_at, without_tag_if}
use Rattle.tag_memory.specs.Tags.{is_set, without_tags}
use Rattle.machine_storage.specs.Revoked.{AreRevoked, AreApplied}
use Rattle.machine_steps.specs.Sound.{IsMachine}
use Rattle.machine_steps.specs.State.{State}
use Rattle.machine_storage.specs.declared.storage.revocation.RevokedTags.{RevokedTags}
use Rattle.machine_storage.proofs.ClearedRegisters.{registers-swept}
use Rattle.machine_storage.proofs.CountLaws.{ones-masks, ones-registers}
use Rattle.machine_storage.proofs.SweptMemory.{without_tags-swept}
use Rattle.machine_steps.specs.SweptState.{granules_taken-untouched, swept_granules-untouched}

pub AreApplied-masks : (held : List Span) (old new : MemoryState) (registers left : List Cell) (tags : RevokedTags)
    → AreRevoked held old registers tags → new.base ≡ old.base → new.dirty ≡ old.dirty → new.granules ≡ without_tags tags.masks.items old.granules
    → length left ≡ 32 → get_or left 0 null_cell ≡ null_cell
    → ((r : ℕ) → r < 32 → get_or left r null_cell ≡ without_tag_if (is_set tags.registers r) (get_or registers r null_cell))
    → AreApplied held old registers new left
AreApplied-masks held old new registers left tags revoked same still granules_are long zero each =
    record {
      base = same;
      dirty = still;
      granules = granules_are ∙ without_tags-swept held old tags.masks.items revoked.granules;
      registers_are = registers-swept held registers left tags.registers revoked.count revoked.zero revoked.bits long (zero ∙ sym revoked.zero) (λ r some lt. each r lt);
    }

-- How many tags the masks take.
pub count-revoked : (held : List Span) (memory : MemoryState) (registers : List Cell) (tags : RevokedTags) (count : ℕ) → AreRevoked held memory registers tags
    → ((w : ℕ) → get_or tags.masks.items w 0 < 2 ^ 64) → tags.registers < 2 ^ 32 → count ≡ sum_by count_ones tags.masks.items + count_ones tags.registers
    → count ≡ tags_taken held memory.granules registers
count-revoked held memory registers tags count revoked fits below told =
    let of_memory = ones-masks (λ (g : Granule). takes_tag held (cell_of g)) tags.masks.items memory.granules (0, false) revoked.granules.count fits revoked.granules.bits in
    let of_registers = ones-registers held registers tags.registers revoked.count revoked.zero below revoked.bits in
    told ∙ (λ k. of_memory k + of_registers k)

-- With no dirty page, and the words that lose their tags in dirty pages alone, only registers lose theirs.
pub AreApplied-clean : (held : List Span) (memory : MemoryState) (registers left : List Cell) (mask : ℕ)
    → AreInDirtyPages memory.granules memory.dirty held → ((page : ℕ) → is_dirty_at memory.dirty page ≡ false)
    → length registers ≡ 32 → get_or registers 0 null_cell ≡ null_cell → ((r : ℕ) → r < 32 → is_set mask r ≡ takes_tag held (register_at registers r))
    → length left ≡ 32 → get_or left 0 null_cell ≡ null_cell
    → ((r : ℕ) → r < 32 → get_or left r null_cell ≡ without_tag_if (is_set mask r) (get_or registers r null_cell))
    → AreApplied held memory registers memory left
AreApplied-clean held memory registers left mask stand clean count null bits long zero each =
    let untouched : (i : ℕ) → takes_tag held (cell_of (get_or memory.granules i (0, false))) ≡ false =
    λ i. elim (cases_Bool (takes_tag held (cell_of (get_or memory.granules i (0, false))))) [
      | inl is ↦ absurd (true≢false (sym (stand i is) ∙ clean (i / 256)))
      | inr none ↦ none
    ] in
    record {
      base = refl;
      granules = sym (swept_granules-untouched held memory.granules untouched);
      dirty = refl;
      registers_are = registers-swept held registers left mask count null bits long (zero ∙ sym null) (λ r some lt. each r lt);
    }

-- How many tags that takes.
pub count-clean : (held : List Span) (memory : MemoryState) (registers : List Cell) (mask : ℕ)
    → AreInDirtyPages memory.granules memory.dirty held → ((page : ℕ) → is_dirty_at memory.dirty page ≡ false)
    → length registers ≡ 32 → get_or registers 0 null_cell ≡ null_cell → ((r : ℕ) → r < 32 → is_set mask r ≡ takes_tag held (register_at registers r)) → mask < 2 ^ 32
    → count_ones mask ≡ tags_taken held memory.granules registers
count-clean held memory registers mask stand clean count null bits below =
    let untouched : (i : ℕ) → takes_tag held (cell_of (get_or memory.granules i (0, false))) ≡ false =
    λ i. elim (cases_Bool (takes_tag held (cell_of (get_or memory.granules i (0, false))))) [
      | inl is ↦ absurd (true≢false (sym (stand i is) ∙ clean (i / 256)))
      | inr none ↦ none
    ] in
    omega (arith, granules_taken-untouched held memory.granules untouched, ones-registers held registers mask count null below bits)

-- There are few granules.
pub few_granules : (s : State) → IsMachine s → length s.granules ≤ 262144
few_granules s sound =
    let heap = sound.safe.heap in
    let limit : heap.pages ≤ 1024 = leb-true heap.pages 1024 (and_parts (nat_le 1 heap.pages) (nat_le heap.pages 1024) heap.size).1 in
    omega (arith, limit, heap.bytes, sound.granules)
