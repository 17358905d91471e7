-- A revoker's steps: that they are decided, what they take, and what they leave.
use Rattle.std.proofs.Common.{◌≡◌, ◌≢◌, ◌∙◌, ◌<◌, ◌≤◌, ◌+◌, ◌*◌, ◌/◌, ◌%◌, ◌^◌, ◌==◌, ◌&&◌, ℕ, Bool, true, false, cond, not, inl, inr, Option, Some, None, List, length, drop, get_or, set, take, refl, sym, ap, subst, arith}
use Rattle.std.specs.Prelude.{count_ones, sum_by}
use Rattle.std.proofs.lemmas.Bool.{cases_eq, cases_lt, eq-eqb, false_from_ne_true, le-leb, lt-ltb, ne_eqb, true≢false}
use Rattle.std.proofs.lemmas.List.{ext_get_or, get_or-drop, get_or-take, get_or_past, length-drop, length-take}
use Rattle.heap_model.specs.Heap.{HeapState, due}
use Rattle.heap_model.specs.Laws.{due-open, without_due-open}
use Rattle.heap_model.specs.Quarantine.{without_due}
use Rattle.heap_model.specs.Sweep.{is_revoked, swept_cell, swept_granule, takes_tag}
use Rattle.sweep_masks.specs.Masks.{AreBits, takes_tag_at}
use Rattle.tag_memory.specs.Cells.{Cell, Granule, cell_of, is_dirty_at, null_cell, register_at, registers_with}
use Rattle.tag_memory.specs.Laws.{is_set_zero, some_bit}
use Rattle.tag_memory.specs.Tags.{is_set, is_set_for, without_page_tag}
use Rattle.machine_steps.specs.State.{State}
use Rattle.revoker_steps.specs.Changed.{changed_where}
use Rattle.revoker_steps.specs.ChangedLaws.{changed-one, changed-still, count-one, count-part, get_or-changed, length-changed}
use Rattle.revoker_steps.specs.Revoker.{IsNothingLeft, RevokerEffect, RevokerStepAfter, after_release, after_untag, after_untag_registers, first_failed_check, is_in_page, is_register, revoker_checks, untag_registers_takes, untag_takes}
use Rattle.revoker_steps.specs.RevokerDirty.{revoker_dirty_by}
use Rattle.revoker_steps.specs.declared.command.RevokerCommand.{RevokerCommand}
use Rattle.revoker_steps.specs.declared.command.RevokerCommand.TheVariants.{UntagGranule}
use Rattle.revoker_steps.specs.declared.command.RevokerReply.TheVariants as reply
use Rattle.revoker_steps.specs.declared.command.RevokerTrap.{RevokerTrap}
use Rattle.machine_storage.specs.RevokerDecision.{CanRevoke, IsRevokerDecision, revoker_dirty_left, revoker_left}
use Rattle.machine_storage.specs.Storage.{IsStorage, state_of}
use Rattle.machine_storage.specs.declared.storage.Storage.{Storage}
use Rattle.machine_storage.specs.declared.storage.revoker.change.RevokerChange.TheVariants.{Nothing}
use Rattle.machine_storage.specs.declared.storage.revoker.change.RevokerDecision.{RevokerDecision}
use Rattle.machine_storage.proofs.CountLaws.{ones-masks, register_at-is}
use Rattle.machine_storage.proofs.SweptMemory.{and_not}

-- ---- checks

-- A check that fails is answered by its trap, and changes nothing.
pub revoker_trapped : (m : Storage) (c : RevokerCommand) (t : RevokerTrap) → first_failed_check (revoker_checks (state_of m) c) ≡ Some t
    → IsRevokerDecision m c (record { reply = reply.Trap t; change = Nothing })
revoker_trapped m c t failed =
    let s = state_of m in
    record {
      step = subst (λ (it : Option RevokerTrap). RevokerStepAfter it s c (reply.Trap t) s) (sym failed) (refl, refl);
      can = tt;
      dirty = sym (ap (λ (it : Option RevokerTrap). revoker_dirty_by it c m.memory.dirty) failed);
    }

-- Where none fails, the command is done as its effect says.
pub revoker_decided : (m : Storage) (c : RevokerCommand) (d : RevokerDecision) → first_failed_check (revoker_checks (state_of m) c) ≡ None
    → RevokerEffect (state_of m) c d.reply (revoker_left m d.change) → CanRevoke m d.change → revoker_dirty_left m d.change ≡ revoker_dirty_by None c m.memory.dirty
    → IsRevokerDecision m c d
revoker_decided m c d passed effect can dirty = record {
  step = subst (λ (it : Option RevokerTrap). RevokerStepAfter it (state_of m) c d.reply (revoker_left m d.change)) (sym passed) effect;
  can = can;
  dirty = dirty ∙ sym (ap (λ (it : Option RevokerTrap). revoker_dirty_by it c m.memory.dirty) passed);
}

-- Those of an untag of a granule pass where an epoch is open and the heap has such an address, a multiple of 16.
pub untag_passes : (s : State) (address : ℕ) → s.heap.is_open ≡ true → s.heap.base ≤ address → address < s.heap.base + s.heap.size → (address % 16 == 0) ≡ true
    → first_failed_check (revoker_checks s (UntagGranule address)) ≡ None
untag_passes s address opened from before aligned = rw (opened, le-leb s.heap.base address from, lt-ltb address (s.heap.base + s.heap.size) before, aligned) refl

-- ---- what is taken

no_tag : (t r : Bool) → (t && r) ≡ true → (t && not r) ≡ false
no_tag true r is = ap not is
no_tag false r is = refl

same_tag : (t r : Bool) → (t && r) ≡ false → (t && not r) ≡ t
same_tag true r is = ap not is
same_tag false r is = refl

-- The one granule of an untag has a tag to lose, or it has none.
pub granule-taken : (s : State) (i : ℕ) (g : Granule) (test : ℕ → Bool) → i < length s.granules → get_or s.granules i (0, false) ≡ g
    → takes_tag s.heap.painted (cell_of g) ≡ true → test i ≡ true → ((k : ℕ) → k ≢ i → test k ≡ false)
    → (1 ≡ untag_takes test s) × (record s { granules = set s.granules i (g.0, false) } ≡ after_untag test s)
granule-taken s i g test lt read taken is other =
    let p : Granule → Bool = λ g. takes_tag s.heap.painted (cell_of g) in
    let f : Granule → Granule = swept_granule s.heap.painted in
    let left : f (get_or s.granules i (0, false)) ≡ (g.0, false) = ap f read ∙ (λ j. (g.0, no_tag g.1 (is_revoked s.heap.painted (cell_of g).0) taken j)) in
    let all = changed-one f (0, false) test i s.granules lt is other ∙ ap (set s.granules i) left in (
      sym (count-one p (0, false) test i s.granules lt is other ∙ ap (λ b. cond b 1 0) (ap p read ∙ taken)),
      λ j. record s { granules = sym all j },
    )

pub granule-spared : (s : State) (i : ℕ) (test : ℕ → Bool) → i < length s.granules → takes_tag s.heap.painted (cell_of (get_or s.granules i (0, false))) ≡ false
    → test i ≡ true → ((k : ℕ) → k ≢ i → test k ≡ false) → (0 ≡ untag_takes test s) × (s ≡ after_untag test s)
granule-spared s i test lt spared is other =
    let p : Granule → Bool = λ g. takes_tag s.heap.painted (cell_of g) in
    let f : Granule → Granule = swept_granule s.heap.painted in
    let g : Granule = get_or s.granules i (0, false) in
    let still : f (get_or s.granules i (0, false)) ≡ get_or s.granules i (0, false) = λ j. (g.0, same_tag g.1 (is_revoked s.heap.painted (cell_of g).0) spared j) in
    let all = changed-still f (0, false) test i s.granules still other in (
      sym (count-one p (0, false) test i s.granules lt is other ∙ ap (λ b. cond b 1 0) spared),
      λ j. record s { granules = sym all j },
    )

-- The same of a register.
only_it : (r k : ℕ) → k ≢ r → is_register r k ≡ false
only_it r k other = ne_eqb k r other

pub register-taken : (s : State) (r : ℕ) → r < length s.registers → get_or s.registers 0 null_cell ≡ null_cell → takes_tag s.heap.painted (register_at s.registers r) ≡ true
    → (1 ≡ untag_registers_takes (is_register r) s) × (record s { registers = registers_with s.registers r ((register_at s.registers r).0, false) } ≡ after_untag_registers (is_register r) s)
register-taken s r lt null taken =
    let p : Cell → Bool = takes_tag s.heap.painted in
    let f : Cell → Cell = swept_cell s.heap.painted in
    let c = register_at s.registers r in
    let read : get_or s.registers r null_cell ≡ register_at s.registers r = sym (register_at-is s.registers null r) in
    let some : r ≢ 0 = λ first. true≢false (sym taken ∙ ap (λ k. takes_tag s.heap.painted (register_at s.registers k)) first) in
    let left : f (get_or s.registers r null_cell) ≡ ((register_at s.registers r).0, false) = ap f read ∙ (λ j. (c.0, no_tag c.1 (is_revoked s.heap.painted c.0) taken j)) in
    let written : registers_with s.registers r (c.0, false) ≡ set s.registers r (c.0, false) = ap (λ b. cond b s.registers (set s.registers r (c.0, false))) (ne_eqb r 0 some) in
    let all = changed-one f null_cell (is_register r) r s.registers lt (eq-eqb r r refl) (only_it r) ∙ (ap (set s.registers r) left ∙ sym written) in (
      sym (count-one p null_cell (is_register r) r s.registers lt (eq-eqb r r refl) (only_it r) ∙ ap (λ b. cond b 1 0) (ap p read ∙ taken)),
      λ j. record s { registers = sym all j },
    )

pub register-spared : (s : State) (r : ℕ) → r < length s.registers → get_or s.registers 0 null_cell ≡ null_cell → takes_tag s.heap.painted (register_at s.registers r) ≡ false
    → (0 ≡ untag_registers_takes (is_register r) s) × (s ≡ after_untag_registers (is_register r) s)
register-spared s r lt null spared =
    let p : Cell → Bool = takes_tag s.heap.painted in
    let f : Cell → Cell = swept_cell s.heap.painted in
    let c = register_at s.registers r in
    let read : get_or s.registers r null_cell ≡ register_at s.registers r = sym (register_at-is s.registers null r) in
    let still : f (get_or s.registers r null_cell) ≡ get_or s.registers r null_cell = ap f read ∙ ((λ j. (c.0, same_tag c.1 (is_revoked s.heap.painted c.0) spared j)) ∙ sym read) in
    let all = changed-still f null_cell (is_register r) r s.registers still (only_it r) in (
      sym (count-one p null_cell (is_register r) r s.registers lt (eq-eqb r r refl) (only_it r) ∙ ap (λ b. cond b 1 0) (ap p read ∙ spared)),
      λ j. record s { registers = sym all j },
    )

-- ---- a page

-- The bits of a page's masks are as many as the tags that a visit takes.
pub visit_takes : (s : State) (page : ℕ) (masks : List ℕ) → 256 * page + 256 ≤ length s.granules → AreBits (λ j. takes_tag s.heap.painted (cell_of (get_or s.granules (256 * page + j) (0, false)))) 256 masks
    → ((w : ℕ) → get_or masks w 0 < 2 ^ 64) → sum_by count_ones masks ≡ untag_takes (is_in_page page) s
visit_takes s page masks long bits fits =
    let p : Granule → Bool = λ g. takes_tag s.heap.painted (cell_of g) in
    let rest : List Granule = drop (256 * page) s.granules in
    let part : List Granule = take 256 rest in
    let count : length part ≡ 256 = omega (arith, length-take 256 rest, length-drop (256 * page) s.granules, long) in
    let ones = ones-masks p masks part (0, false) (bits.count ∙ sym count) fits (λ i lt.
    let below : i < 256 = omega (arith, lt, count) in
    bits.bits i below ∙ ap p (sym (get_or-take 256 rest i (0, false) below ∙ get_or-drop (256 * page) s.granules i (0, false)))) in
    ones ∙ sym (count-part p (is_in_page page) (256 * page) 256 s.granules
    (λ i before. ne_eqb (i / 256) page (λ same. absurd (omega (arith, before, same))))
    (λ i from before. eq-eqb (i / 256) page (omega (arith, from, before)))
    (λ i from. ne_eqb (i / 256) page (λ same. absurd (omega (arith, from, same)))))

keep : (b : Bool) → (b && not false) ≡ b
keep true = refl
keep false = refl

-- The page without the tags of its masks is the page visited.
pub page-left : (s : State) (page : ℕ) (masks : List ℕ) (new : List Granule) → AreBits (λ j. takes_tag s.heap.painted (cell_of (get_or s.granules (256 * page + j) (0, false)))) 256 masks
    → length new ≡ length s.granules → ((i : ℕ) → get_or new i (0, false) ≡ without_page_tag page masks i (get_or s.granules i (0, false)))
    → record s { granules = new } ≡ after_untag (is_in_page page) s
page-left s page masks new bits long each =
    let held = s.heap.painted in
    let f : Granule → Granule = swept_granule s.heap.painted in
    let all : new ≡ changed_where (is_in_page page) f s.granules =
    ext_get_or (0, false) new (changed_where (is_in_page page) f s.granules) (long ∙ sym (length-changed f (is_in_page page) s.granules))
    (λ i lt. each i ∙ (at i (get_or s.granules i (0, false)) refl ∙ sym (get_or-changed f (0, false) refl (is_in_page page) s.granules i))) in
    λ j. record s { granules = all j } where
      at : (i : ℕ) (g : Granule) → g ≡ get_or s.granules i (0, false)
          → without_page_tag page masks i g ≡ cond (is_in_page page i) (swept_granule s.heap.painted g) g
      at i (number, tag) read =
          elim (cases_eq (i / 256) page) [
            | inl here ↦
                let revoked = is_revoked s.heap.painted (record { bits = number }) in
                let place : 256 * page + i % 256 ≡ i = omega (arith, here) in
                let below : i % 256 < 256 = omega arith in
                let bit : is_set_for masks (i % 256) ≡ takes_tag s.heap.painted (cell_of (number, tag)) =
                bits.bits (i % 256) below ∙ (ap (λ k. takes_tag s.heap.painted (cell_of (get_or s.granules k (0, false)))) place ∙ ap (λ (g : Granule). takes_tag s.heap.painted (cell_of g)) (sym read)) in
                let same = eq-eqb (i / 256) page here in
                (λ j. (number, tag && not (same j && is_set_for masks (i % 256))))
                ∙ ((λ j. (number, tag && not (bit j)))
                ∙ ((λ j. (number, and_not tag revoked j))
                ∙ sym (ap (λ b. cond b (swept_granule s.heap.painted (number, tag)) (number, tag)) same)))
            | inr other ↦
                let apart = ne_eqb (i / 256) page other in
                (λ j. (number, tag && not (apart j && is_set_for masks (i % 256))))
                ∙ ((λ j. (number, keep tag j))
                ∙ sym (ap (λ b. cond b (swept_granule s.heap.painted (number, tag)) (number, tag)) apart))
          ]

-- ---- what is left

-- A clean page has no tag to lose in an open epoch.
pub clean-none : (m : Storage) → IsStorage m → m.heap.is_open ≡ true → (i page : ℕ) → i / 256 ≡ page → is_dirty_at m.memory.dirty page ≡ false → takes_tag_at m.memory (due m.heap) i ≡ false
clean-none m storage opened i page of_page clean =
    let cell = cell_of (get_or m.memory.granules i (0, false)) in
    false_from_ne_true (takes_tag_at m.memory (due m.heap) i) (λ taken.
    let painted : takes_tag m.heap.painted (cell_of (get_or m.memory.granules i (0, false))) ≡ true = ap (λ held. takes_tag held cell) (sym (due-open m.heap opened)) ∙ taken in
    true≢false (sym (storage.dirtied i painted) ∙ (ap (is_dirty_at m.memory.dirty) of_page ∙ clean)))

-- Past the last page there is none.
pub past-none : (m : Storage) (i : ℕ) → length m.memory.granules ≤ i → takes_tag_at m.memory (due m.heap) i ≡ false
past-none m i past = ap (λ (g : Granule). takes_tag (due m.heap) (cell_of g)) (get_or_past m.memory.granules i (0, false) past)

-- A register has one, by the mask of registers.
pub register-left : (m : Storage) → IsStorage m → m.heap.is_open ≡ true → (mask : ℕ) → mask < 2 ^ 32 → mask ≢ 0
    → ((r : ℕ) → r < 32 → is_set mask r ≡ takes_tag (due m.heap) (register_at m.registers r)) → IsNothingLeft (state_of m) m.heap.painted → ⊥
register-left m storage opened mask fits some bits none =
    let bit = some_bit 32 mask fits some in
    let held : takes_tag m.heap.painted (register_at m.registers bit.bit) ≡ true =
    ap (λ held. takes_tag held (register_at m.registers bit.bit)) (sym (due-open m.heap opened)) ∙ (sym (bits bit.bit bit.below) ∙ bit.one) in
    true≢false (sym held ∙ (ap (takes_tag m.heap.painted) (register_at-is m.registers storage.sound.zero bit.bit) ∙ none.registers bit.bit))

-- None has, and no granule.
pub nothing-left : (m : Storage) → IsStorage m → m.heap.is_open ≡ true → (mask : ℕ) → mask ≡ 0
    → ((r : ℕ) → r < 32 → is_set mask r ≡ takes_tag (due m.heap) (register_at m.registers r)) → ((i : ℕ) → takes_tag_at m.memory (due m.heap) i ≡ false)
    → IsNothingLeft (state_of m) m.heap.painted
nothing-left m storage opened mask zero bits none = record {
  registers = λ r. elim (cases_lt r 32) [
    | inl lt ↦
        ap (takes_tag m.heap.painted) (sym (register_at-is m.registers storage.sound.zero r))
        ∙ (ap (λ held. takes_tag held (register_at m.registers r)) (sym (due-open m.heap opened))
        ∙ (sym (bits r lt) ∙ (ap (λ (n : ℕ). is_set n r) zero ∙ is_set_zero r)))
    | inr past ↦ ap (takes_tag m.heap.painted) (get_or_past m.registers r null_cell (omega (arith, past, storage.sound.count)))
  ];
  granules = λ i. ap (λ held. takes_tag held (cell_of (get_or m.memory.granules i (0, false)))) (sym (due-open m.heap opened)) ∙ none i;
}

-- The painted blocks are free.
pub released-left : (m : Storage) (heap : HeapState) → m.heap.is_open ≡ true → heap ≡ without_due m.heap
    → record { heap = heap; granules = m.memory.granules; registers = m.registers } ≡ after_release (state_of m)
released-left m heap opened free =
    let all = free ∙ without_due-open m.heap opened in
    λ j. record (state_of m) { heap = all j }
