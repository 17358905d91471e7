-- How an epoch ends: where nothing is left to take, a release is its end, which takes no tag.
use Rattle.std.proofs.Common.{◌≡◌, ◌∙◌, ◌+◌, ◌<◌, ◌&&◌, ℕ, suc, Bool, true, false, cond, not, Some, None, List, [], ◌∷◌, length, get_or, drop, refl, sym, ap, subst, arith}
use Rattle.std.proofs.Math.ListN.{get_or-map}
use Rattle.std.specs.Prelude.{count_by}
use Rattle.std.proofs.lemmas.Bool.{true≢false}
use Rattle.std.proofs.lemmas.List.{get_or-drop}
use Rattle.std.proofs.lemmas.List.Sums.{sum_by-drop_more}
use Rattle.heap_model.specs.Blocks.{Span, bytes_in}
use Rattle.heap_model.specs.Quarantine.{without_epoch}
use Rattle.heap_model.specs.Sweep.{is_revoked, swept_cell, swept_cells, swept_granule, swept_granules, takes_tag}
use Rattle.tag_memory.specs.Cells.{Cell, Granule, cell_of, null_cell}
use Rattle.trace_text.specs.declared.trace.Command.{Command}
use Rattle.trace_text.specs.declared.trace.Command.TheVariants.{End}
use Rattle.heap_reply.specs.declared.reply.Reply.{Reply}
use Rattle.heap_reply.specs.declared.reply.Reply.TheVariants.{Swept}
use Rattle.heap_reply.specs.declared.reply.Trap.TheVariants.{NotOpen}
use Rattle.machine_steps.specs.Sound.{IsMachine}
use Rattle.machine_steps.specs.State.{State}
use Rattle.machine_steps.specs.Step.{Effect, Step, StepAfter, after_end, end_takes}
use Rattle.machine_steps.specs.SweptState.{granules_taken-untouched, swept_granules-untouched}
use Rattle.revoker_steps.specs.declared.command.RevokerCommand.TheVariants.{Release}
use Rattle.revoker_steps.specs.declared.command.RevokerReply.{RevokerReply}
use Rattle.revoker_steps.specs.declared.command.RevokerReply.TheVariants.{Released}
use Rattle.revoker_steps.specs.Events.{CoverMemory, CoverRegisters, Runs, cleared_in, is_in_one, is_one, register_untags, visits}
use Rattle.revoker_steps.specs.LeftLaws.{count_none}
use Rattle.revoker_steps.specs.Revoker.{IsNothingLeft, RevokerStep, after_release, after_untag, after_untag_registers, untag_registers_takes}
use Rattle.revoker_steps.specs.ChangedLaws.{changed-all, count-all}
use Rattle.revoker_steps.proofs.PassLaws.{Runs-register_untags, Runs-visits, covers, covers_registers, spared_swept}
use Rattle.revoker_steps.proofs.StepLaws.{Released-is, releases}

-- ---- a release

swept_cells-untouched : (held : List Span) (registers : List Cell) → ((i : ℕ) → takes_tag held (get_or registers i null_cell) ≡ false) → swept_cells held registers ≡ registers
swept_cells-untouched held [] untouched = refl
swept_cells-untouched held (c ∷ registers) untouched =
    λ i. (c.0, kept c.1 (is_revoked held c.0) (untouched 0) i) ∷ swept_cells-untouched held registers (λ k. untouched (suc k)) i where
      kept : (t r : Bool) → (t && r) ≡ false → (t && not r) ≡ t
      kept true true none = absurd (true≢false none)
      kept true false none = refl
      kept false r none = refl

after_release-end : (s : State) → IsNothingLeft s s.heap.painted → after_release s ≡ after_end s
after_release-end s left = λ i. record s {
  heap = without_epoch s.heap;
  granules = sym (swept_granules-untouched s.heap.painted s.granules left.granules) i;
  registers = sym (swept_cells-untouched s.heap.painted s.registers left.registers) i;
}

end_takes-none : (s : State) → IsNothingLeft s s.heap.painted → end_takes s ≡ 0
end_takes-none s left =
    let granules = granules_taken-untouched s.heap.painted s.granules left.granules in
    let registers = count_none (takes_tag s.heap.painted) null_cell (drop 1 s.registers)
    (λ i. ap (takes_tag s.heap.painted) (get_or-drop 1 s.registers i null_cell) ∙ left.registers (1 + i)) in
    omega (arith, granules, registers)

passes : (b : Bool) (old : State) (r : Reply) (new : State) → b ≡ true → Effect old End r new → StepAfter (cond b None (Some NotOpen)) old End r new
passes true old r new e effect = effect
passes false old r new e effect = absurd (true≢false (sym e))

pub Release-end : (old : State) (bytes : ℕ) (new : State) → RevokerStep old Release (Released bytes) new → Step old End (Swept 0 bytes) new
Release-end old bytes new step =
    let is = Released-is old bytes new step in
    subst (λ (n : ℕ). Step old End (Swept 0 n) new) (sym is.1)
    (passes old.heap.is_open old (Swept 0 (bytes_in old.heap.painted)) new is.0.may.0
    (ap (λ n. Swept n (bytes_in old.heap.painted)) (sym (end_takes-none old is.0.may.1)), is.0.state ∙ after_release-end old is.0.may.1))

-- ---- all tags taken

-- Each tagged word whose base lies in a painted block has lost its tag.
abbrev all_untagged : State → State
all_untagged s = record s { granules = swept_granules s.heap.painted s.granules; registers = swept_cells s.heap.painted s.registers }

none_left : (s : State) → IsNothingLeft (all_untagged s) s.heap.painted
none_left s = record {
  registers = λ r. ap (takes_tag s.heap.painted) (get_or-map (swept_cell s.heap.painted) s.registers r null_cell) ∙ spared_swept s.heap.painted (get_or s.registers r null_cell);
  granules = λ i.
      ap (λ (g : Granule). takes_tag s.heap.painted (cell_of g)) (get_or-map (swept_granule s.heap.painted) s.granules i (0, false))
      ∙ spared_swept s.heap.painted (cell_of (get_or s.granules i (0, false)));
}

-- Register 0 has no tag to lose.
counted_from_1 : (s : State) → IsMachine s → count_by (takes_tag s.heap.painted) s.registers ≡ count_by (takes_tag s.heap.painted) (drop 1 s.registers)
counted_from_1 s is =
    let some : 0 < length s.registers = omega (arith, is.count) in
    let weight : Cell → ℕ = λ c. cond (takes_tag s.heap.painted c) 1 0 in
    let zero_taken : weight (get_or s.registers 0 null_cell) ≡ 0 = ap weight is.zero in
    omega (arith, sum_by-drop_more (λ (c : Cell). cond (takes_tag s.heap.painted c) 1 0) s.registers 0 null_cell some, zero_taken)

-- Visits of all pages and untags of all registers leave what may be released, as `end` leaves it.
pub ends : (By : State → Command → Reply → State → Type 0) (s mid : State) (pages registers : List (ℕ × RevokerReply)) (new : State) → IsMachine s → s.heap.is_open ≡ true → CoverMemory s pages → CoverRegisters s registers
    → Runs By s (visits pages) mid → Runs By mid (register_untags registers) new
    → RevokerStep new Release (Released (bytes_in s.heap.painted)) (after_end s) × (cleared_in pages + cleared_in registers ≡ end_takes s)
ends By s mid pages registers new is opened cover all first last =
    let visited = Runs-visits By pages s mid opened first in
    let untagged = Runs-register_untags By registers mid new (ap (λ (t : State). t.heap.is_open) visited.0 ∙ opened) last in
    let tests = covers s pages cover in
    let register_tests = covers_registers s registers all in
    let left : after_untag_registers (is_one registers) (after_untag (is_in_one pages) s) ≡ all_untagged s = λ j. record s {
      granules = changed-all (swept_granule s.heap.painted) (is_in_one pages) s.granules tests j;
      registers = changed-all (swept_cell s.heap.painted) (is_one registers) s.registers register_tests j;
    } in
    let is_left : new ≡ all_untagged s = untagged.0 ∙ ap (after_untag_registers (is_one registers)) visited.0 ∙ left in
    let granules_taken = count-all (λ (g : Granule). takes_tag s.heap.painted (cell_of g)) (is_in_one pages) s.granules tests in
    let registers_taken = count-all (takes_tag s.heap.painted) (is_one registers) s.registers register_tests in
    let same : untag_registers_takes (is_one registers) mid ≡ untag_registers_takes (is_one registers) s = ap (untag_registers_takes (is_one registers)) visited.0 in (
      subst (λ (t : State). RevokerStep t Release (Released (bytes_in s.heap.painted)) (after_end s)) (sym is_left) (releases (all_untagged s) opened (none_left s)),
      omega (arith, visited.1, untagged.1, granules_taken, registers_taken, same, counted_from_1 s is),
    )
