-- A revoker's step: where a check fails it changes nothing, and where none does it leaves what its command leaves.
use Rattle.std.proofs.Common.{◌≡◌, ◌∙◌, ◌+◌, ◌-◌, ◌*◌, ◌<◌, ◌≤◌, ◌/◌, ◌%◌, ◌&&◌, ◌⊎◌, ℕ, Bool, true, false, cond, eqb, not, Option, Some, None, inl, inr, length, get_or, refl, sym, ap, subst, arith}
use Rattle.std.specs.Prelude.{nat_le, nat_lt}
use Rattle.std.proofs.lemmas.Bool.{eqb-true, false_from_ne_true, true≢false}
use Rattle.std.proofs.lemmas.Bool.Decides.{nat_tests}
use Rattle.heap_model.specs.Blocks.{bytes_in}
use Rattle.heap_model.specs.Sweep.{swept_granule, takes_tag}
use Rattle.tag_memory.specs.Cells.{Granule, cell_of}
use Rattle.machine_steps.specs.Safety.{IsSafe}
use Rattle.machine_steps.specs.Sound.{IsMachine}
use Rattle.machine_steps.specs.State.{State}
use Rattle.revoker_steps.specs.declared.command.RevokerCommand.{RevokerCommand}
use Rattle.revoker_steps.specs.declared.command.RevokerCommand.TheVariants.{Paint, Release, UntagGranule, UntagRegister, Visit}
use Rattle.revoker_steps.specs.declared.command.RevokerReply.{RevokerReply}
use Rattle.revoker_steps.specs.declared.command.RevokerReply.TheVariants.{Cleared, Done, Released}
use Rattle.revoker_steps.specs.declared.command.RevokerReply.TheVariants as reply
use Rattle.revoker_steps.specs.declared.command.RevokerTrap.{RevokerTrap}
use Rattle.revoker_steps.specs.declared.command.RevokerTrap.TheVariants as trap
use Rattle.revoker_steps.specs.Events.{cleared_by}
use Rattle.revoker_steps.specs.LeftLaws.{counted, tags_left-none}
use Rattle.revoker_steps.specs.Revoker.{IsNothingLeft, RevokerEffect, RevokerStep, RevokerStepAfter, after_paint, after_release, after_untag, after_untag_registers, first_failed_check, is_at, is_in_page, is_register, revoker_checks, tags_left, untag_registers_takes, untag_takes}
use Rattle.revoker_steps.specs.ChangedLaws.{changed-within, count-within, get_or-changed}
use Rattle.revoker_steps.proofs.RevokerLaws.{EpochLaws, MayRevoke, after-machine, after-safe, after_revoker}

-- ---- one step

-- It may be done, and leaves the state that it leaves.
pub record Revokes (old : State) (command : RevokerCommand) (new : State) : Type 0 where
  pub may : MayRevoke old command
  pub state : new ≡ after_revoker old command

-- A step does so, or changes nothing.
pub Step-revokes : (old : State) (command : RevokerCommand) (answer : RevokerReply) (new : State) → RevokerStep old command answer new → Revokes old command new ⊎ (new ≡ old)
Step-revokes old Paint answer new step = go old.heap.is_open refl step where
  go : (b : Bool) → old.heap.is_open ≡ b → RevokerStepAfter (cond (not b) None (Some trap.Open)) old Paint answer new → Revokes old Paint new ⊎ (new ≡ old)
  go true e step = inr step.1
  go false e step = inl (record { may = e; state = step.1 })
Step-revokes old (Visit page) answer new step = go old.heap.is_open (nat_lt (256 * page) (length old.granules)) refl step where
  go : (b c : Bool) → old.heap.is_open ≡ b → RevokerStepAfter (cond b (cond c None (Some trap.Bounds)) (Some trap.NotOpen)) old (Visit page) answer new → Revokes old (Visit page) new ⊎ (new ≡ old)
  go true true e step = inl (record { may = e; state = step.1 })
  go true false e step = inr step.1
  go false c e step = inr step.1
Step-revokes old (UntagGranule address) answer new step = go old.heap.is_open (nat_le old.heap.base address && nat_lt address (old.heap.base + old.heap.size)) (eqb (address % 16) 0) refl step where
  go : (b c d : Bool) → old.heap.is_open ≡ b → RevokerStepAfter (cond b (cond c (cond d None (Some trap.Align)) (Some trap.Bounds)) (Some trap.NotOpen)) old (UntagGranule address) answer new
      → Revokes old (UntagGranule address) new ⊎ (new ≡ old)
  go true true true e step = inl (record { may = e; state = step.1 })
  go true true false e step = inr step.1
  go true false d e step = inr step.1
  go false c d e step = inr step.1
Step-revokes old (UntagRegister r) answer new step = go old.heap.is_open refl step where
  go : (b : Bool) → old.heap.is_open ≡ b → RevokerStepAfter (cond b None (Some trap.NotOpen)) old (UntagRegister r) answer new → Revokes old (UntagRegister r) new ⊎ (new ≡ old)
  go true e step = inl (record { may = e; state = step.1 })
  go false e step = inr step.1
Step-revokes old Release answer new step = go old.heap.is_open (eqb (tags_left old) 0) refl refl step where
  go : (b c : Bool) → old.heap.is_open ≡ b → eqb (tags_left old) 0 ≡ c → RevokerStepAfter (cond b (cond c None (Some trap.Left)) (Some trap.NotOpen)) old Release answer new → Revokes old Release new ⊎ (new ≡ old)
  go true true e f step = inl (record { may = (e, counted old (eqb-true (tags_left old) 0 f)); state = step.1 })
  go true false e f step = inr step.1
  go false c e f step = inr step.1

pub Step-safe : EpochLaws → (old : State) (command : RevokerCommand) (answer : RevokerReply) (new : State) → IsSafe old → RevokerStep old command answer new → IsSafe new
Step-safe laws old command answer new safe step =
    elim (Step-revokes old command answer new step) [
      | inl done ↦ subst IsSafe (sym done.state) (after-safe laws old command safe done.may)
      | inr same ↦ subst IsSafe (sym same) safe
    ]

pub Step-machine : EpochLaws → (old : State) (command : RevokerCommand) (answer : RevokerReply) (new : State) → IsMachine old → RevokerStep old command answer new → IsMachine new
Step-machine laws old command answer new is step =
    elim (Step-revokes old command answer new step) [
      | inl done ↦ subst IsMachine (sym done.state) (after-machine laws old command is done.may)
      | inr same ↦ subst IsMachine (sym same) is
    ]

-- ---- there is one, and no other

effect_one : (old : State) (command : RevokerCommand) → (answer : RevokerReply) × (new : State) × RevokerEffect old command answer new
effect_one old Paint = (Done, after_paint old, (refl, refl))
effect_one old (Visit page) = (Cleared (untag_takes (is_in_page page) old), after_untag (is_in_page page) old, (refl, refl))
effect_one old (UntagGranule address) = (Cleared (untag_takes (is_at old address) old), after_untag (is_at old address) old, (refl, refl))
effect_one old (UntagRegister r) = (Cleared (untag_registers_takes (is_register r) old), after_untag_registers (is_register r) old, (refl, refl))
effect_one old Release = (Released (bytes_in old.heap.painted), after_release old, (refl, refl))

after_one : (t : Option RevokerTrap) (old : State) (command : RevokerCommand) → (answer : RevokerReply) × (new : State) × RevokerStepAfter t old command answer new
after_one None old command = effect_one old command
after_one (Some t) old command = (reply.Trap t, old, (refl, refl))

pub Step-one : (old : State) (command : RevokerCommand) → (answer : RevokerReply) × (new : State) × RevokerStep old command answer new
Step-one old command = after_one (first_failed_check (revoker_checks old command)) old command

effect_only : (old : State) (command : RevokerCommand) (answer other : RevokerReply) (new left : State) → RevokerEffect old command answer new → RevokerEffect old command other left → (answer ≡ other) × (new ≡ left)
effect_only old Paint answer other new left p q = (p.0 ∙ sym q.0, p.1 ∙ sym q.1)
effect_only old (Visit page) answer other new left p q = (p.0 ∙ sym q.0, p.1 ∙ sym q.1)
effect_only old (UntagGranule address) answer other new left p q = (p.0 ∙ sym q.0, p.1 ∙ sym q.1)
effect_only old (UntagRegister r) answer other new left p q = (p.0 ∙ sym q.0, p.1 ∙ sym q.1)
effect_only old Release answer other new left p q = (p.0 ∙ sym q.0, p.1 ∙ sym q.1)

after_only : (t : Option RevokerTrap) (old : State) (command : RevokerCommand) (answer other : RevokerReply) (new left : State)
    → RevokerStepAfter t old command answer new → RevokerStepAfter t old command other left → (answer ≡ other) × (new ≡ left)
after_only None old command answer other new left p q = effect_only old command answer other new left p q
after_only (Some t) old command answer other new left p q = (p.0 ∙ sym q.0, p.1 ∙ sym q.1)

pub Step-only : (old : State) (command : RevokerCommand) (answer other : RevokerReply) (new left : State) → RevokerStep old command answer new → RevokerStep old command other left → (answer ≡ other) × (new ≡ left)
Step-only old command answer other new left p q = after_only (first_failed_check (revoker_checks old command)) old command answer other new left p q

-- ---- one granule

pub Untag-alone : (old : State) (address : ℕ) (answer : RevokerReply) (new : State) (i : ℕ) → RevokerStep old (UntagGranule address) answer new → (i ≡ (address - old.heap.base) / 16 → ⊥)
    → get_or new.granules i (0, false) ≡ get_or old.granules i (0, false)
Untag-alone old address answer new i step other =
    elim (Step-revokes old (UntagGranule address) answer new step) [
      | inl done ↦
          ap (λ (s : State). get_or s.granules i (0, false)) done.state ∙ get_or-changed (swept_granule old.heap.painted) (0, false) refl (is_at old address) old.granules i
          ∙ ap (λ b. cond b (swept_granule old.heap.painted (get_or old.granules i (0, false))) (get_or old.granules i (0, false))) (apart i ((address - old.heap.base) / 16) other)
      | inr same ↦ ap (λ (s : State). get_or s.granules i (0, false)) same
    ] where
      apart : (a b : ℕ) → (a ≡ b → ⊥) → eqb a b ≡ false
      apart a b differs = false_from_ne_true (eqb a b) (λ e. differs (eqb-true a b e))

-- ---- what the replies tell

below : (a b : ℕ) → a < b → eqb a b ≡ false
below a b lt = grind (arith, nat_tests, lt)

-- In an open epoch a visit leaves this, also where there is no such page.
pub Visit-is : (old : State) (page : ℕ) (answer : RevokerReply) (new : State) → old.heap.is_open ≡ true → RevokerStep old (Visit page) answer new
    → (new ≡ after_untag (is_in_page page) old) × (cleared_by answer ≡ untag_takes (is_in_page page) old)
Visit-is old page answer new opened step = go old.heap.is_open (nat_lt (256 * page) (length old.granules)) opened refl step where
  none : nat_lt (256 * page) (length old.granules) ≡ false → (i : ℕ) → i < length old.granules → is_in_page page i ≡ false
  none past i lt =
      let end : length old.granules ≤ 256 * page = grind (arith, nat_tests, past) in
      below (i / 256) page (omega (arith, end, lt))

  go : (b c : Bool) → b ≡ true → nat_lt (256 * page) (length old.granules) ≡ c → RevokerStepAfter (cond b (cond c None (Some trap.Bounds)) (Some trap.NotOpen)) old (Visit page) answer new
      → (new ≡ after_untag (is_in_page page) old) × (cleared_by answer ≡ untag_takes (is_in_page page) old)
  go true true e f step = (step.1, ap cleared_by step.0)
  go true false e f step =
      let takes : Granule → Bool = λ g. takes_tag old.heap.painted (cell_of g) in (
        step.1 ∙ (λ j. record old { granules = sym (changed-within (swept_granule old.heap.painted) (is_in_page page) old.granules (none f)) j }),
        ap cleared_by step.0 ∙ sym (count-within takes (is_in_page page) old.granules (none f)),
      )
  go false c e f step = absurd (true≢false (sym e))

-- A step that took tags did so.
pub Cleared-visit : (old : State) (page cleared : ℕ) (new : State) → RevokerStep old (Visit page) (Cleared cleared) new → Revokes old (Visit page) new
Cleared-visit old page cleared new step = go old.heap.is_open (nat_lt (256 * page) (length old.granules)) refl step where
  go : (b c : Bool) → old.heap.is_open ≡ b → RevokerStepAfter (cond b (cond c None (Some trap.Bounds)) (Some trap.NotOpen)) old (Visit page) (Cleared cleared) new → Revokes old (Visit page) new
  go true true e step = record { may = e; state = step.1 }
  go true false e step = absurd cc
  go false c e step = absurd cc

pub Cleared-untag : (old : State) (address cleared : ℕ) (new : State) → RevokerStep old (UntagGranule address) (Cleared cleared) new
    → (old.heap.is_open ≡ true) × (new ≡ after_untag (is_at old address) old) × (cleared ≡ untag_takes (is_at old address) old)
Cleared-untag old address cleared new step = go old.heap.is_open (nat_le old.heap.base address && nat_lt address (old.heap.base + old.heap.size)) (eqb (address % 16) 0) refl step where
  go : (b c d : Bool) → old.heap.is_open ≡ b → RevokerStepAfter (cond b (cond c (cond d None (Some trap.Align)) (Some trap.Bounds)) (Some trap.NotOpen)) old (UntagGranule address) (Cleared cleared) new
      → (old.heap.is_open ≡ true) × (new ≡ after_untag (is_at old address) old) × (cleared ≡ untag_takes (is_at old address) old)
  go true true true e step = (e, step.1, ap cleared_by step.0)
  go true true false e step = absurd cc
  go true false d e step = absurd cc
  go false c d e step = absurd cc

-- In an open epoch an untag of a register leaves this.
pub Register-is : (old : State) (r : ℕ) (answer : RevokerReply) (new : State) → old.heap.is_open ≡ true → RevokerStep old (UntagRegister r) answer new
    → (new ≡ after_untag_registers (is_register r) old) × (cleared_by answer ≡ untag_registers_takes (is_register r) old)
Register-is old r answer new opened step = go old.heap.is_open opened step where
  go : (b : Bool) → b ≡ true → RevokerStepAfter (cond b None (Some trap.NotOpen)) old (UntagRegister r) answer new
      → (new ≡ after_untag_registers (is_register r) old) × (cleared_by answer ≡ untag_registers_takes (is_register r) old)
  go true e step = (step.1, ap cleared_by step.0)
  go false e step = absurd (true≢false (sym e))

-- In a closed one a paint leaves this.
pub Paint-is : (old : State) (answer : RevokerReply) (new : State) → old.heap.is_open ≡ false → RevokerStep old Paint answer new → new ≡ after_paint old
Paint-is old answer new closed step = go old.heap.is_open closed step where
  go : (b : Bool) → b ≡ false → RevokerStepAfter (cond (not b) None (Some trap.Open)) old Paint answer new → new ≡ after_paint old
  go true e step = absurd (true≢false e)
  go false e step = step.1

-- Where nothing is left in an open epoch, the painted blocks may be released.
pub releases : (s : State) → s.heap.is_open ≡ true → IsNothingLeft s s.heap.painted → RevokerStep s Release (Released (bytes_in s.heap.painted)) (after_release s)
releases s opened left = go s.heap.is_open (eqb (tags_left s) 0) opened (is_zero (tags_left s) (tags_left-none s left)) where
  is_zero : (n : ℕ) → n ≡ 0 → eqb n 0 ≡ true
  is_zero n e = ap (λ m. eqb m 0) e

  go : (b c : Bool) → b ≡ true → c ≡ true → RevokerStepAfter (cond b (cond c None (Some trap.Left)) (Some trap.NotOpen)) s Release (Released (bytes_in s.heap.painted)) (after_release s)
  go true true e f = (refl, refl)
  go true false e f = absurd (true≢false (sym f))
  go false c e f = absurd (true≢false (sym e))

pub Released-is : (old : State) (bytes : ℕ) (new : State) → RevokerStep old Release (Released bytes) new → Revokes old Release new × (bytes ≡ bytes_in old.heap.painted)
Released-is old bytes new step = go old.heap.is_open (eqb (tags_left old) 0) refl refl step where
  released : RevokerReply → ℕ
  released (Released n) = n
  released (Cleared n) = 0
  released Done = 0
  released (reply.Trap t) = 0

  go : (b c : Bool) → old.heap.is_open ≡ b → eqb (tags_left old) 0 ≡ c → RevokerStepAfter (cond b (cond c None (Some trap.Left)) (Some trap.NotOpen)) old Release (Released bytes) new
      → Revokes old Release new × (bytes ≡ bytes_in old.heap.painted)
  go true true e f step = (record { may = (e, counted old (eqb-true (tags_left old) 0 f)); state = step.1 }, ap released step.0)
  go true false e f step = absurd cc
  go false c e f step = absurd cc

-- And a visit that leaves what a visit leaves is one.
pub Visit-step : (old : State) (page cleared : ℕ) (new : State) → old.heap.is_open ≡ true → 256 * page < length old.granules → cleared ≡ untag_takes (is_in_page page) old → new ≡ after_untag (is_in_page page) old
    → RevokerStep old (Visit page) (Cleared cleared) new
Visit-step old page cleared new opened inside taken left = go old.heap.is_open (nat_lt (256 * page) (length old.granules)) opened within where
  within : nat_lt (256 * page) (length old.granules) ≡ true
  within = grind (arith, nat_tests, inside)

  go : (b c : Bool) → b ≡ true → c ≡ true → RevokerStepAfter (cond b (cond c None (Some trap.Bounds)) (Some trap.NotOpen)) old (Visit page) (Cleared cleared) new
  go true true e f = (ap Cleared taken, left)
  go true false e f = absurd (true≢false (sym f))
  go false c e f = absurd (true≢false (sym e))
