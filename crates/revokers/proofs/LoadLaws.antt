-- The barrier before a load.
use Rattle.std.proofs.Common.{◌≡◌, ◌∙◌, ◌*◌, ◌<◌, ◌≤◌, ℕ, Bool, true, false, cond, Option, Some, None, inl, inr, List, [], ◌∷◌, length, get_or, set, refl, sym, ap, subst, arith}
use Rattle.std.specs.Prelude.{nat_lt}
use Rattle.std.proofs.lemmas.Bool.{cases_lt, true≢false}
use Rattle.std.proofs.lemmas.Bool.Decides.{nat_tests}
use Rattle.std.proofs.lemmas.List.{get_or_past, length-set}
use Rattle.trace_text.specs.declared.trace.Command.{Command}
use Rattle.trace_text.specs.declared.trace.Command.TheVariants.{Malloc, Free, Copy, SetAddr, Narrow, AndPerm, StoreCap, LoadCap, Write, Show, Sweep, Begin, End}
use Rattle.heap_reply.specs.declared.reply.Reply.{Reply}
use Rattle.heap_reply.specs.declared.reply.Trap.{Trap}
use Rattle.machine_steps.specs.Dirty.{HasPages}
use Rattle.machine_steps.specs.Safety.{IsUnused}
use Rattle.machine_steps.specs.Sound.{IsMachine}
use Rattle.machine_steps.specs.State.{State}
use Rattle.machine_steps.specs.Step.{NeedsNoMemory, checks, first_failed}
use Rattle.revoker_steps.specs.Barred.{LoadsSeen, is_seen, page_at}
use Rattle.revoker_steps.specs.declared.command.RevokerCommand.TheVariants.{Visit}
use Rattle.revoker_steps.specs.declared.command.RevokerReply.{RevokerReply}
use Rattle.revoker_steps.specs.declared.command.RevokerReply.TheVariants as reply
use Rattle.revoker_steps.specs.declared.command.RevokerTrap.TheVariants as trap
use Rattle.revoker_steps.specs.Revoker.{RevokerStep, RevokerStepAfter, first_failed_check}
use Rattle.revokers.specs.declared.reloaded.Barrier.{Barrier}
use Rattle.revokers.specs.Reloaded.{IsLooked, LooksBefore, ReloadedState, page_before, unseen_page, waits_for}

-- What the crate below says of a visit of the page of a load.
abbrev pub OpensLoad : Type 0
OpensLoad = (old : State) (seen : List Bool) (rd ra : ℕ) (reply : RevokerReply) (new : State) → IsMachine old → HasPages old seen → old.heap.is_open ≡ true → RevokerStep old (Visit (page_at old ra)) reply new
    → LoadsSeen new (set seen (page_at old ra) true) (LoadCap rd ra)

-- A load that isn't trapped is from a page of the heap.
pub page-inside : OpensLoad → (s : State) (seen : List Bool) (rd ra : ℕ) → IsMachine s → HasPages s seen → s.heap.is_open ≡ true → first_failed (checks s (LoadCap rd ra)) ≡ None → page_at s ra < length seen
page-inside opens s seen rd ra is pages opened passed =
    elim (cases_lt (page_at s ra) (length seen)) [
      | inl lt ↦ lt
      | inr past ↦
          let page : ℕ = page_at s ra in
          let out : nat_lt (256 * page) (length s.granules) ≡ false = past_end page (length seen) (length s.granules) pages past in
          let stopped : RevokerStep s (Visit page) (reply.Trap trap.Bounds) s = stops s.heap.is_open (nat_lt (256 * page) (length s.granules)) page opened out in
          let loaded : get_or (set seen page true) page false ≡ true = opens s seen rd ra (reply.Trap trap.Bounds) s is pages opened stopped passed in
          absurd (true≢false (sym loaded ∙ get_or_past (set seen page true) page false (omega (arith, past, length-set seen page true))))
    ] where
      past_end : (page n m : ℕ) → m ≡ 256 * n → n ≤ page → nat_lt (256 * page) m ≡ false
      past_end page n m e le = grind (arith, nat_tests, e, le)

      stops : (b c : Bool) (page : ℕ) → b ≡ true → c ≡ false → RevokerStepAfter (first_failed_check ((b, trap.NotOpen) ∷ (c, trap.Bounds) ∷ [])) s (Visit page) (reply.Trap trap.Bounds) s
      stops true false page e f = (refl, refl)
      stops true true page e f = absurd (true≢false f)
      stops false c page e f = absurd (true≢false (sym e))

-- Only a load waits.
pub data IsLoad : Command → Type 0 where
  load : (rd ra : ℕ) → IsLoad (LoadCap rd ra)

none_waits : (b : Bool) (page : ℕ) → cond b None None ≡ Some page → ⊥
none_waits true page e = absurd cc
none_waits false page e = absurd cc

pub waits-load : (r : ReloadedState) (command : Command) (page : ℕ) → waits_for r command ≡ Some page → IsLoad command
waits-load r (LoadCap rd ra) page e = load rd ra
waits-load r (Malloc rd size) page e = absurd (none_waits r.is_started page e)
waits-load r (Free rs) page e = absurd (none_waits r.is_started page e)
waits-load r (Copy rd rs) page e = absurd (none_waits r.is_started page e)
waits-load r (SetAddr rd rs address) page e = absurd (none_waits r.is_started page e)
waits-load r (Narrow rd rs n) page e = absurd (none_waits r.is_started page e)
waits-load r (AndPerm rd rs mask) page e = absurd (none_waits r.is_started page e)
waits-load r (StoreCap ra rs) page e = absurd (none_waits r.is_started page e)
waits-load r (Write ra bytes) page e = absurd (none_waits r.is_started page e)
waits-load r (Show rs) page e = absurd (none_waits r.is_started page e)
waits-load r Sweep page e = absurd (none_waits r.is_started page e)
waits-load r Begin page e = absurd (none_waits r.is_started page e)
waits-load r End page e = absurd (none_waits r.is_started page e)

load-needs : (s : State) (c : Command) → IsLoad c → NeedsNoMemory s c
load-needs s _ (load rd ra) = record {}

load-unused : (s t : State) (c : Command) (r : Reply) → IsLoad c → IsUnused s c r → IsUnused t c r
load-unused s t _ r (load rd ra) unused = unused

-- What the barrier does needs no memory, and hands out nothing.
pub needs-before : (old : ReloadedState) (command : Command) (barrier : Option Barrier) (mid : ReloadedState) → LooksBefore old command barrier mid → NeedsNoMemory old.machine.state command
    → NeedsNoMemory mid.machine.state command
needs-before old command None mid looks needs = subst (λ (r : ReloadedState). NeedsNoMemory r.machine.state command) (sym looks.1) needs
needs-before old command (Some barrier) mid looks needs = load-needs mid.machine.state command (waits-load old command barrier.page looks.0)

pub unused-before : (old : ReloadedState) (command : Command) (barrier : Option Barrier) (mid : ReloadedState) (r : Reply) → LooksBefore old command barrier mid → IsUnused mid.machine.state command r
    → IsUnused old.machine.state command r
unused-before old command None mid r looks unused = subst (λ (m : ReloadedState). IsUnused m.machine.state command r) looks.1 unused
unused-before old command (Some barrier) mid r looks unused = load-unused mid.machine.state old.machine.state command r (waits-load old command barrier.page looks.0) unused

-- Where a command wants memory, the barrier did nothing.
pub still-before : (old : ReloadedState) (command : Command) (barrier : Option Barrier) (mid : ReloadedState) → LooksBefore old command barrier mid → (NeedsNoMemory mid.machine.state command → ⊥) → mid ≡ old
still-before old command None mid looks wants = looks.1
still-before old command (Some barrier) mid looks wants = absurd (wants (load-needs mid.machine.state command (waits-load old command barrier.page looks.0)))

pub cutting-before : (old : ReloadedState) (command : Command) (barrier : Option Barrier) (mid : ReloadedState) → LooksBefore old command barrier mid → mid.machine.cutting ≡ old.machine.cutting
cutting-before old command None mid looks = ap (λ (r : ReloadedState). r.machine.cutting) looks.1
cutting-before old command (Some barrier) mid looks = looks.1.cutting

-- ---- what the barrier leaves

-- A command that waits for nothing loads from pages that were seen.
pub loads-passed : (s : State) (seen : List Bool) (command : Command) → page_before s seen command ≡ None → LoadsSeen s seen command
loads-passed s seen (LoadCap rd ra) waits = go (first_failed (checks s (LoadCap rd ra))) waits where
  seen_is : (b : Bool) → cond b None (Some (page_at s ra)) ≡ None → b ≡ true
  seen_is true e = refl
  seen_is false e = absurd cc

  go : (t : Option Trap) → unseen_page t seen (page_at s ra) ≡ None → t ≡ None → is_seen seen (page_at s ra) ≡ true
  go None e none = seen_is (is_seen seen (page_at s ra)) e
  go (Some t) e none = absurd cc
loads-passed s seen (Malloc rd size) waits = record {}
loads-passed s seen (Free rs) waits = record {}
loads-passed s seen (Copy rd rs) waits = record {}
loads-passed s seen (SetAddr rd rs address) waits = record {}
loads-passed s seen (Narrow rd rs n) waits = record {}
loads-passed s seen (AndPerm rd rs mask) waits = record {}
loads-passed s seen (StoreCap ra rs) waits = record {}
loads-passed s seen (Write ra bytes) waits = record {}
loads-passed s seen (Show rs) waits = record {}
loads-passed s seen Sweep waits = record {}
loads-passed s seen Begin waits = record {}
loads-passed s seen End waits = record {}

-- After the page was visited for which it waits, so does one that waits.
pub loads-looked : OpensLoad → (s : State) (seen : List Bool) (command : Command) (page : ℕ) (answer : RevokerReply) (new : State) → IsMachine s → HasPages s seen → s.heap.is_open ≡ true
    → page_before s seen command ≡ Some page → RevokerStep s (Visit page) answer new → LoadsSeen new (set seen page true) command
loads-looked opens s seen (LoadCap rd ra) page answer new is pages opened waits step = at_page (go (first_failed (checks s (LoadCap rd ra))) waits) where
  some_is : (b : Bool) → cond b None (Some (page_at s ra)) ≡ Some page → page_at s ra ≡ page
  some_is true e = absurd cc
  some_is false e = cc

  go : (t : Option Trap) → unseen_page t seen (page_at s ra) ≡ Some page → page_at s ra ≡ page
  go None e = some_is (is_seen seen (page_at s ra)) e
  go (Some t) e = absurd cc

  at_page : page_at s ra ≡ page → LoadsSeen new (set seen page true) (LoadCap rd ra)
  at_page same =
      subst (λ (k : ℕ). LoadsSeen new (set seen k true) (LoadCap rd ra)) same
      (opens s seen rd ra answer new is pages opened (subst (λ (k : ℕ). RevokerStep s (Visit k) answer new) (sym same) step))
loads-looked opens s seen (Malloc rd size) page answer new is pages opened waits step = record {}
loads-looked opens s seen (Free rs) page answer new is pages opened waits step = record {}
loads-looked opens s seen (Copy rd rs) page answer new is pages opened waits step = record {}
loads-looked opens s seen (SetAddr rd rs address) page answer new is pages opened waits step = record {}
loads-looked opens s seen (Narrow rd rs n) page answer new is pages opened waits step = record {}
loads-looked opens s seen (AndPerm rd rs mask) page answer new is pages opened waits step = record {}
loads-looked opens s seen (StoreCap ra rs) page answer new is pages opened waits step = record {}
loads-looked opens s seen (Write ra bytes) page answer new is pages opened waits step = record {}
loads-looked opens s seen (Show rs) page answer new is pages opened waits step = record {}
loads-looked opens s seen Sweep page answer new is pages opened waits step = record {}
loads-looked opens s seen Begin page answer new is pages opened waits step = record {}
loads-looked opens s seen End page answer new is pages opened waits step = record {}

-- In an epoch of the revoker it waits as the state and the marks say.
pub in_epoch : (r : ReloadedState) (command : Command) (waits : Option ℕ) → waits_for r command ≡ waits → r.is_started ≡ true → page_before r.machine.state r.seen command ≡ waits
in_epoch r command waits e started = ap (λ b. cond b (page_before r.machine.state r.seen command) None) (sym started) ∙ e
