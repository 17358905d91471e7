-- What holds of a revoker with a barrier, after each of its steps.
use Rattle.std.proofs.Common.{◌≡◌, ◌∙◌, ◌+◌, ◌*◌, ◌^◌, ◌<◌, ◌≤◌, ◌/◌, ◌&&◌, ◌⊎◌, ◌++◌, ℕ, Bool, true, false, cond, not, Option, Some, None, inl, inr, List, [], ◌∷◌, length, get_or, set, replicate, refl, sym, ap, subst, arith}
use Rattle.std.specs.Prelude.{All, nat_lt}
use Rattle.std.proofs.Math.Bool.{and-false}
use Rattle.std.proofs.lemmas.Bool.{cases_eq, cases_lt, true≢false}
use Rattle.std.proofs.lemmas.Bool.Decides.{nat_tests}
use Rattle.std.proofs.lemmas.List.{append_assoc, get_or-set_other, get_or-set_same, get_or_past, length-replicate, length-set}
use Rattle.std.proofs.lemmas.List.Elements.{All-from_get_or}
use Rattle.heap_model.specs.Sweep.{swept_granule}
use Rattle.sweep_masks.specs.Tasks.{Cut}
use Rattle.tag_memory.specs.Cells.{marks_after}
use Rattle.trace_text.specs.declared.trace.Command.{Command}
use Rattle.trace_text.specs.declared.trace.Command.TheVariants.{Malloc, Free, Copy, SetAddr, Narrow, AndPerm, StoreCap, LoadCap, Write, Show, Sweep, Begin, End}
use Rattle.heap_reply.specs.declared.reply.Reply.{Reply}
use Rattle.heap_reply.specs.declared.reply.Trap.{Trap}
use Rattle.machine_steps.specs.Dirty.{HasPages, dirty_after, dirty_by}
use Rattle.machine_steps.specs.Follow.{Follows}
use Rattle.machine_steps.specs.Safety.{FitsTypes, IsSafe}
use Rattle.machine_steps.specs.State.{State, register}
use Rattle.machine_steps.specs.Step.{Step, checks, first_failed, index_in}
use Rattle.revoker_steps.specs.Barred.{AreSeen, IsBarred, IsBarredAt, LoadsDone, LoadsSeen, after_start, in_seen, is_seen}
use Rattle.revoker_steps.specs.ChangedLaws.{length-changed}
use Rattle.revoker_steps.specs.declared.command.RevokerCommand.TheVariants.{Paint, Release, Visit}
use Rattle.revoker_steps.specs.declared.command.RevokerReply.{RevokerReply}
use Rattle.revoker_steps.specs.declared.command.RevokerReply.TheVariants.{Cleared, Released}
use Rattle.revoker_steps.specs.declared.command.RevokerTrap.{RevokerTrap}
use Rattle.revoker_steps.specs.Events.{CoverRegisters, Event, Runs, cleared_by, register_untags, visits}
use Rattle.revoker_steps.specs.Events.Event.{Revoked}
use Rattle.revoker_steps.specs.Revoker.{RevokerStep, RevokerStepAfter, after_untag, first_failed_check, is_in_page, revoker_checks, untag_takes}
use Rattle.revoker_steps.specs.RevokerDirty.{revoker_dirty_after}
use Rattle.revokers.specs.Acts.{visit_acts}
use Rattle.revokers.specs.declared.acts.Act.{Act}
use Rattle.revokers.specs.declared.ending.Finished.{Finished}
use Rattle.revokers.specs.Ending.{Untags, Visits}
use Rattle.revokers.specs.Reloaded.{FinishesSeen, IsEpoch, IsLooked, IsReloaded, ReloadedState, is_unseen, seen_by}
use Rattle.revokers.specs.Seen.{LooksAt}
use Rattle.revokers.proofs.EndingLaws.{VisitsBelow, VisitsBelow-next, VisitsBelow-none, VisitsBelow-passed, Visit-cleans, VisitsBelow-visits, visit_passes}
use Rattle.revokers.proofs.ListLaws.{Runs-append, untags-follow}

-- ---- a visit

-- What the crate below says of a visit that took tags.
abbrev pub VisitsBarred : Type 0
VisitsBarred = (old : State) (seen : List Bool) (page cleared : ℕ) (new : State) → IsBarred old seen → RevokerStep old (Visit page) (Cleared cleared) new → IsBarred new (set seen page true)

-- It takes tags, or is trapped.
visit-either : (s : State) (page : ℕ) (reply : RevokerReply) (new : State) (seen : List Bool) → RevokerStep s (Visit page) reply new
    → ((reply ≡ Cleared (untag_takes (is_in_page page) s)) × (new ≡ after_untag (is_in_page page) s)) ⊎ ((new ≡ s) × (seen_by reply page seen ≡ seen))
visit-either s page reply new seen step = go (first_failed_check (revoker_checks s (Visit page))) step where
  go : (t : Option RevokerTrap) → RevokerStepAfter t s (Visit page) reply new
      → ((reply ≡ Cleared (untag_takes (is_in_page page) s)) × (new ≡ after_untag (is_in_page page) s)) ⊎ ((new ≡ s) × (seen_by reply page seen ≡ seen))
  go None step = inl (step.0, step.1)
  go (Some t) step = inr (step.1, ap (λ r. seen_by r page seen) step.0)

visited-granules : (s : State) (page : ℕ) → length (after_untag (is_in_page page) s).granules ≡ length s.granules
visited-granules s page = length-changed (swept_granule s.heap.painted) (is_in_page page) s.granules

pub IsReloaded-visited : VisitsBarred → (s : State) (seen : List Bool) (is_started : Bool) (page : ℕ) (reply : RevokerReply) (new : State) → IsReloaded s seen is_started
    → RevokerStep s (Visit page) reply new → IsReloaded new (seen_by reply page seen) is_started
IsReloaded-visited visited s seen is_started page reply new is step =
    elim (visit-either s page reply new seen step) [
      | inl done ↦
          let n : ℕ = untag_takes (is_in_page page) s in
          let taken : RevokerStep s (Visit page) (Cleared n) new = subst (λ (r : RevokerReply). RevokerStep s (Visit page) r new) done.0 step in
          subst (λ (r : RevokerReply). IsReloaded new (seen_by r page seen) is_started) (sym done.0) (record {
            pages = omega (arith, is.pages, ap (λ (t : State). length t.granules) done.1, visited-granules s page, length-set seen page true);
            epoch = λ started. record {
              is_open = ap (λ (t : State). t.heap.is_open) done.1 ∙ (is.epoch started).is_open;
              barred = visited s seen page n new (is.epoch started).barred taken;
            };
          })
      | inr same ↦ subst (λ (marks : List Bool). IsReloaded new marks is_started) (sym same.1) (subst (λ (t : State). IsReloaded t seen is_started) (sym same.0) is)
    ]

-- In an open epoch a visit of a page of the heap takes tags.
pub Visit-takes : (s : State) (page : ℕ) (reply : RevokerReply) (new : State) → s.heap.is_open ≡ true → 256 * page < length s.granules → RevokerStep s (Visit page) reply new → reply ≡ Cleared (cleared_by reply)
Visit-takes s page reply new opened inside step =
    let done = subst (λ (t : Option RevokerTrap). RevokerStepAfter t s (Visit page) reply new) (visit_passes s page opened inside) step in
    done.0 ∙ ap (λ (r : RevokerReply). Cleared (cleared_by r)) (sym done.0)

-- ---- the start, and the release

pub IsReloaded-started : ((s : State) (pages : ℕ) → IsBarred (after_start s) (replicate pages false)) → (s new : State) (seen marks : List Bool) → HasPages s seen → new ≡ after_start s
    → marks ≡ replicate (length seen) false → IsReloaded new marks true
IsReloaded-started start s new seen marks pages state unseen =
    subst (λ (t : State). IsReloaded t marks true) (sym state) (subst (λ (xs : List Bool). IsReloaded (after_start s) xs true) (sym unseen) (record {
      pages = pages ∙ ap (λ n. 256 * n) (sym (length-replicate (length seen) false));
      epoch = λ _. record { is_open = refl; barred = start s (length seen) };
    }))

pub IsReloaded-released : (s : State) (seen : List Bool) (is_started : Bool) (reply : RevokerReply) (new : State) → IsReloaded s seen is_started → RevokerStep s Release reply new → IsReloaded new seen false
IsReloaded-released s seen is_started reply new is step = record {
  pages = go (first_failed_check (revoker_checks s Release)) step ∙ is.pages;
  epoch = λ e. absurd (true≢false (sym e));
} where
  go : (t : Option RevokerTrap) → RevokerStepAfter t s Release reply new → length new.granules ≡ length s.granules
  go None step = ap (λ (t : State). length t.granules) step.1
  go (Some t) step = ap (λ (t : State). length t.granules) step.1

-- ---- a command

marks-length : (marks : List Bool) (i : ℕ) (tag : Bool) → length (marks_after marks i tag) ≡ length marks
marks-length marks i true = length-set marks (i / 256) true
marks-length marks i false = refl

dirty-length : (t : Option Trap) (s : State) (c : Command) (dirty : List Bool) → length (dirty_by t s c dirty) ≡ length dirty
dirty-length (Some t) s c dirty = refl
dirty-length None s (StoreCap ra rs) dirty = marks-length dirty (index_in s (register s ra).0) (register s rs).1
dirty-length None s Begin dirty = length-replicate (length dirty) false
dirty-length None s (Malloc rd size) dirty = refl
dirty-length None s (Free rs) dirty = refl
dirty-length None s (Copy rd rs) dirty = refl
dirty-length None s (SetAddr rd rs address) dirty = refl
dirty-length None s (Narrow rd rs n) dirty = refl
dirty-length None s (AndPerm rd rs mask) dirty = refl
dirty-length None s (LoadCap rd ra) dirty = refl
dirty-length None s (Write ra bytes) dirty = refl
dirty-length None s (Show rs) dirty = refl
dirty-length None s Sweep dirty = refl
dirty-length None s End dirty = refl

-- What the crate below says of commands.
abbrev pub KeepsBarred : Type 0
KeepsBarred = (old : State) (done : ℕ → Bool) (command : Command) (reply : Reply) (new : State) → IsSafe old → FitsTypes command → old.heap.is_open ≡ true → IsBarredAt old done → LoadsDone old done command
    → Follows old command reply new → IsBarredAt new done

both : (a b : Bool) → (a && b) ≡ true → (a ≡ true) × (b ≡ true)
both true true e = (refl, refl)
both true false e = absurd (true≢false (sym e))
both false b e = absurd (true≢false (sym e))

pub IsReloaded-done : KeepsBarred → (s : State) (dirty seen : List Bool) (is_started : Bool) (command : Command) (reply : Reply) (new : State) (left : List Bool) → IsReloaded s seen is_started → IsSafe s → FitsTypes command
    → (is_started ≡ true → LoadsSeen s seen command) → Follows s command reply new → HasPages s dirty → HasPages new left → left ≡ dirty_after s command dirty → IsReloaded new seen (is_started && new.heap.is_open)
IsReloaded-done kept s dirty seen is_started command reply new left is safe fits loads step pages marks same = record {
  pages = omega (arith, is.pages, pages, marks, ap (λ (xs : List Bool). length xs) same, dirty-length (first_failed (checks s command)) s command dirty);
  epoch = λ e.
      let on = both is_started new.heap.is_open e in
      let epoch = is.epoch on.0 in
      record { is_open = on.1; barred = kept s (in_seen seen) command reply new safe fits epoch.is_open epoch.barred (loads on.0) step };
}

-- ---- all pages

-- The pages below n that weren't seen were visited, and are seen; the others are as they were.
pub record SeenBelow (old : ReloadedState) (before : List Act) (n cleared : ℕ) (now : ReloadedState) (after : List Act) : Type 0 where
  pub below : VisitsBelow (is_unseen old.seen) old.machine.state before n cleared now.machine.state after
  pub done : (page : ℕ) → page < n → is_seen now.seen page ≡ true
  pub rest : (page : ℕ) → n ≤ page → is_seen now.seen page ≡ is_seen old.seen page
  pub marks : length now.seen ≡ length old.seen
  pub started : now.is_started ≡ true
  pub cutting : now.machine.cutting ≡ old.machine.cutting

pub SeenBelow-none : (old : ReloadedState) (before : List Act) → old.is_started ≡ true → old.machine.state.heap.is_open ≡ true → SeenBelow old before 0 0 old before
SeenBelow-none old before started opened = record {
  below = VisitsBelow-none (is_unseen old.seen) old.machine.state before opened;
  done = λ page lt. absurd (omega (arith, lt));
  rest = λ page le. refl;
  marks = refl;
  started = started;
  cutting = refl;
}

unseen-is : (seen : List Bool) (n : ℕ) → n < length seen → is_seen seen n ≡ false → is_unseen seen n ≡ true
unseen-is seen n lt e =
    let inside : nat_lt n (length seen) ≡ true = grind (arith, nat_tests, lt) in
    ap (λ b. nat_lt n (length seen) && not b) e ∙ ap (λ b. b && true) inside

unseen-not : (seen : List Bool) (n : ℕ) → is_seen seen n ≡ true → is_unseen seen n ≡ false
unseen-not seen n e = ap (λ b. nat_lt n (length seen) && not b) e ∙ and-false (nat_lt n (length seen))

pub SeenBelow-next : (old : ReloadedState) (before : List Act) (n cleared more : ℕ) (now : ReloadedState) (told : List Act) (new : ReloadedState) (after : List Act) → HasPages old.machine.state old.seen → n < length old.seen
    → SeenBelow old before n cleared now told → LooksAt (is_seen now.seen n) n now told more new after → more < 2 ^ 32 → SeenBelow old before (n + 1) (cleared + more) new after
SeenBelow-next old before n cleared more now told new after pages lt so both few = go (is_seen now.seen n) refl both where
  go : (b : Bool) → is_seen now.seen n ≡ b → LooksAt b n now told more new after → SeenBelow old before (n + 1) (cleared + more) new after
  go false e both =
      let looks = both.0 in
      let inside : 256 * n < length old.machine.state.granules = omega (arith, lt, pages) in
      let was : is_unseen old.seen n ≡ true = unseen-is old.seen n lt (sym (so.rest n (omega arith)) ∙ e) in
      record {
        below = VisitsBelow-next (is_unseen old.seen) old.machine.state before n cleared more now.machine.state told (Cleared more) new.machine.state after so.below was inside looks.step refl few both.1;
        done = λ page below. ap (λ (marks : List Bool). get_or marks page false) looks.seen ∙ (elim (cases_eq page n) [
          | inl same ↦ ap (λ k. get_or (set now.seen n true) k false) same ∙ get_or-set_same now.seen n true false (omega (arith, lt, so.marks))
          | inr other ↦ get_or-set_other now.seen n page true false other ∙ so.done page (omega (arith, below, other))
        ]);
        rest = λ page above. ap (λ (marks : List Bool). get_or marks page false) looks.seen ∙ get_or-set_other now.seen n page true false (λ same. absurd (omega (arith, above, same))) ∙ so.rest page (omega (arith, above));
        marks = ap (λ (marks : List Bool). length marks) looks.seen ∙ length-set now.seen n true ∙ so.marks;
        started = looks.started ∙ so.started;
        cutting = looks.cutting ∙ so.cutting;
      }
  go true e looks =
      let sums : cleared ≡ cleared + more = omega (arith, looks.0) in
      subst (λ (acts : List Act). SeenBelow old before (n + 1) (cleared + more) new acts) (sym looks.2)
      (subst (λ (m : ReloadedState). SeenBelow old before (n + 1) (cleared + more) m told) (sym looks.1) (subst (λ (k : ℕ). SeenBelow old before (n + 1) k now told) sums (record {
        below = VisitsBelow-passed (is_unseen old.seen) old.machine.state before n cleared now.machine.state told so.below (unseen-not old.seen n (sym (so.rest n (omega arith)) ∙ e));
        done = λ page below. elim (cases_eq page n) [
          | inl same ↦ ap (λ k. get_or now.seen k false) same ∙ e
          | inr other ↦ so.done page (omega (arith, below, other))
        ];
        rest = λ page above. so.rest page (omega (arith, above));
        marks = so.marks;
        started = so.started;
        cutting = so.cutting;
      })))

pub SeenBelow-visits : (old : ReloadedState) (before : List Act) (n cleared : ℕ) (now : ReloadedState) (after : List Act) → n ≡ length old.seen → SeenBelow old before n cleared now after
    → Visits (is_unseen old.seen) old.machine.state before cleared now.machine.state after
SeenBelow-visits old before n cleared now after count so =
    VisitsBelow-visits (is_unseen old.seen) old.machine.state before n cleared now.machine.state after so.below
    (λ page le. let out : nat_lt page (length old.seen) ≡ false = grind (arith, nat_tests, le, count) in ap (λ b. b && not (is_seen old.seen page)) out)

pub SeenBelow-seen : (old : ReloadedState) (before : List Act) (n cleared : ℕ) (now : ReloadedState) (after : List Act) → n ≡ length old.seen → SeenBelow old before n cleared now after → AreSeen now.seen
SeenBelow-seen old before n cleared now after count so = All-from_get_or (λ b. b ≡ true) now.seen false (λ page lt. so.done page (omega (arith, lt, so.marks, count)))

-- ---- the whole

pub finishes_seen : (seen : List Bool) (old visited new : State) (cleared bytes : ℕ) (before one after : List Act) → Visits (is_unseen seen) old before cleared visited one → RevokerStep visited Release (Released bytes) new
    → after ≡ one ++ record { command = Release; reply = Released bytes } ∷ [] → FinishesSeen seen old before (record { cleared = cleared; bytes = bytes }) new after
finishes_seen seen old visited new cleared bytes before one after first step tells =
    let act : Act = record { command = Release; reply = Released bytes } in
    let last : List Event = Revoked Release (Released bytes) ∷ [] in
    record {
      pages = first.pages;
      steps = Runs-append Step old visited new (visits first.pages) last first.steps (new, step, refl);
      all_pages = first.all;
      only_pages = first.only;
      cleared = first.count;
      told = tells ∙ ap (λ (acts : List Act). acts ++ act ∷ []) first.told ∙ append_assoc before (visit_acts first.pages) (act ∷ []);
    }

-- ---- parts of the code

-- After the paint and the untags an epoch has started.
pub start-after : ((s mid : State) (reply : RevokerReply) (registers : List (ℕ × RevokerReply)) (new : State) → CoverRegisters s registers → s.heap.is_open ≡ false → RevokerStep s Paint reply mid
    → Runs Follows mid (register_untags registers) new → new ≡ after_start s)
    → (s mid : State) (reply : RevokerReply) (before : List Act) (cleared : ℕ) (new : State) (after : List Act) → length s.registers ≡ 32 → s.heap.is_open ≡ false → RevokerStep s Paint reply mid → Untags mid before cleared new after
    → new ≡ after_start s
start-after law s mid reply before cleared new after count closed step untags =
    law s mid reply untags.registers new (λ r lt. untags.all r (omega (arith, lt, count))) closed step (untags-follow mid new untags.registers untags.steps)

-- A visit that was made in an open epoch, as `visit` says it.
pub IsLooked-visited : (page : ℕ) (old : ReloadedState) (cleared : ℕ) (reply : RevokerReply) (new : ReloadedState) → old.machine.state.heap.is_open ≡ true → 256 * page < length old.machine.state.granules
    → RevokerStep old.machine.state (Visit page) reply new.machine.state → new.seen ≡ seen_by reply page old.seen → new.is_started ≡ old.is_started → new.machine.cutting ≡ old.machine.cutting
    → new.machine.dirty ≡ revoker_dirty_after old.machine.state (Visit page) old.machine.dirty → cleared ≡ cleared_by reply → IsLooked page old cleared new
IsLooked-visited page old cleared reply new opened inside step seen started cutting dirty count =
    let takes : reply ≡ Cleared cleared = Visit-takes old.machine.state page reply new.machine.state opened inside step ∙ ap (λ n. Cleared n) (sym count) in
    record {
      step = subst (λ (r : RevokerReply). RevokerStep old.machine.state (Visit page) r new.machine.state) takes step;
      seen = seen ∙ ap (λ (r : RevokerReply). seen_by r page old.seen) takes;
      started = started;
      cutting = cutting;
      dirty = dirty ∙ Visit-cleans old.machine.state page old.machine.dirty opened inside;
    }
