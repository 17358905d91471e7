-- A whole epoch of a revoker with a barrier at loads.
use Rattle.std.proofs.Common.{◌≡◌, ◌∙◌, ◌<◌, ◌*◌, ℕ, Bool, true, false, inl, inr, List, [], ◌∷◌, length, get_or, set, replicate, refl, sym, ap, subst, arith}
use Rattle.std.proofs.lemmas.Bool.{cases_eq, cases_lt, true≢false}
use Rattle.std.proofs.lemmas.List.{get_or-set_other, get_or-set_same, get_or_past, length-replicate, length-set}
use Rattle.std.proofs.lemmas.List.Elements.{All-from_get_or}
use Rattle.heap_model.specs.Blocks.{bytes_in}
use Rattle.heap_model.specs.Quarantine.{with_epoch}
use Rattle.heap_model.specs.Sweep.{swept_cell, swept_granule}
use Rattle.trace_text.specs.declared.trace.Command.{Command}
use Rattle.heap_reply.specs.declared.reply.Reply.{Reply}
use Rattle.machine_steps.specs.Dirty.{HasPages}
use Rattle.machine_steps.specs.Follow.{Follows}
use Rattle.machine_steps.specs.Safety.{FitsTypes, IsSafe}
use Rattle.machine_steps.specs.Sound.{IsMachine}
use Rattle.machine_steps.specs.State.{State}
use Rattle.revoker_steps.specs.declared.command.RevokerCommand.TheVariants.{Paint, Release, UntagGranule, UntagRegister, Visit}
use Rattle.revoker_steps.specs.declared.command.RevokerReply.{RevokerReply}
use Rattle.revoker_steps.specs.declared.command.RevokerReply.TheVariants.{Released}
use Rattle.revoker_steps.specs.Barred.{AreSeen, HappensBarred, IsBarred, RunsBarred, after_start, in_seen}
use Rattle.revoker_steps.specs.Events.{CoverMemory, CoverRegisters, Event, IsAmong, Runs, is_one, register_untags, visits}
use Rattle.revoker_steps.specs.Events.Event.{Answered, Revoked}
use Rattle.revoker_steps.specs.Events.IsAmong.{first, later}
use Rattle.revoker_steps.specs.Revoker.{RevokerStep, after_paint, after_release, after_untag, after_untag_registers, is_at, is_in_page, is_register}
use Rattle.revoker_steps.proofs.BarredLaws.{Follows-barred, IsBarred-fewer, IsBarred-start, IsBarred-untag, IsBarred-untag_registers, IsBarred-visit, IsNothingLeft-seen, WordLaws}
use Rattle.revoker_steps.specs.ChangedLaws.{changed-all, length-changed}
use Rattle.revoker_steps.proofs.PassLaws.{Runs-register_untags, covers_registers, or_left}
use Rattle.revoker_steps.proofs.RevokerLaws.{EpochLaws, after-machine, untagged-machine, untagged_registers-machine}
use Rattle.revoker_steps.proofs.ShapeLaws.{Follows-shape, IsMachine-shape}
use Rattle.revoker_steps.proofs.StepLaws.{Paint-is, Register-is, Step-revokes, Visit-is, releases}

-- What the crates below say of commands.
abbrev pub FollowsSafe : Type 0
FollowsSafe = (old : State) (command : Command) (reply : Reply) (new : State) → IsSafe old → FitsTypes command → Follows old command reply new → IsSafe new

-- What holds all through an epoch.
pub record IsEpoch (s : State) (seen : List Bool) : Type 0 where
  pub machine : IsMachine s
  pub is_open : s.heap.is_open ≡ true
  pub pages : HasPages s seen
  pub barred : IsBarred s seen

-- ---- an event

-- After an untag of granules.
untagged-epoch : (test : ℕ → Bool) (old : State) (seen left : List Bool) → IsEpoch old seen → length left ≡ length seen → IsBarred (after_untag test old) left → IsEpoch (after_untag test old) left
untagged-epoch test old seen left epoch marks barred = record {
  machine = untagged-machine test old epoch.machine;
  is_open = epoch.is_open;
  pages = omega (arith, epoch.pages, length-changed (swept_granule old.heap.painted) test old.granules, marks);
  barred = barred;
}

Happens-epoch : WordLaws → FollowsSafe → (old : State) (seen : List Bool) (event : Event) (new : State) (left : List Bool) → IsEpoch old seen → HappensBarred Follows old seen event new left → IsEpoch new left
Happens-epoch words keeps old seen (Answered command reply) new left epoch (loads, fits, step, opened, marks) =
    let shape = Follows-shape old command reply new step in
    let safe = keeps old command reply new epoch.machine.safe fits step in
    subst (IsEpoch new) (sym marks) (record {
      machine = IsMachine-shape old new shape epoch.machine safe;
      is_open = opened;
      pages = shape.granules ∙ epoch.pages;
      barred = Follows-barred words old (in_seen seen) command reply new epoch.machine.safe fits epoch.is_open epoch.barred loads step;
    })
Happens-epoch words keeps old seen (Revoked Paint reply) new left epoch happens = absurd happens
Happens-epoch words keeps old seen (Revoked Release reply) new left epoch happens = absurd happens
Happens-epoch words keeps old seen (Revoked (UntagGranule address) reply) new left epoch (step, marks) =
    subst (IsEpoch new) (sym marks) (elim (Step-revokes old (UntagGranule address) reply new step) [
      | inl done ↦
          let barred = IsBarred-fewer _ _ (in_seen seen) (λ k e. or_left (in_seen seen k) (is_at old address k) e) (IsBarred-untag (is_at old address) old (in_seen seen) epoch.barred) in
          subst (λ (s : State). IsEpoch s seen) (sym done.state) (untagged-epoch (is_at old address) old seen seen epoch refl barred)
      | inr same ↦ subst (λ (s : State). IsEpoch s seen) (sym same) epoch
    ])
Happens-epoch words keeps old seen (Revoked (UntagRegister r) reply) new left epoch (step, marks) =
    subst (IsEpoch new) (sym marks) (subst (λ (s : State). IsEpoch s seen) (sym (Register-is old r reply new epoch.is_open step).0) (record {
      machine = untagged_registers-machine (is_register r) old epoch.machine;
      is_open = epoch.is_open;
      pages = epoch.pages;
      barred = IsBarred-untag_registers (is_register r) old (in_seen seen) epoch.barred;
    }))
Happens-epoch words keeps old seen (Revoked (Visit page) reply) new left epoch (step, marks) =
    let barred = IsBarred-visit page old seen epoch.barred in
    subst (IsEpoch new) (sym marks)
    (subst (λ (s : State). IsEpoch s (set seen page true)) (sym (Visit-is old page reply new epoch.is_open step).0)
    (untagged-epoch (is_in_page page) old seen (set seen page true) epoch (length-set seen page true) barred))

Runs-epoch : WordLaws → FollowsSafe → (old : State) (seen : List Bool) (events : List Event) (new : State) (left : List Bool) → IsEpoch old seen → RunsBarred Follows old seen events new left → IsEpoch new left
Runs-epoch words keeps old seen [] new left epoch (same, marks) = subst (λ (s : State). IsEpoch s left) (sym same) (subst (IsEpoch old) (sym marks) epoch)
Runs-epoch words keeps old seen (event ∷ events) new left epoch (mid, between, happens, rest) =
    Runs-epoch words keeps mid between events new left (Happens-epoch words keeps old seen event mid between epoch happens) rest

-- ---- its start, in steps

pub start-is : (By : State → Command → Reply → State → Type 0) (s mid : State) (reply : RevokerReply) (registers : List (ℕ × RevokerReply)) (new : State) → CoverRegisters s registers → s.heap.is_open ≡ false
    → RevokerStep s Paint reply mid → Runs By mid (register_untags registers) new → new ≡ after_start s
start-is By s mid reply registers new cover closed step run =
    let painted = Paint-is s reply mid closed step in
    let all = Runs-register_untags By registers mid new (ap (λ (t : State). t.heap.is_open) painted) run in
    all.0 ∙ ap (after_untag_registers (is_one registers)) painted
    ∙ (λ j. record s { heap = with_epoch s.heap; registers = changed-all (swept_cell s.heap.waiting) (is_one registers) s.registers (covers_registers s registers cover) j })

started : EpochLaws → (s : State) → IsMachine s → s.heap.is_open ≡ false → IsMachine (after_start s)
started laws s is closed =
    let whole : after_untag_registers (λ _. true) (after_paint s) ≡ after_start s =
    λ j. record s { heap = with_epoch s.heap; registers = changed-all (swept_cell s.heap.waiting) (λ _. true) s.registers (λ i lt. refl) j } in
    subst IsMachine whole (untagged_registers-machine (λ _. true) (after_paint s) (after-machine laws s Paint is closed))

-- ---- the whole

pub epoch-is : EpochLaws → WordLaws → FollowsSafe → (first_state : State) (pages : ℕ) (events : List Event) (new : State) (left : List Bool)
    → IsMachine first_state → first_state.heap.is_open ≡ false → length first_state.granules ≡ 256 * pages → RunsBarred Follows (after_start first_state) (replicate pages false) events new left → IsEpoch new left
epoch-is laws words keeps before pages events new left is closed count run =
    let begun : IsEpoch (after_start before) (replicate pages false) = record {
      machine = started laws before is closed;
      is_open = refl;
      pages = count ∙ ap (λ n. 256 * n) (sym (length-replicate pages false));
      barred = IsBarred-start before pages;
    } in
    Runs-epoch words keeps (after_start before) (replicate pages false) events new left begun run

pub epoch-releases : (new : State) (left : List Bool) → IsEpoch new left → AreSeen left → RevokerStep new Release (Released (bytes_in new.heap.painted)) (after_release new)
epoch-releases new left epoch all = releases new epoch.is_open (IsNothingLeft-seen new left epoch.pages all epoch.barred)

-- ---- visits of all pages

abbrev seen_after : List (ℕ × RevokerReply) → List Bool → List Bool
seen_after [] seen = seen
seen_after (it ∷ pages) seen = seen_after pages (set seen it.0 true)

seen_run : (By : State → Command → Reply → State → Type 0) (pages : List (ℕ × RevokerReply)) (s : State) (seen : List Bool) (new : State) → Runs By s (visits pages) new
    → RunsBarred By s seen (visits pages) new (seen_after pages seen)
seen_run By [] s seen new run = (run, refl)
seen_run By (it ∷ pages) s seen new run = (run.0, set seen it.0 true, (run.1, refl), seen_run By pages run.0 (set seen it.0 true) new run.2)

still_seen : (seen : List Bool) (page j : ℕ) → get_or seen j false ≡ true → get_or (set seen page true) j false ≡ true
still_seen seen page j is =
    elim (cases_eq j page) [
      | inl same ↦
          let inside : j < length seen = elim (cases_lt j (length seen)) [
            | inl lt ↦ lt
            | inr past ↦ absurd (true≢false (sym is ∙ get_or_past seen j false past))
          ] in
          subst (λ (k : ℕ). get_or (set seen k true) j false ≡ true) same (get_or-set_same seen j true false inside)
      | inr other ↦ get_or-set_other seen page j true false other ∙ is
    ]

stays_seen : (pages : List (ℕ × RevokerReply)) (seen : List Bool) (j : ℕ) → get_or seen j false ≡ true → get_or (seen_after pages seen) j false ≡ true
stays_seen [] seen j is = is
stays_seen (it ∷ pages) seen j is = stays_seen pages (set seen it.0 true) j (still_seen seen it.0 j is)

comes_seen : (pages : List (ℕ × RevokerReply)) (seen : List Bool) (j : ℕ) → j < length seen → IsAmong pages j → get_or (seen_after pages seen) j false ≡ true
comes_seen [] seen j lt among = elim among [ ]
comes_seen (it ∷ pages) seen j lt (first _ _ _ same) =
    stays_seen pages (set seen it.0 true) j (subst (λ (k : ℕ). get_or (set seen k true) j false ≡ true) (sym same) (get_or-set_same seen j true false lt))
comes_seen (it ∷ pages) seen j lt (later _ _ _ among) = comes_seen pages (set seen it.0 true) j (omega (arith, lt, length-set seen it.0 true)) among

length-seen_after : (pages : List (ℕ × RevokerReply)) (seen : List Bool) → length (seen_after pages seen) ≡ length seen
length-seen_after [] seen = refl
length-seen_after (it ∷ pages) seen = length-seen_after pages (set seen it.0 true) ∙ length-set seen it.0 true

pub finishes : (By : State → Command → Reply → State → Type 0) (s : State) (seen : List Bool) (pages : List (ℕ × RevokerReply)) (new : State) → HasPages s seen → CoverMemory s pages → Runs By s (visits pages) new
    → (left : List Bool) × RunsBarred By s seen (visits pages) new left × AreSeen left
finishes By s seen pages new marks cover run = (
  seen_after pages seen,
  seen_run By pages s seen new run,
  All-from_get_or (λ b. b ≡ true) (seen_after pages seen) false
      (λ j lt.
      let inside : j < length seen = omega (arith, lt, length-seen_after pages seen) in
      comes_seen pages seen j inside (cover j (omega (arith, inside, marks)))),
)
