-- A whole epoch of a revoker without a barrier: it has to look where it hasn't looked since the paint, and where a tagged word
-- was stored since it did, which `IsDirtied` says with all pages dirty once blocks are painted.
use Rattle.std.proofs.Math.Bool.{and-false}
use Rattle.std.proofs.Common.{◌≡◌, ◌∙◌, ◌<◌, ◌*◌, ◌/◌, ℕ, Bool, true, false, cond, Option, Some, None, inl, inr, List, [], ◌∷◌, length, get_or, map, replicate, refl, sym, ap, subst, arith}
use Rattle.std.specs.Prelude.{slice_set}
use Rattle.std.proofs.Math.ListN.{get_or-map}
use Rattle.std.proofs.lemmas.Bool.{cases_lt, eqb-false, false_from_ne_true, true≢false}
use Rattle.std.proofs.lemmas.List.{get_or-replicate, get_or-set_other, get_or_past, length-replicate, length-set}
use Rattle.std.proofs.lemmas.List.Elements.{All-get_or}
use Rattle.heap_model.specs.Blocks.{Span, bytes_in}
use Rattle.heap_model.specs.Sweep.{swept_cell, swept_granule, takes_tag}
use Rattle.tag_memory.specs.Cells.{Granule, cell_of, marks_after, null_cell}
use Rattle.trace_text.specs.declared.trace.Command.{Command}
use Rattle.trace_text.specs.declared.trace.Command.TheVariants.{Malloc, Free, Copy, SetAddr, Narrow, AndPerm, StoreCap, LoadCap, Write, Show, Sweep, Begin, End}
use Rattle.heap_reply.specs.declared.reply.Reply.{Reply}
use Rattle.heap_reply.specs.declared.reply.Trap.{Trap}
use Rattle.machine_steps.specs.Dirty.{HasPages, IsDirtied, dirty_after, dirty_by}
use Rattle.machine_steps.specs.Follow.{Follows}
use Rattle.machine_steps.specs.State.{State, register}
use Rattle.machine_steps.specs.Step.{checks, first_failed, index_in}
use Rattle.revoker_steps.specs.declared.command.RevokerCommand.{RevokerCommand}
use Rattle.revoker_steps.specs.declared.command.RevokerTrap.{RevokerTrap}
use Rattle.revoker_steps.specs.declared.command.RevokerCommand.TheVariants.{Paint, Release, UntagGranule, UntagRegister, Visit}
use Rattle.revoker_steps.specs.declared.command.RevokerReply.{RevokerReply}
use Rattle.revoker_steps.specs.declared.command.RevokerReply.TheVariants.{Released}
use Rattle.revoker_steps.specs.Events.{CoverRegisters, Event, Runs, is_one, register_untags}
use Rattle.revoker_steps.specs.Events.Event.{Answered, Revoked}
use Rattle.revoker_steps.specs.RevokerDirty.{revoker_dirty_after, revoker_dirty_by}
use Rattle.revoker_steps.specs.Revoker.{IsNothingLeft, RevokerStep, RevokerStepAfter, after_paint, after_release, after_untag, first_failed_check, is_at, is_in_page, revoker_checks}
use Rattle.revoker_steps.specs.Tracked.{AreClean, HappensTracked, RunsTracked}
use Rattle.revoker_steps.specs.ChangedLaws.{changed-all, get_or-changed, length-changed}
use Rattle.revoker_steps.proofs.PassLaws.{Runs-register_untags, covers_registers, spared_swept}
use Rattle.revoker_steps.proofs.ShapeLaws.{Follows-shape}
use Rattle.revoker_steps.proofs.StepLaws.{Paint-is, Register-is, Step-revokes, Visit-is, releases}

-- ---- memory

inside_of : (held : List Span) (granules : List Granule) (i : ℕ) → takes_tag held (cell_of (get_or granules i (0, false))) ≡ true → i < length granules
inside_of held granules i taken =
    elim (cases_lt i (length granules)) [
      | inl lt ↦ lt
      | inr past ↦ absurd (true≢false (sym taken ∙ ap (λ (g : Granule). takes_tag held (cell_of g)) (get_or_past granules i (0, false) past)))
    ]

pub IsDirtied-painted : (s : State) (pages : ℕ) → length s.granules ≡ 256 * pages → IsDirtied (after_paint s) (replicate pages true)
IsDirtied-painted s pages count i taken =
    let lt : i < length s.granules = inside_of s.heap.waiting s.granules i taken in
    get_or-replicate pages (i / 256) true false (omega (arith, lt, count))

-- What is taken after was taken before, elsewhere.
before : (held : List Span) (g : Granule) (b : Bool) → takes_tag held (cell_of (cond b (swept_granule held g) g)) ≡ true → (b ≡ false) × (takes_tag held (cell_of g) ≡ true)
before held g true taken = absurd (true≢false (sym taken ∙ spared_swept held (cell_of g)))
before held g false taken = (refl, taken)

was_taken : (test : ℕ → Bool) (s : State) (i : ℕ) → takes_tag s.heap.painted (cell_of (get_or (after_untag test s).granules i (0, false))) ≡ true
    → (test i ≡ false) × (takes_tag s.heap.painted (cell_of (get_or s.granules i (0, false))) ≡ true)
was_taken test s i taken =
    before s.heap.painted (get_or s.granules i (0, false)) (test i)
    (ap (λ (g : Granule). takes_tag s.heap.painted (cell_of g)) (sym (get_or-changed (swept_granule s.heap.painted) (0, false) refl test s.granules i)) ∙ taken)

IsDirtied-untag : (test : ℕ → Bool) (s : State) (dirty : List Bool) → IsDirtied s dirty → IsDirtied (after_untag test s) dirty
IsDirtied-untag test s dirty stand i taken = stand i (was_taken test s i taken).1

IsDirtied-visited : (s : State) (dirty : List Bool) (page : ℕ) → IsDirtied s dirty → IsDirtied (after_untag (is_in_page page) s) (slice_set dirty page false)
IsDirtied-visited s dirty page stand i taken =
    let was = was_taken (is_in_page page) s i taken in
    get_or-set_other dirty page (i / 256) false false (λ same. eqb-false (i / 256) page was.0 same) ∙ stand i was.1

-- ---- a step

-- Each step keeps that, with its own marks.
pub Step-marked : (old : State) (command : RevokerCommand) (answer : RevokerReply) (new : State) (dirty : List Bool) → HasPages old dirty → IsDirtied old dirty
    → RevokerStep old command answer new → IsDirtied new (revoker_dirty_after old command dirty)
Step-marked old command answer new dirty pages stand step = after (first_failed_check (revoker_checks old command)) command step where
  after : (t : Option RevokerTrap) (c : RevokerCommand) → RevokerStepAfter t old c answer new → IsDirtied new (revoker_dirty_by t c dirty)
  after (Some t) c step = subst (λ (s : State). IsDirtied s dirty) (sym step.1) stand
  after None Paint step = subst (λ (s : State). IsDirtied s (replicate (length dirty) true)) (sym step.1) (IsDirtied-painted old (length dirty) pages)
  after None (Visit page) step = subst (λ (s : State). IsDirtied s (slice_set dirty page false)) (sym step.1) (IsDirtied-visited old dirty page stand)
  after None (UntagGranule address) step = subst (λ (s : State). IsDirtied s dirty) (sym step.1) (IsDirtied-untag (is_at old address) old dirty stand)
  after None (UntagRegister r) step = subst (λ (s : State). IsDirtied s dirty) (sym step.1) stand
  after None Release step = subst (λ (s : State). IsDirtied s dirty) (sym step.1) (λ i taken. absurd (true≢false (sym taken ∙ and-false _)))

-- ---- marks

marks-length : (marks : List Bool) (i : ℕ) (tag : Bool) → length (marks_after marks i tag) ≡ length marks
marks-length marks i true = length-set marks (i / 256) true
marks-length marks i false = refl

dirty-length : (t : Option Trap) (s : State) (c : Command) (dirty : List Bool) → length (dirty_by t s c dirty) ≡ length dirty
dirty-length (Some t) s c dirty = refl
dirty-length None s (StoreCap ra rs) dirty = marks-length dirty (index_in s (register s ra).0) (register s rs).1
dirty-length None s Begin dirty = length-replicate (length dirty) false
dirty-length None s (Malloc rd size) dirty = refl
dirty-length None s (Free rs) dirty = refl
dirty-length None s (Copy rd rs) dirty = refl
dirty-length None s (SetAddr rd rs address) dirty = refl
dirty-length None s (Narrow rd rs n) dirty = refl
dirty-length None s (AndPerm rd rs mask) dirty = refl
dirty-length None s (LoadCap rd ra) dirty = refl
dirty-length None s (Write ra bytes) dirty = refl
dirty-length None s (Show rs) dirty = refl
dirty-length None s Sweep dirty = refl
dirty-length None s End dirty = refl

-- ---- an event

-- What the crates below say of commands.
abbrev pub FollowsDirtied : Type 0
FollowsDirtied = (old : State) (command : Command) (reply : Reply) (new : State) (dirty : List Bool) → HasPages old dirty → IsDirtied old dirty → Follows old command reply new → IsDirtied new (dirty_after old command dirty)

-- What holds all through an epoch.
pub record IsTracked (s : State) (dirty : List Bool) : Type 0 where
  pub is_open : s.heap.is_open ≡ true
  pub pages : HasPages s dirty
  pub dirtied : IsDirtied s dirty

untagged-tracked : (test : ℕ → Bool) (old : State) (dirty left : List Bool) → IsTracked old dirty → length left ≡ length dirty → IsDirtied (after_untag test old) left → IsTracked (after_untag test old) left
untagged-tracked test old dirty left tracked marks stand = record {
  is_open = tracked.is_open;
  pages = omega (arith, tracked.pages, length-changed (swept_granule old.heap.painted) test old.granules, marks);
  dirtied = stand;
}

Happens-tracked : FollowsDirtied → (old : State) (dirty : List Bool) (event : Event) (new : State) (left : List Bool) → IsTracked old dirty → HappensTracked Follows old dirty event new left → IsTracked new left
Happens-tracked keeps old dirty (Answered command reply) new left tracked (fits, step, opened, marks) =
    let shape = Follows-shape old command reply new step in
    let same = dirty-length (first_failed (checks old command)) old command dirty in
    subst (IsTracked new) (sym marks) (record {
      is_open = opened;
      pages = omega (arith, shape.granules, tracked.pages, same);
      dirtied = keeps old command reply new dirty tracked.pages tracked.dirtied step;
    })
Happens-tracked keeps old dirty (Revoked Paint reply) new left tracked happens = absurd happens
Happens-tracked keeps old dirty (Revoked Release reply) new left tracked happens = absurd happens
Happens-tracked keeps old dirty (Revoked (UntagGranule address) reply) new left tracked (step, marks) =
    subst (IsTracked new) (sym marks) (elim (Step-revokes old (UntagGranule address) reply new step) [
      | inl done ↦
          subst (λ (s : State). IsTracked s dirty) (sym done.state) (untagged-tracked (is_at old address) old dirty dirty tracked refl (IsDirtied-untag (is_at old address) old dirty tracked.dirtied))
      | inr same ↦ subst (λ (s : State). IsTracked s dirty) (sym same) tracked
    ])
Happens-tracked keeps old dirty (Revoked (UntagRegister r) reply) new left tracked (step, marks) =
    subst (IsTracked new) (sym marks) (subst (λ (s : State). IsTracked s dirty) (sym (Register-is old r reply new tracked.is_open step).0)
    (record { is_open = tracked.is_open; pages = tracked.pages; dirtied = tracked.dirtied }))
Happens-tracked keeps old dirty (Revoked (Visit page) reply) new left tracked (step, marks) =
    subst (IsTracked new) (sym marks)
    (subst (λ (s : State). IsTracked s (slice_set dirty page false)) (sym (Visit-is old page reply new tracked.is_open step).0)
    (untagged-tracked (is_in_page page) old dirty (slice_set dirty page false) tracked (length-set dirty page false) (IsDirtied-visited old dirty page tracked.dirtied)))

Runs-tracked : FollowsDirtied → (old : State) (dirty : List Bool) (events : List Event) (new : State) (left : List Bool) → IsTracked old dirty → RunsTracked Follows old dirty events new left → IsTracked new left
Runs-tracked keeps old dirty [] new left tracked (same, marks) = subst (λ (s : State). IsTracked s left) (sym same) (subst (IsTracked old) (sym marks) tracked)
Runs-tracked keeps old dirty (event ∷ events) new left tracked (mid, between, happens, rest) =
    Runs-tracked keeps mid between events new left (Happens-tracked keeps old dirty event mid between tracked happens) rest

-- ---- the whole

pub epoch-is : FollowsDirtied → (before start : State) (reply : RevokerReply) (pages : ℕ) (events : List Event) (new : State) (left : List Bool) → before.heap.is_open ≡ false → length before.granules ≡ 256 * pages
    → RevokerStep before Paint reply start → RunsTracked Follows start (replicate pages true) events new left → IsTracked new left
epoch-is keeps before start reply pages events new left closed count step run =
    let painted = Paint-is before reply start closed step in
    let begun : IsTracked (after_paint before) (replicate pages true) = record {
      is_open = refl;
      pages = count ∙ ap (λ n. 256 * n) (sym (length-replicate pages true));
      dirtied = IsDirtied-painted before pages count;
    } in
    Runs-tracked keeps start (replicate pages true) events new left (subst (λ (s : State). IsTracked s (replicate pages true)) (sym painted) begun) run

-- Where all pages are clean and each register has lost its tag, nothing is left.
pub epoch-releases : (By : State → Command → Reply → State → Type 0) (mid : State) (left : List Bool) (registers : List (ℕ × RevokerReply)) (new : State) → IsTracked mid left → AreClean left → CoverRegisters mid registers
    → Runs By mid (register_untags registers) new → RevokerStep new Release (Released (bytes_in new.heap.painted)) (after_release new)
epoch-releases By mid left registers new tracked clean cover run =
    let untagged = Runs-register_untags By registers mid new tracked.is_open run in
    let swept : State = record mid { registers = map (swept_cell mid.heap.painted) mid.registers } in
    let is : new ≡ swept = untagged.0 ∙ (λ j. record mid { registers = changed-all (swept_cell mid.heap.painted) (is_one registers) mid.registers (covers_registers mid registers cover) j }) in
    let nothing : IsNothingLeft swept mid.heap.painted = record {
      registers = λ r. ap (takes_tag mid.heap.painted) (get_or-map (swept_cell mid.heap.painted) mid.registers r null_cell) ∙ spared_swept mid.heap.painted (get_or mid.registers r null_cell);
      granules = λ i. false_from_ne_true (takes_tag mid.heap.painted (cell_of (get_or mid.granules i (0, false))))
          (λ taken.
          let lt : i < length mid.granules = inside_of mid.heap.painted mid.granules i taken in
          let none : get_or left (i / 256) false ≡ false = All-get_or (λ b. b ≡ false) left (i / 256) false (omega (arith, lt, tracked.pages)) clean in
          true≢false (sym (tracked.dirtied i taken) ∙ none));
    } in
    subst (λ (s : State). RevokerStep s Release (Released (bytes_in s.heap.painted)) (after_release s)) (sym is) (releases swept tracked.is_open nothing)
