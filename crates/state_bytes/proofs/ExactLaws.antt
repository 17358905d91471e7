-- Blocks whose bounds a capability can hold: what is claimed is one, and what is given up or begins stays one.
use Rattle.std.proofs.Common.{◌≡◌, ◌∙◌, ◌≤◌, ◌+◌, ◌-◌, ℕ, Bool, Option, Some, None, Result, Ok, Err, true, false, if◌then◌else◌, nat_lt, not, List, [], ◌∷◌, refl, sym, ap, subst, arith}
use Rattle.std.specs.Prelude.{All}
use Rattle.std.proofs.lemmas.Bool.{cond_both}
use Rattle.std.proofs.lemmas.List.Elements.{All-cons, All-contains, All-filter, All-head, All-nil, All-tail}
use Rattle.cap_codec.specs.Rounding.{IsExact}
use Rattle.cap_codec.specs.Words.{bounds_in}
use Rattle.heap_model.specs.Blocks.{Span, blocks_with, end_of, has_bounds, is_block, start_of}
use Rattle.heap_model.specs.Claim.{IsClaim, IsClaimable}
use Rattle.heap_model.specs.Found.{blocks_in}
use Rattle.heap_model.specs.Heap.{HeapState}
use Rattle.heap_model.specs.Laws.{Contains-block, no_reason}
use Rattle.heap_model.specs.Place.{with_block}
use Rattle.heap_model.specs.Quarantine.{freed_of, is_held_block, with_epoch, with_waiting, without_epoch, without_waiting}
use Rattle.heap_model.specs.declared.block.Obstacle.{Obstacle}
use Rattle.heap_model.specs.declared.block.Freed.{Freed}
use Rattle.heap_model.specs.declared.block.Freed.TheVariants as after_free
use Rattle.heap_model.specs.declared.block.Kind.TheVariants.{Live, Painted, Waiting}
use Rattle.machine_steps.specs.Follow.{Allows, Follows, FollowsAfter, MallocAllows, Places}
use Rattle.machine_steps.specs.State.{State, register}
use Rattle.machine_steps.specs.Step.{checks, first_failed, after_free, after_sweep}
use Rattle.heap_reply.specs.declared.reply.Reply.{Reply}
use Rattle.heap_reply.specs.declared.reply.Reply.TheVariants.{Block, BlockAfter, NoSpace, NoSpaceAfter, Held, Done, Cleared, Swept, Begun, Shown, Trap}
use Rattle.heap_reply.specs.declared.reply.Trap.{Trap as TheTrap}
use Rattle.trace_text.specs.declared.trace.Command.{Command}
use Rattle.trace_text.specs.declared.trace.Command.TheVariants.{Malloc, Free, Copy, SetAddr, Narrow, AndPerm, StoreCap, LoadCap, Write, Show, Sweep, Begin, End}
use Rattle.revoker_steps.specs.declared.command.RevokerCommand.{RevokerCommand}
use Rattle.revoker_steps.specs.declared.command.RevokerCommand.TheVariants.{Paint, Release, UntagGranule, UntagRegister, Visit}
use Rattle.revoker_steps.specs.declared.command.RevokerReply.{RevokerReply}
use Rattle.revoker_steps.specs.declared.command.RevokerTrap.{RevokerTrap}
use Rattle.revoker_steps.specs.Revoker.{RevokerStep, RevokerStepAfter, first_failed_check, revoker_checks}
use Rattle.state_bytes.specs.State.{AreExact}

-- A block's bounds can be held.
abbrev IsExactBlock : Span → Type 0
IsExactBlock block = IsExact (start_of block) (end_of block)

-- Each list's blocks can.
exact_lists : (s : HeapState) → All IsExactBlock s.live → All IsExactBlock s.waiting → All IsExactBlock s.painted → AreExact s
exact_lists s live waiting painted = record {
  each = λ kind. elim kind as (λ kind. All IsExactBlock (blocks_in s kind)) [
    | Live ↦ live
    | Waiting ↦ waiting
    | Painted ↦ painted
  ];
}

All-blocks_with : (block : Span) (blocks : List Span) → IsExactBlock block → All IsExactBlock blocks → All IsExactBlock (blocks_with block blocks)
All-blocks_with block [] is all = All-cons IsExactBlock block [] is all
All-blocks_with block (b ∷ blocks) is all =
    cond_both (nat_lt (start_of block) (start_of b)) (block ∷ b ∷ blocks) (b ∷ blocks_with block blocks) (All IsExactBlock)
    (λ _. All-cons IsExactBlock block (b ∷ blocks) is all)
    (λ _. All-cons IsExactBlock b (blocks_with block blocks) (All-head IsExactBlock b blocks all) (All-blocks_with block blocks is (All-tail IsExactBlock b blocks all)))

pub exact_none : (s : HeapState) → s.live ≡ [] → s.waiting ≡ [] → s.painted ≡ [] → AreExact s
exact_none s live waiting painted =
    exact_lists s (subst (All IsExactBlock) (sym live) (All-nil IsExactBlock)) (subst (All IsExactBlock) (sym waiting) (All-nil IsExactBlock)) (subst (All IsExactBlock) (sym painted) (All-nil IsExactBlock))

-- The bounds of a block with a length.
exact_length : (base top : ℕ) → base ≤ top → IsExact base top → IsExactBlock (base, top - base)
exact_length base top order is = let end : base + (top - base) ≡ top = omega (arith, order) in subst (IsExact base) (sym end) is

exact_claimed : (s : HeapState) (base top : ℕ) → IsClaimable s base top → AreExact s → AreExact (with_block s base (top - base))
exact_claimed s base top may exact =
    exact_lists (with_block s base (top - base))
    (All-blocks_with (base, top - base) s.live (exact_length base top (omega (arith, may.order)) may.exact) (exact.each Live)) (exact.each Waiting) (exact.each Painted)

exact_waiting : (s : HeapState) (base top : ℕ) → is_block s.live base top ≡ true → AreExact s → AreExact (with_waiting s base top)
exact_waiting s base top is exact =
    let own : IsExactBlock (base, top - base) = All-contains IsExactBlock s.live (base, top - base) (exact.each Live) (Contains-block base top s.live is) in
    exact_lists (with_waiting s base top)
    (All-filter (λ block. not (has_bounds base top block)) IsExactBlock s.live (exact.each Live))
    (All-blocks_with (base, top - base) s.waiting own (exact.each Waiting)) (exact.each Painted)

exact_epoch : (s : HeapState) → AreExact s → AreExact (with_epoch s)
exact_epoch s exact = exact_lists (with_epoch s) (exact.each Live) (All-nil IsExactBlock) (exact.each Waiting)

pub exact_begun : (s new : HeapState) → new ≡ with_epoch s → AreExact s → AreExact new
exact_begun s new is exact = subst AreExact (sym is) (exact_epoch s exact)

exact_ended : (s : HeapState) → AreExact s → AreExact (without_epoch s)
exact_ended s exact = exact_lists (without_epoch s) (exact.each Live) (exact.each Waiting) (All-nil IsExactBlock)

exact_swept : (s : HeapState) → AreExact s → AreExact (without_waiting s)
exact_swept s exact = exact_lists (without_waiting s) (exact.each Live) (All-nil IsExactBlock) (exact.each Painted)

-- ---- claims

-- What is answered to a claim, and what it leaves.
pub claim_exact : (s : HeapState) (base top : ℕ) (claim : Result (Unit {0}) Obstacle) (new : HeapState) → IsClaim s s base top claim new → AreExact s → AreExact new
claim_exact s base top (Ok done) new is exact = subst AreExact (sym is.1) (exact_claimed s base top is.0 exact)
claim_exact s base top (Err obstacle) new is exact = subst AreExact (sym is.1) exact

-- The heap lies where it did, as open as it was.
pub record StaysThere (s new : HeapState) : Type 0 where
  pub size : new.size ≡ s.size
  pub open_is : new.is_open ≡ s.is_open

stays : (s new t : HeapState) → new ≡ t → t.size ≡ s.size → t.is_open ≡ s.is_open → StaysThere s new
stays s new t is size open_is = record { size = ap (λ (h : HeapState). h.size) is ∙ size; open_is = ap (λ (h : HeapState). h.is_open) is ∙ open_is }

pub claim_stays : (s : HeapState) (base top : ℕ) (claim : Result (Unit {0}) Obstacle) (new : HeapState) → IsClaim s s base top claim new → StaysThere s new
claim_stays s base top (Ok done) new is = stays s new (with_block s base (top - base)) is.1 refl refl
claim_stays s base top (Err obstacle) new is = stays s new s is.1 refl refl

-- ---- what is released

is_live : (b c : Bool) (result : Freed) → result ≡ (if b then after_free.Held else (if c then after_free.AlreadyHeld else after_free.NotBlock)) → result ≡ after_free.Held → b ≡ true
is_live true c result is held = refl
is_live false true result is held = absurd cc
is_live false false result is held = absurd cc

pub release_exact : (s : HeapState) (base top : ℕ) (new : HeapState) (result : Freed) → result ≡ freed_of s base top → result ≡ after_free.Held
    → new ≡ with_waiting s base top → AreExact s → AreExact new
release_exact s base top new result answer held is exact =
    subst AreExact (sym is) (exact_waiting s base top (is_live (is_block s.live base top) (is_held_block s base top) result answer held) exact)

-- ---- commands

places_exact : (old : State) (rd size base top : ℕ) (new : State) → Places old rd size base top new → AreExact old.heap → AreExact new.heap
places_exact old rd size base top new places exact = subst (λ (s : State). AreExact s.heap) (sym places.state) (exact_claimed old.heap base top places.may exact)

malloc_exact : (old : State) (rd size : ℕ) (r : Reply) (new : State) → MallocAllows old rd size r new → AreExact old.heap → AreExact new.heap
malloc_exact old rd size (Block base top) new allowed exact = places_exact old rd size base top new allowed exact
malloc_exact old rd size (BlockAfter base top cleared) new allowed exact = places_exact (after_sweep old) rd size base top new allowed.1 (exact_swept old.heap exact)
malloc_exact old rd size NoSpace new allowed exact = subst (λ (s : State). AreExact s.heap) (sym allowed.state) exact
malloc_exact old rd size (NoSpaceAfter cleared) new allowed exact = subst (λ (s : State). AreExact s.heap) (sym allowed.1.state) (exact_swept old.heap exact)
malloc_exact old rd size (Held bytes) new allowed exact = absurd allowed
malloc_exact old rd size Done new allowed exact = absurd allowed
malloc_exact old rd size Cleared new allowed exact = absurd allowed
malloc_exact old rd size (Swept cleared released) new allowed exact = absurd allowed
malloc_exact old rd size (Begun cleared) new allowed exact = absurd allowed
malloc_exact old rd size (Shown shown) new allowed exact = absurd allowed
malloc_exact old rd size (Trap trap) new allowed exact = absurd allowed

third_passed : (a b c : Bool) (x y z : TheTrap) → first_failed ((a, x) ∷ (b, y) ∷ (c, z) ∷ []) ≡ None → c ≡ true
third_passed true true true x y z passed = refl
third_passed true true false x y z passed = absurd cc
third_passed true false c x y z passed = absurd cc
third_passed false b c x y z passed = absurd cc

free_exact : (old : State) (rs : ℕ) (new : State) → first_failed (checks old (Free rs)) ≡ None → new ≡ after_free old (register old rs).0 → AreExact old.heap → AreExact new.heap
free_exact old rs new passed is exact =
    let c = register old rs in
    let b = bounds_in c.0 in
    let live = third_passed c.1 (not (is_held_block old.heap b.base b.top)) (is_block old.heap.live b.base b.top) _ _ _ passed in
    subst (λ (s : State). AreExact s.heap) (sym is) (exact_waiting old.heap b.base b.top live exact)

same_heap : (new : State) (s : State) → new ≡ s → AreExact s.heap → AreExact new.heap
same_heap new s is exact = subst (λ (s : State). AreExact s.heap) (sym is) exact

allows_exact : (old : State) (c : Command) (r : Reply) (new : State) → first_failed (checks old c) ≡ None → Allows old c r new → AreExact old.heap → AreExact new.heap
allows_exact old (Malloc rd size) r new passed allowed exact = malloc_exact old rd size r new allowed exact
allows_exact old (Free rs) r new passed allowed exact = free_exact old rs new passed allowed.1 exact
allows_exact old (Copy rd rs) r new passed allowed exact = same_heap new _ allowed.1 exact
allows_exact old (SetAddr rd rs a) r new passed allowed exact = same_heap new _ allowed.1 exact
allows_exact old (Narrow rd rs n) r new passed allowed exact = same_heap new _ allowed.1 exact
allows_exact old (AndPerm rd rs mask) r new passed allowed exact = same_heap new _ allowed.1 exact
allows_exact old (StoreCap ra rs) r new passed allowed exact = same_heap new _ allowed.1 exact
allows_exact old (LoadCap rd ra) r new passed allowed exact = same_heap new _ allowed.1 exact
allows_exact old (Write ra bytes) r new passed allowed exact = same_heap new _ allowed.1 exact
allows_exact old (Show rs) r new passed allowed exact = same_heap new _ allowed.1 exact
allows_exact old Sweep r new passed allowed exact = same_heap new _ allowed.1 (exact_swept old.heap exact)
allows_exact old Begin r new passed allowed exact = same_heap new _ allowed.1 (exact_epoch old.heap exact)
allows_exact old End r new passed allowed exact = same_heap new _ allowed.1 (exact_ended old.heap exact)

follows_after : (t : Option TheTrap) (old : State) (c : Command) (r : Reply) (new : State) → first_failed (checks old c) ≡ t → FollowsAfter t old c r new → AreExact old.heap → AreExact new.heap
follows_after None old c r new passed follows exact = allows_exact old c r new passed follows exact
follows_after (Some trap) old c r new passed follows exact = same_heap new old follows.1 exact

pub follows_exact : (old : State) (c : Command) (r : Reply) (new : State) → AreExact old.heap → Follows old c r new → AreExact new.heap
follows_exact old c r new exact follows = follows_after (first_failed (checks old c)) old c r new refl follows exact

-- ---- a revoker's steps

revoked_after : (t : Option RevokerTrap) (old : State) (c : RevokerCommand) (r : RevokerReply) (new : State) → RevokerStepAfter t old c r new → AreExact old.heap → AreExact new.heap
revoked_after (Some trap) old c r new step exact = same_heap new old step.1 exact
revoked_after None old Paint r new step exact = same_heap new _ step.1 (exact_epoch old.heap exact)
revoked_after None old (Visit page) r new step exact = same_heap new _ step.1 exact
revoked_after None old (UntagGranule address) r new step exact = same_heap new _ step.1 exact
revoked_after None old (UntagRegister register) r new step exact = same_heap new _ step.1 exact
revoked_after None old Release r new step exact = same_heap new _ step.1 (exact_ended old.heap exact)

pub revoked_exact : (old : State) (c : RevokerCommand) (r : RevokerReply) (new : State) → AreExact old.heap → RevokerStep old c r new → AreExact new.heap
revoked_exact old c r new exact step = revoked_after (first_failed_check (revoker_checks old c)) old c r new step exact
