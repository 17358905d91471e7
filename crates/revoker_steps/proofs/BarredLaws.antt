-- What keeps the invariant of a revoker with a barrier at loads.
use Rattle.std.proofs.Common.{◌≡◌, ◌∙◌, ◌<◌, ◌≤◌, ◌+◌, ◌-◌, ◌/◌, ◌%◌, ◌||◌, ◌&&◌, ◌^◌, ℕ, Bool, true, false, cond, eqb, not, Option, Some, None, inl, inr, All, List, length, get_or, set, replicate, refl, sym, ap, subst, arith}
use Rattle.std.proofs.Math.Bool.{and-false}
use Rattle.std.proofs.Math.ListN.{get_or-map}
use Rattle.std.specs.Prelude.{◌↔◌, ◌==◌, IsTrue, nat_le, nat_lt, slice_set}
use Rattle.std.specs.List.{Contains}
use Rattle.std.proofs.lemmas.Bool.{and_parts, cases_eq, cases_lt, false_from_ne_true, leb-true, true≢false}
use Rattle.std.proofs.lemmas.Bool.Decides.{nat_tests}
use Rattle.std.proofs.lemmas.List.{get_or-replicate, get_or-set_other, get_or-set_same, get_or_past, length-replicate, length-set}
use Rattle.std.proofs.lemmas.List.Elements.{All-contains, All-get_or, All-weaker}
use Rattle.std.proofs.lemmas.List.Folds.{Any-from_list_any, list_any_none}
use Rattle.cap_codec.specs.declared.word.Bounds.{Bounds}
use Rattle.cap_codec.specs.declared.word.Word.{Word}
use Rattle.cap_codec.specs.Rounding.{IsExact, outward_bounds}
use Rattle.cap_codec.specs.Words.{address_in, allows, bounds_in, capability_of, is_exact, keeps_bounds, lie_within, load, load_capability, narrowed_word, with_address, with_perms}
use Rattle.heap_model.specs.Blocks.{IsApart, Span, end_of, has_address, lies_in, start_of}
use Rattle.heap_model.specs.Heap.{HeapState, IsSound as IsSoundHeap}
use Rattle.heap_model.specs.Laws.{has_address-after, has_address-before}
use Rattle.heap_model.specs.Place.{IsFreeBlock}
use Rattle.heap_model.specs.Sweep.{is_revoked, swept_cell, swept_granule, takes_tag}
use Rattle.tag_memory.specs.Cells.{Cell, Granule, cell_of, null_cell}
use Rattle.trace_text.specs.declared.trace.Command.{Command}
use Rattle.trace_text.specs.declared.trace.Command.TheVariants.{Malloc, Free, Copy, SetAddr, Narrow, AndPerm, StoreCap, LoadCap, Write, Show, Sweep, Begin, End}
use Rattle.heap_reply.specs.declared.reply.Reply.{Reply}
use Rattle.heap_reply.specs.declared.reply.Reply.TheVariants.{Block, BlockAfter, NoSpace, NoSpaceAfter, Held, Done, Cleared, Swept, Begun, Shown, Trap}
use Rattle.heap_reply.specs.declared.reply.Trap.{Trap as TheTrap}
use Rattle.heap_reply.specs.declared.reply.Trap.TheVariants.{Open}
use Rattle.machine_steps.specs.Dirty.{HasPages}
use Rattle.machine_steps.specs.Follow.{Allows, Follows, FollowsAfter, MallocAllows, Places}
use Rattle.machine_steps.specs.Safety.{FitsTypes, IsGuarded, IsSafe, LieIn}
use Rattle.machine_steps.specs.Sound.{IsMachine}
use Rattle.machine_steps.specs.SoundLaws.{FitsAddresses-state, IsGuarded-register, LiesInside-register}
use Rattle.machine_steps.specs.State.{State, register, with_register}
use Rattle.machine_steps.specs.Step.{Effect, checks, first_failed, granule_at, index_in, with_granule}
use Rattle.revoker_steps.specs.Barred.{AreSeen, IsBarred, IsBarredAt, LoadsDone, LoadsSeen, after_start, page_at}
use Rattle.revoker_steps.specs.Revoker.{IsNothingLeft, after_untag, after_untag_registers, is_in_page}
use Rattle.revoker_steps.specs.ChangedLaws.{either, get_or-changed}
use Rattle.revoker_steps.proofs.PassLaws.{spared_swept}
use Rattle.revoker_steps.proofs.RevokerLaws.{revoked_in}

-- ---- words that lose no tag

-- A tagged word that loses no tag isn't revoked.
not_revoked : (held : List Span) (c : Cell) → c.1 ≡ true → takes_tag held c ≡ false → is_revoked held c.0 ≡ false
not_revoked held c tagged left = go c.1 (is_revoked held c.0) tagged left where
  go : (t r : Bool) → t ≡ true → (t && r) ≡ false → r ≡ false
  go true r p q = q
  go false r p q = absurd (true≢false (sym p))

spared : (held : List Span) (w : Word) (t : Bool) → (t ≡ true → is_revoked held w ≡ false) → takes_tag held (w, t) ≡ false
spared held w t safe = go t (is_revoked held w) safe where
  go : (t r : Bool) → (t ≡ true → r ≡ false) → (t && r) ≡ false
  go true r f = f refl
  go false r f = refl

-- A word whose bounds are those of one that loses none, and which is tagged only where that is.
spared_kept : (held : List Span) (w : Word) (t : Bool) (c : Cell) → takes_tag held c ≡ false → (t ≡ true → c.1 ≡ true) → (t ≡ true → bounds_in w ≡ bounds_in c.0) → takes_tag held (w, t) ≡ false
spared_kept held w t c left tagged same = spared held w t (λ e. ap (λ (b : Bounds). lies_in held b.base) (same e) ∙ not_revoked held c (tagged e) left)

-- ---- addresses

has_address-is : (a : ℕ) (block : Span) → has_address a block ≡ true → (start_of block ≤ a) × (a < end_of block)
has_address-is a block is =
    let both = and_parts (nat_le (start_of block) a) (nat_lt a (end_of block)) is in
    (grind (arith, nat_tests, both.0), grind (arith, nat_tests, both.1))

-- No address of a word's bounds lies in a painted block, where its base lies in none.
not_apart : (low : ℕ) (bounds : Bounds) (block other : Span) → LieIn bounds block → bounds.base ≤ low → low < bounds.top → start_of other ≤ low → low < end_of other → IsApart block other → ⊥
not_apart low bounds block other lie from before start end (inl ends) = absurd (omega (arith, ends, lie.end))
not_apart low bounds block other lie from before start end (inr begins) = absurd (omega (arith, begins, lie.start))

inside_spared : (heap : HeapState) (c : Cell) (low : ℕ) → IsSoundHeap heap → IsGuarded heap c → c.1 ≡ true → takes_tag heap.painted c ≡ false
    → (bounds_in c.0).base ≤ low → low < (bounds_in c.0).top → lies_in heap.painted low ≡ false
inside_spared heap c low sound guarded tagged left from before =
    let x = guarded.within tagged in
    false_from_ne_true (lies_in heap.painted low)
    (λ there.
    let found = Any-from_list_any (has_address low) heap.painted there in
    let painted : Contains heap.painted found.1 = (found.0, found.2, found.3) in
    let here = has_address-is low found.1 found.4 in
    elim x.1 [
      | inl live ↦ not_apart low (bounds_in c.0) x.0 found.1 x.2 from before here.0 here.1
          (All-contains (IsApart x.0) heap.painted found.1 (All-contains (λ b. All (IsApart b) heap.painted) heap.live x.0 sound.apart_painted live) painted)
      | inr held ↦ elim held [
        | inl waits ↦ not_apart low (bounds_in c.0) x.0 found.1 x.2 from before here.0 here.1
            (All-contains (IsApart x.0) heap.painted found.1 (All-contains (λ b. All (IsApart b) heap.painted) heap.waiting x.0 sound.apart_held waits) painted)
        | inr same ↦ true≢false (sym (revoked_in heap.painted c.0 x.0 same x.2) ∙ not_revoked heap.painted c tagged left)
      ]
    ])

apart_from : (a n : ℕ) (block : Span) → 0 < n → IsApart (a, n) block → has_address a block ≡ false
apart_from a n block some (inl before) = has_address-before a block (omega (arith, before, some))
apart_from a n block some (inr after) = has_address-after a block (omega (arith, after))

new_spared : (heap : HeapState) (a n : ℕ) → IsFreeBlock heap a n → lies_in heap.painted a ≡ false
new_spared heap a n free =
    list_any_none (has_address a) heap.painted (All-weaker (IsApart (a, n)) (λ b. has_address a b ≡ false) (λ b apart. apart_from a n b free.some apart) heap.painted free.painted)

-- ---- registers and granules

holds-set : {X : Type 0} (P : X → Type 0) (xs : List X) (i k : ℕ) (x d : X) → P x → P d → P (get_or xs k d) → P (get_or (set xs i x) k d)
holds-set P xs i k x d new past old =
    elim (cases_eq k i) [
      | inl same ↦ elim (cases_lt k (length xs)) [
        | inl lt ↦ subst (λ (j : ℕ). P (get_or (set xs j x) k d)) same (subst P (sym (get_or-set_same xs k x d lt)) new)
        | inr out ↦ subst P (sym (get_or_past (set xs i x) k d (omega (arith, out, length-set xs i x)))) past
      ]
      | inr other ↦ subst P (sym (get_or-set_other xs i k x d other)) old
    ]

spared-register : (s : State) (done : ℕ → Bool) (r : ℕ) → IsBarredAt s done → takes_tag s.heap.painted (register s r) ≡ false
spared-register s done r barred = either (λ c. takes_tag s.heap.painted c ≡ false) (eqb r 0) null_cell (get_or s.registers r null_cell) refl (barred.registers r)

pub IsBarred-with : (s : State) (done : ℕ → Bool) (r : ℕ) (c : Cell) → IsBarredAt s done → takes_tag s.heap.painted c ≡ false → IsBarredAt (with_register s r c) done
IsBarred-with s done r c barred left = record {
  registers = λ k.
      either (λ (xs : List Cell). takes_tag s.heap.painted (get_or xs k null_cell) ≡ false) (eqb r 0) s.registers (set s.registers r c) (barred.registers k)
      (holds-set (λ (x : Cell). takes_tag s.heap.painted x ≡ false) s.registers r k c null_cell left refl (barred.registers k));
  granules = barred.granules;
}

pub IsBarred-put : (s : State) (done : ℕ → Bool) (w : Word) (granule : Granule) → IsBarredAt s done → takes_tag s.heap.painted (cell_of granule) ≡ false → IsBarredAt (with_granule s w granule) done
IsBarred-put s done w granule barred left = record {
  registers = barred.registers;
  granules = λ k e. holds-set (λ (x : Granule). takes_tag s.heap.painted (cell_of x) ≡ false) s.granules (index_in s w) k granule (0, false) left refl (barred.granules k e);
}

-- Of fewer granules it holds too.
pub IsBarred-fewer : (s : State) (done less : ℕ → Bool) → ((i : ℕ) → less i ≡ true → done i ≡ true) → IsBarredAt s done → IsBarredAt s less
IsBarred-fewer s done less each barred = record { registers = barred.registers; granules = λ i e. barred.granules i (each i e) }

-- ---- commands

-- What the crates below say of words.
pub record WordLaws : Type 0 where
  pub narrowed : (w : Word) (base top : ℕ) → base < 2 ^ 64 → base ≤ top → top ≤ 2 ^ 64 → bounds_in (narrowed_word w base top) ≡ outward_bounds base top
  pub capability : (base top : ℕ) → base < 2 ^ 64 → base ≤ top → top ≤ 2 ^ 64 → bounds_in (capability_of base top) ≡ outward_bounds base top
  pub tested : (base top : ℕ) → IsTrue (is_exact base top) ↔ IsExact base top
  pub moved : (w : Word) (a : ℕ) → a < 2 ^ 64 → IsTrue (keeps_bounds w a) → bounds_in (with_address w a) ≡ bounds_in w
  pub masked : (w : Word) (mask : ℕ) → bounds_in (with_perms w mask) ≡ bounds_in w

Places-barred : WordLaws → (old : State) (done : ℕ → Bool) (rd size base top : ℕ) (new : State) → IsSafe old → IsBarredAt old done → Places old rd size base top new → IsBarredAt new done
Places-barred laws old done rd size base top new safe barred out =
    let free = out.may.free in
    let fits = FitsAddresses-state old safe in
    let room : top ≤ 2 ^ 64 = omega (arith, free.end, fits.end, out.may.order) in
    let is = laws.capability base top (omega (arith, room, out.may.order)) (omega (arith, out.may.order)) room ∙ out.may.exact in
    let left = spared old.heap.painted (capability_of base top) true (λ _. ap (λ (b : Bounds). lies_in old.heap.painted b.base) is ∙ new_spared old.heap base (top - base) free) in
    let with : IsBarredAt (with_register old rd (capability_of base top, true)) done = IsBarred-with old done rd (capability_of base top, true) barred left in
    subst (λ (s : State). IsBarredAt s done) (sym out.state) (record { registers = with.registers; granules = with.granules })

pub closed_open : (s : State) → s.heap.is_open ≡ true → s.heap.is_open ≡ false → ⊥
closed_open s opened closed = true≢false (sym opened ∙ closed)

Malloc-barred : WordLaws → (old : State) (done : ℕ → Bool) (rd size : ℕ) (r : Reply) (new : State) → IsSafe old → old.heap.is_open ≡ true → IsBarredAt old done → MallocAllows old rd size r new → IsBarredAt new done
Malloc-barred laws old done rd size (Block base top) new safe opened barred effect = Places-barred laws old done rd size base top new safe barred effect
Malloc-barred laws old done rd size (BlockAfter base top cleared) new safe opened barred effect = absurd (closed_open old opened effect.0.may.closed)
Malloc-barred laws old done rd size NoSpace new safe opened barred effect = subst (λ (s : State). IsBarredAt s done) (sym effect.state) (IsBarred-with old done rd null_cell barred refl)
Malloc-barred laws old done rd size (NoSpaceAfter cleared) new safe opened barred effect = absurd (closed_open old opened effect.0.may.closed)
Malloc-barred laws old done rd size (Held bytes) new safe opened barred effect = absurd effect
Malloc-barred laws old done rd size Done new safe opened barred effect = absurd effect
Malloc-barred laws old done rd size Cleared new safe opened barred effect = absurd effect
Malloc-barred laws old done rd size (Swept cleared released) new safe opened barred effect = absurd effect
Malloc-barred laws old done rd size (Begun cleared) new safe opened barred effect = absurd effect
Malloc-barred laws old done rd size (Shown shown) new safe opened barred effect = absurd effect
Malloc-barred laws old done rd size (Trap trap) new safe opened barred effect = absurd effect

all_four : (a b c d : Bool) (x y z t : TheTrap) → cond a (cond b (cond c (cond d None (Some t)) (Some z)) (Some y)) (Some x) ≡ None
    → (a ≡ true) × (b ≡ true) × (c ≡ true) × (d ≡ true)
all_four true true true true x y z t e = (refl, refl, refl, refl)
all_four true true true false x y z t e = absurd cc
all_four true true false d x y z t e = absurd cc
all_four true false c d x y z t e = absurd cc
all_four false b c d x y z t e = absurd cc

Narrow-barred : WordLaws → (old : State) (done : ℕ → Bool) (rd rs n : ℕ) (r : Reply) (new : State) → IsSafe old → IsBarredAt old done → first_failed (checks old (Narrow rd rs n)) ≡ None
    → Effect old (Narrow rd rs n) r new → IsBarredAt new done
Narrow-barred laws old done rd rs n r new safe barred passed effect =
    let c = register old rs in
    let a = address_in c.0 in
    let within = bounds_in c.0 in
    let all = all_four c.1 (nat_le 1 n) (lie_within within a n) (is_exact a (a + n)) _ _ _ _ passed in
    let ends = and_parts (nat_le within.base a) (nat_le (a + n) within.top) all.2 in
    let from : within.base ≤ a = leb-true within.base a ends.0 in
    let end : a + n ≤ within.top = leb-true (a + n) within.top ends.1 in
    let some : 1 ≤ n = leb-true 1 n all.1 in
    let inside = LiesInside-register old rs safe in
    let fits = FitsAddresses-state old safe in
    let room : a + n ≤ 2 ^ 64 = omega (arith, end, inside.end all.0, fits.end) in
    let is = laws.narrowed c.0 a (a + n) (omega (arith, room, some)) (omega arith) room ∙ (laws.tested a (a + n)).0 all.3 in
    let outside = inside_spared old.heap c a safe.heap (IsGuarded-register old rs safe) all.0 (spared-register old done rs barred) from (omega (arith, some, end)) in
    let left = spared old.heap.painted (narrowed_word c.0 a (a + n)) true (λ _. ap (λ (b : Bounds). lies_in old.heap.painted b.base) is ∙ outside) in
    subst (λ (s : State). IsBarredAt s done) (sym effect.1) (IsBarred-with old done rd (narrowed_word c.0 a (a + n), true) barred left)

-- A command that asks for a closed epoch is trapped in an open one.
pub not_closed : (s : State) → s.heap.is_open ≡ true → cond (not s.heap.is_open) None (Some Open) ≡ None → ⊥
not_closed s opened passed = go s.heap.is_open opened passed where
  go : (is_open : Bool) → is_open ≡ true → cond (not is_open) None (Some Open) ≡ None → ⊥
  go true e p = absurd cc
  go false e p = true≢false (sym e)

Allows-barred : WordLaws → (old : State) (done : ℕ → Bool) (c : Command) (r : Reply) (new : State) → IsSafe old → FitsTypes c → old.heap.is_open ≡ true → IsBarredAt old done → LoadsDone old done c
    → first_failed (checks old c) ≡ None → Allows old c r new → IsBarredAt new done
Allows-barred laws old done (Malloc rd size) r new safe fits opened barred loads passed effect = Malloc-barred laws old done rd size r new safe opened barred effect
Allows-barred laws old done (Free rs) r new safe fits opened barred loads passed effect =
    subst (λ (s : State). IsBarredAt s done) (sym effect.1) (record { registers = barred.registers; granules = barred.granules })
Allows-barred laws old done (Copy rd rs) r new safe fits opened barred loads passed effect =
    subst (λ (s : State). IsBarredAt s done) (sym effect.1) (IsBarred-with old done rd (register old rs) barred (spared-register old done rs barred))
Allows-barred laws old done (SetAddr rd rs a) r new safe fits opened barred loads passed effect =
    let c = register old rs in
    let keeps = keeps_bounds c.0 a in
    let left = spared_kept old.heap.painted (with_address c.0 a) (c.1 && keeps) c (spared-register old done rs barred)
    (λ e. (and_parts c.1 keeps e).0) (λ e. laws.moved c.0 a fits (and_parts c.1 keeps e).1) in
    subst (λ (s : State). IsBarredAt s done) (sym effect.1) (IsBarred-with old done rd (with_address c.0 a, c.1 && keeps) barred left)
Allows-barred laws old done (Narrow rd rs n) r new safe fits opened barred loads passed effect = Narrow-barred laws old done rd rs n r new safe barred passed effect
Allows-barred laws old done (AndPerm rd rs mask) r new safe fits opened barred loads passed effect =
    let c = register old rs in
    let left = spared_kept old.heap.painted (with_perms c.0 mask) c.1 c (spared-register old done rs barred) (λ e. e) (λ _. laws.masked c.0 mask) in
    subst (λ (s : State). IsBarredAt s done) (sym effect.1) (IsBarred-with old done rd (with_perms c.0 mask, c.1) barred left)
Allows-barred laws old done (StoreCap ra rs) r new safe fits opened barred loads passed effect =
    let c = register old rs in
    subst (λ (s : State). IsBarredAt s done) (sym effect.1) (IsBarred-put old done (register old ra).0 (c.0.bits, c.1) barred (spared-register old done rs barred))
Allows-barred laws old done (LoadCap rd ra) r new safe fits opened barred loads passed effect =
    let w = (register old ra).0 in
    let granule = granule_at old w in
    let keeps = allows load_capability w in
    let left = spared_kept old.heap.painted (record { bits = granule.0 }) (granule.1 && keeps) (cell_of granule) (barred.granules (index_in old w) (loads passed))
    (λ e. (and_parts granule.1 keeps e).0) (λ _. refl) in
    subst (λ (s : State). IsBarredAt s done) (sym effect.1) (IsBarred-with old done rd (record { bits = granule.0 }, granule.1 && keeps) barred left)
Allows-barred laws old done (Write ra bytes) r new safe fits opened barred loads passed effect =
    subst (λ (s : State). IsBarredAt s done) (sym effect.1) (IsBarred-put old done (register old ra).0 _ barred refl)
Allows-barred laws old done (Show rs) r new safe fits opened barred loads passed effect = subst (λ (s : State). IsBarredAt s done) (sym effect.1) barred
Allows-barred laws old done Sweep r new safe fits opened barred loads passed effect = absurd (not_closed old opened passed)
Allows-barred laws old done Begin r new safe fits opened barred loads passed effect = absurd (not_closed old opened passed)
Allows-barred laws old done End r new safe fits opened barred loads passed effect =
    subst (λ (s : State). IsBarredAt s done) (sym effect.1) (record { registers = λ r. and-false _; granules = λ i e. and-false _ })

FollowsAfter-barred : WordLaws → (t : Option TheTrap) (old : State) (done : ℕ → Bool) (c : Command) (r : Reply) (new : State) → IsSafe old → FitsTypes c → old.heap.is_open ≡ true → IsBarredAt old done → LoadsDone old done c
    → first_failed (checks old c) ≡ t → FollowsAfter t old c r new → IsBarredAt new done
FollowsAfter-barred laws None old done c r new safe fits opened barred loads passed step = Allows-barred laws old done c r new safe fits opened barred loads passed step
FollowsAfter-barred laws (Some t) old done c r new safe fits opened barred loads failed step = subst (λ (s : State). IsBarredAt s done) (sym step.1) barred

pub Follows-barred : WordLaws → (old : State) (done : ℕ → Bool) (c : Command) (r : Reply) (new : State) → IsSafe old → FitsTypes c → old.heap.is_open ≡ true → IsBarredAt old done → LoadsDone old done c
    → Follows old c r new → IsBarredAt new done
Follows-barred laws old done c r new safe fits opened barred loads step = FollowsAfter-barred laws (first_failed (checks old c)) old done c r new safe fits opened barred loads refl step

-- ---- what the revoker does

pub IsBarred-start : (s : State) (pages : ℕ) → IsBarred (after_start s) (replicate pages false)
IsBarred-start s pages = record {
  registers = λ r.
      ap (takes_tag s.heap.waiting) (get_or-map (swept_cell s.heap.waiting) s.registers r null_cell) ∙ spared_swept s.heap.waiting (get_or s.registers r null_cell);
  granules = λ i e. absurd (true≢false (sym e ∙ unseen (i / 256)));
} where
  unseen : (page : ℕ) → get_or (replicate pages false) page false ≡ false
  unseen page =
      elim (cases_lt page pages) [
        | inl lt ↦ get_or-replicate pages page false false lt
        | inr past ↦ get_or_past (replicate pages false) page false (omega (arith, past, length-replicate pages false))
      ]

-- Where tags are taken, no page need be looked at again.
spared_changed : (held : List Span) (g : Granule) (b : Bool) → (b ≡ false → takes_tag held (cell_of g) ≡ false) → takes_tag held (cell_of (cond b (swept_granule held g) g)) ≡ false
spared_changed held g true left = spared_swept held (cell_of g)
spared_changed held g false left = left refl

granule-untagged : (test : ℕ → Bool) (s : State) (i : ℕ) → (test i ≡ false → takes_tag s.heap.painted (cell_of (get_or s.granules i (0, false))) ≡ false)
    → takes_tag s.heap.painted (cell_of (get_or (after_untag test s).granules i (0, false))) ≡ false
granule-untagged test s i left =
    ap (λ (g : Granule). takes_tag s.heap.painted (cell_of g)) (get_or-changed (swept_granule s.heap.painted) (0, false) refl test s.granules i)
    ∙ spared_changed s.heap.painted (get_or s.granules i (0, false)) (test i) left

was_done : (a b : Bool) → (a || b) ≡ true → b ≡ false → a ≡ true
was_done true b e other = refl
was_done false true e other = sym other
was_done false false e other = e

pub IsBarred-untag : (test : ℕ → Bool) (s : State) (done : ℕ → Bool) → IsBarredAt s done → IsBarredAt (after_untag test s) (λ k. done k || test k)
IsBarred-untag test s done barred = record {
  registers = barred.registers;
  granules = λ i e. granule-untagged test s i (λ other. barred.granules i (was_done (done i) (test i) e other));
}

cell_changed : (held : List Span) (c : Cell) (b : Bool) → takes_tag held c ≡ false → takes_tag held (cond b (swept_cell held c) c) ≡ false
cell_changed held c true left = spared_swept held c
cell_changed held c false left = left

pub IsBarred-untag_registers : (test : ℕ → Bool) (s : State) (done : ℕ → Bool) → IsBarredAt s done → IsBarredAt (after_untag_registers test s) done
IsBarred-untag_registers test s done barred = record {
  registers = λ r.
      ap (takes_tag s.heap.painted) (get_or-changed (swept_cell s.heap.painted) null_cell refl test s.registers r)
      ∙ cell_changed s.heap.painted (get_or s.registers r null_cell) (test r) (barred.registers r);
  granules = barred.granules;
}

-- A page that was visited is seen.
other_page : (seen : List Bool) (page other : ℕ) → eqb other page ≡ false → get_or (set seen page true) other false ≡ true → get_or seen other false ≡ true
other_page seen page other differs e = sym (get_or-set_other seen page other true false (λ same. true≢false (sym (is_same other page same) ∙ differs))) ∙ e where
  is_same : (a b : ℕ) → a ≡ b → eqb a b ≡ true
  is_same a b same = grind (arith, nat_tests)

pub IsBarred-visit : (page : ℕ) (s : State) (seen : List Bool) → IsBarred s seen → IsBarred (after_untag (is_in_page page) s) (slice_set seen page true)
IsBarred-visit page s seen barred = record {
  registers = barred.registers;
  granules = λ i e. granule-untagged (is_in_page page) s i (λ differs. barred.granules i (other_page seen page (i / 256) differs e));
}

-- Once all pages are seen nothing is left.
pub IsNothingLeft-seen : (s : State) (seen : List Bool) → HasPages s seen → AreSeen seen → IsBarred s seen → IsNothingLeft s s.heap.painted
IsNothingLeft-seen s seen pages all barred = record {
  registers = barred.registers;
  granules = λ i.
      elim (cases_lt i (length s.granules)) [
        | inl lt ↦ barred.granules i (All-get_or (λ b. b ≡ true) seen (i / 256) false (omega (arith, lt, pages)) all)
        | inr past ↦ ap (λ (g : Granule). takes_tag s.heap.painted (cell_of g)) (get_or_past s.granules i (0, false) past)
      ];
}

-- ---- the barrier

-- A page that was just visited is seen, where the load isn't trapped.
pub LoadsSeen-visited : (s : State) (seen : List Bool) (rd ra : ℕ) → IsMachine s → HasPages s seen
    → LoadsSeen (after_untag (is_in_page (page_at s ra)) s) (slice_set seen (page_at s ra) true) (LoadCap rd ra)
LoadsSeen-visited s seen rd ra is pages passed =
    let c = register s ra in
    let a = address_in c.0 in
    let within = bounds_in c.0 in
    let all = all_four c.1 (allows load c.0) (lie_within within a 16) (a % 16 == 0) _ _ _ _ passed in
    let ends = and_parts (nat_le within.base a) (nat_le (a + 16) within.top) all.2 in
    let from : within.base ≤ a = leb-true within.base a ends.0 in
    let end : a + 16 ≤ within.top = leb-true (a + 16) within.top ends.1 in
    let inside = LiesInside-register s ra is.safe in
    let lt : page_at s ra < length seen = omega (arith, from, end, inside.from all.0, inside.end all.0, is.granules, pages) in
    get_or-set_same seen (page_at s ra) true false lt
