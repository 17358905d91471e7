-- Lists of swept tasks: how often a task stands in one, and where its masks are placed.
use Rattle.std.proofs.Common.{◌≡◌, ◌≢◌, ℕ, zero, suc, ◌+◌, ◌*◌, ◌<◌, ◌≤◌, ◌⊎◌, inl, inr, All, Bool, true, false, List, [], ◌∷◌, ◌++◌, length, get_or, set, take, cond, Some, refl, ap, sym, ◌∙◌, subst, arith}
use mathlib.Core.Logic.{dite}
use Rattle.std.proofs.Math.Decide.{ℕ_discrete, dec_lt}
use Rattle.std.proofs.lemmas.List.{get_or-set_other, get_or-set_same}
use Rattle.std.proofs.lemmas.List.Elements.{All-cons, All-head, All-nil, All-push, All-tail, All-weaker}
use Rattle.std.proofs.lemmas.Nat.{mul-le}
use Rattle.std.proofs.lemmas.Option.{get_or_from_slice_get, slice_get_within}
use Rattle.std.specs.Prelude.{slice_get}
use Rattle.sweep_masks.specs.ClaimLaws.{times-hit, times-miss, times-push_hit, times-push_miss}
use Rattle.sweep_masks.specs.Gather.{IsFaultAt, IsFaultOf, IsFirstOf, IsGathered, IsNewItem, IsPlaced, IsSized, times}
use Rattle.sweep_masks.specs.declared.gathering.GatherFault.{GatherFault}
use Rattle.sweep_masks.specs.declared.gathering.GatherFault.TheVariants.{Double, Memory, Missing, Stranger, WrongSize}
use Rattle.sweep_masks.specs.Tasks.{Cut, task_words}
use Rattle.sweep_masks.specs.declared.task.Swept.{Swept}

-- A task that stands nowhere in a list is no item's.
pub other_task : (k : ℕ) (s : Swept) (ss : List Swept) → times k (s ∷ ss) ≡ 0 → s.task ≢ k
other_task k s ss none same = let h = times-hit k s ss same in absurd (omega arith)

pub none_behind : (k : ℕ) (s : Swept) (ss : List Swept) → times k (s ∷ ss) ≡ 0 → times k ss ≡ 0
none_behind k s ss none = let m = times-miss k s ss (other_task k s ss none) in omega arith

-- An item of a task that stands in a list, with what holds of all items.
pub found : (P : Swept → Type 0) (k : ℕ) (items : List Swept) → All P items → 1 ≤ times k items → (s : Swept) × (s.task ≡ k) × P s
found P k [] all some = absurd (omega arith)
found P k (s ∷ ss) all some = dite (ℕ_discrete s.task k)
    (λ here. (s, here, All-head P s ss all))
    (λ other. let m = times-miss k s ss other in found P k ss (All-tail P s ss all) (omega arith))

-- An item's task stands before it once less at most.
pub times-before : (k : ℕ) (items : List Swept) (i : ℕ) (s : Swept) → slice_get items i ≡ Some s → s.task ≡ k → times k (take i items) + 1 ≤ times k items
times-before k [] i s here is = let past = slice_get_within [] i s here in absurd (omega arith)
times-before k (x ∷ xs) zero s here is =
    let same : x ≡ s = get_or_from_slice_get (x ∷ xs) zero s s here in
    let h = times-hit k x xs (ap (λ (z : Swept). z.task) same ∙ is) in omega arith
times-before k (x ∷ xs) (suc i) s here is = let r = times-before k xs i s here is in omega arith

-- ---- places

-- The pages of a task lie before those of a later one.
pub pages_before : (p j k : ℕ) → j < k → j * p + p ≤ k * p
pages_before p j k before = let step : (j + 1) * p ≡ j * p + p = omega arith in let more = mul-le (j + 1) p k p (omega arith) (omega arith) in omega arith

-- Words written for task k are none of another item's.
apart : (c : Cut) (pages k n j w : ℕ) → j ≢ k → n ≤ task_words c pages k → w < task_words c pages j
    → ((4 * (j * c.pages_per_task) + w < 4 * (k * c.pages_per_task)) ⊎ (4 * (k * c.pages_per_task) + n ≤ 4 * (j * c.pages_per_task) + w))
apart c pages k n j w two n_le w_lt =
    let p : ℕ = c.pages_per_task in
    dite (dec_lt j k)
    (λ before. let far = pages_before p j k before in let a : ℕ = j * p in let b : ℕ = k * p in inl (omega arith))
    (λ after. let far = pages_before p k j (omega arith) in let a : ℕ = j * p in let b : ℕ = k * p in inr (omega arith))

-- The item has a word for each that its task's masks take.
abbrev pub HasItsWords : Cut → ℕ → Swept → Type 0
HasItsWords c pages s = length s.masks.items ≡ task_words c pages s.task

-- These words were written from `at` on, and no others.
pub record IsWritten (at : ℕ) (words masks masks' : List ℕ) : Type 0 where
  pub here : (w : ℕ) → w < length words → get_or masks' (at + w) 0 ≡ get_or words w 0
  pub rest : (w : ℕ) → ((w < at) ⊎ (at + length words ≤ w)) → get_or masks' w 0 ≡ get_or masks w 0

still_there : {words masks masks' : List ℕ} (c : Cut) (pages k : ℕ) (items : List Swept)
    → IsWritten (4 * (k * c.pages_per_task)) words masks masks' → length words ≤ task_words c pages k
    → times k items ≡ 0 → All (HasItsWords c pages) items → All (IsPlaced c masks) items → All (IsPlaced c masks') items
still_there {masks'} c pages k [] written small none sized placed = All-nil (IsPlaced c masks')
still_there {words} {masks} {masks'} c pages k (s ∷ ss) written small none sized placed =
    let other = other_task k s ss none in
    let size = All-head (HasItsWords c pages) s ss sized in
    All-cons (IsPlaced c masks') s ss
    (λ w lt. written.rest (4 * (s.task * c.pages_per_task) + w) (apart c pages k (length words) s.task w other small (let z = size in omega arith)) ∙ All-head (IsPlaced c masks) s ss placed w lt)
    (still_there c pages k ss written small (none_behind k s ss none) (All-tail (HasItsWords c pages) s ss sized) (All-tail (IsPlaced c masks) s ss placed))

-- One more item is placed, of a task that no other has.
pub placed-more : {at : ℕ} {masks masks' : List ℕ} (c : Cut) (pages : ℕ) (items : List Swept) (s : Swept)
    → IsWritten at s.masks.items masks masks' → at ≡ 4 * (s.task * c.pages_per_task)
    → All (HasItsWords c pages) items → HasItsWords c pages s → times s.task items ≡ 0
    → All (IsPlaced c masks) items → All (IsPlaced c masks') (items ++ s ∷ [])
placed-more {masks} {masks'} c pages items s written at_is words whole none placed =
    let there = subst (λ (z : ℕ). IsWritten z s.masks.items masks masks') at_is written in
    All-push (IsPlaced c masks') items s (still_there c pages s.task items there (omega arith) none words placed) there.here

-- What one more item leaves.
pub gathered-more : {c : Cut} {tasks pages at : ℕ} {items : List Swept} {done : List Bool} {masks masks' : List ℕ} (s : Swept)
    → IsGathered c tasks pages items done masks → length done ≡ tasks → IsNewItem c pages done s
    → IsWritten at s.masks.items masks masks' → at ≡ 4 * (s.task * c.pages_per_task)
    → IsGathered c tasks pages (items ++ s ∷ []) (set done s.task true) masks'
gathered-more {c} {tasks} {pages} {items} {done} s before width (within, fresh, sized) written at_is =
    let known : s.task < tasks = omega arith in
    let none : times s.task items ≡ 0 = before.counted s.task known ∙ ap (λ (b : Bool). cond b 1 0) fresh in
    record {
      sound = record {
        sized = All-push (IsSized c tasks pages) items s before.sound.sized (known, sized);
        once = λ k. dite (ℕ_discrete s.task k)
            (λ same. let h = times-push_hit k items s same in let z : times k items ≡ 0 = subst (λ (y : ℕ). times y items ≡ 0) same none in omega arith)
            (λ other. let m = times-push_miss k items s other in let o = before.sound.once k in omega arith);
      };
      counted = λ k lt. dite (ℕ_discrete s.task k)
          (λ same. subst (λ (y : ℕ). times y (items ++ s ∷ []) ≡ cond (get_or (set done s.task true) y false) 1 0) same
          (times-push_hit s.task items s refl ∙ ap (λ (y : ℕ). y + 1) none ∙ sym (ap (λ (b : Bool). cond b 1 0) (get_or-set_same done s.task true false within))))
          (λ other. times-push_miss k items s other ∙ before.counted k lt ∙ sym (ap (λ (b : Bool). cond b 1 0) (get_or-set_other done s.task k true false (λ e. other (sym e)))));
      placed = placed-more c pages items s written at_is (All-weaker (IsSized c tasks pages) (HasItsWords c pages) (λ t size. size.1) items before.sound.sized) sized none before.placed;
    }

-- What is wrong with an item is what is wrong with the list.
pub fault_told : {c : Cut} {tasks pages : ℕ} {done : List Bool} {masks : List ℕ} (place : ℕ) (list : List Swept) (s : Swept) (fault : GatherFault)
    → IsGathered c tasks pages (take place list) done masks → length done ≡ tasks → slice_get list place ≡ Some s
    → IsFaultAt c pages done s fault → IsFaultOf c tasks pages list fault
fault_told {c} {tasks} {pages} {done} place list s fault before width here = go fault where
  first : IsFirstOf c tasks pages list (take place list) s
  first = record { place = place; here = here; before_it = refl; sound = before.sound }

  so_far : (k : ℕ) (flag : Bool) → k < tasks → get_or done k false ≡ flag → times k (take place list) ≡ cond flag 1 0
  so_far k flag known is = before.counted k known ∙ ap (λ (b : Bool). cond b 1 0) is

  go : (fault : GatherFault) → IsFaultAt c pages done s fault → IsFaultOf c tasks pages list fault
  go Memory at = absurd at
  go (Stranger k) (task, past) = (take place list, s, first, task, omega arith)
  go (Double k) (task, within, again) = let known : k < tasks = omega arith in (take place list, s, first, task, known, so_far k true known again)
  go (WrongSize k) (task, within, fresh, size) = let known : k < tasks = omega arith in (take place list, s, first, task, known, so_far k false known fresh, size)
  go (Missing k) at = absurd at
