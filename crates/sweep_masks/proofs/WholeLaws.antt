-- Tasks that are all swept, each once, gather to the masks of the whole memory.
use Rattle.std.proofs.Common.{◌≡◌, ℕ, ◌+◌, ◌-◌, ◌*◌, ◌/◌, ◌%◌, ◌<◌, ◌≤◌, Bool, List, length, take, refl, subst, get_or, ap, sym, ◌∙◌, arith}
use Rattle.std.proofs.lemmas.Nat.{div-add-mod', mod_below}
use Rattle.std.proofs.lemmas.Option.{get_or_from_slice_get, slice_get_within}
use Rattle.sweep_masks.specs.Claims.{AreAllSwept}
use Rattle.sweep_masks.specs.Gather.{AreGathered, IsFaultOf, IsFirstOf, IsPlaced, IsSwept, times}
use Rattle.sweep_masks.specs.Laws.{AreBits-words, IsTask-below, below_of-IsTask}
use Rattle.sweep_masks.specs.Masks.{AreMasks, is_hit_at}
use Rattle.sweep_masks.specs.Tasks.{Cut, IsTask, IsTaskCount, end_page, first_page, page_count, task_words}
use Rattle.sweep_masks.specs.declared.gathering.GatherFault.{GatherFault}
use Rattle.sweep_masks.specs.declared.gathering.GatherFault.TheVariants.{Double, Memory, Missing, Stranger, WrongSize}
use Rattle.sweep_masks.specs.declared.task.Swept.{Swept}
use Rattle.sweep_masks.proofs.GatherLaws.{found, times-before}
use Rattle.sweep_masks.proofs.TaskLaws.{some_each}
use Rattle.tag_memory.specs.Cells.{MemoryState}
use Rattle.tag_memory.specs.Tags.{is_set, is_set_for}

-- Granule i, by the item of its task.
by_item : (m : MemoryState) (shadow : List Bool) (c : Cut) (masks : List ℕ) (s : Swept) (b i : ℕ)
    → b ≡ s.task * c.pages_per_task → b ≤ i / 256 → i / 256 < b + c.pages_per_task → i / 256 < page_count m
    → IsSwept m shadow c s → IsPlaced c masks s
    → is_set_for masks i ≡ is_hit_at m shadow i
by_item m shadow c masks s b i at low high inside (known, swept) placed =
    let p : ℕ = c.pages_per_task in
    let pages : ℕ = page_count m in
    let a : ℕ = s.task * c.pages_per_task in
    let e : b ≡ a = at in
    let j : ℕ = i - 256 * a in
    let j_is : 256 * a + j ≡ i = omega arith in
    let j_lt : j < 256 * (end_page c pages s.task - first_page c s.task) = omega arith in
    let size : length s.masks.items ≡ 4 * (end_page c pages s.task - first_page c s.task) = AreBits-words _ _ _ swept in
    let w_lt : j / 64 < length s.masks.items = omega arith in
    let word : get_or masks (4 * a + j / 64) 0 ≡ get_or s.masks.items (j / 64) 0 = placed (j / 64) w_lt in
    let w_is : i / 64 ≡ 4 * a + j / 64 = omega arith in
    let r_is : i % 64 ≡ j % 64 = omega arith in
    let hit : is_set_for s.masks.items j ≡ is_hit_at m shadow (256 * a + j) = swept.bits j j_lt in
    (λ t. is_set (get_or masks (w_is t) 0) (r_is t)) ∙ ap (λ (z : ℕ). is_set z (j % 64)) word ∙ hit ∙ ap (λ (z : ℕ). is_hit_at m shadow z) j_is

-- Of tasks that are all swept, each once, nothing is wrong but want of memory.
pub only_memory : {m : MemoryState} {shadow : List Bool} {c : Cut} {tasks : ℕ} {items : List Swept} (fault : GatherFault)
    → AreAllSwept m shadow c items → IsTaskCount c (page_count m) tasks → IsFaultOf c tasks (page_count m) items fault → fault ≡ Memory
only_memory {m} {shadow} {c} {tasks} {items} fault all count = go fault where
  swept : (before : List Swept) (s : Swept) → IsFirstOf c tasks (page_count m) items before s → IsSwept m shadow c s
  swept before s first = subst (IsSwept m shadow c) (get_or_from_slice_get items first.place s s first.here) (all.swept first.place s (slice_get_within items first.place s first.here))

  go : (fault : GatherFault) → IsFaultOf c tasks (page_count m) items fault → fault ≡ Memory
  go Memory of = refl
  go (Stranger k) (before, s, first, task, past) =
      let below = below_of-IsTask c (page_count m) tasks s.task count (swept before s first).0 in absurd (omega arith)
  go (Double k) (before, s, first, task, known, again) =
      let more = times-before k items first.place s first.here task in
      let once = all.once k in
      let twice : times k (take first.place items) ≡ 1 = subst (λ (z : List Swept). times k z ≡ 1) first.before_it again in absurd (omega arith)
  go (WrongSize k) (before, s, first, task, known, fresh, size) =
      let words = AreBits-words _ _ _ (swept before s first).1 in
      absurd (size (words ∙ ap (λ (z : ℕ). task_words c (page_count m) z) task))
  go (Missing k) (sound, known, none, least) =
      let one = all.all k (IsTask-below c (page_count m) tasks k count known) in absurd (omega arith)

-- What is gathered of all tasks is the masks of the whole memory.
pub gathered_masks : {m : MemoryState} {shadow : List Bool} {c : Cut} {tasks : ℕ} {items : List Swept} (masks : List ℕ)
    → AreAllSwept m shadow c items → 256 * page_count m ≡ length m.granules → IsTaskCount c (page_count m) tasks
    → AreGathered c tasks (page_count m) items masks → AreMasks m shadow masks
gathered_masks {m} {shadow} {c} {tasks} {items} masks all whole tasks_are gathered =
    record {
      count = let words = gathered.count in omega arith;
      bits = λ i lt.
          let p : ℕ = c.pages_per_task in
          let q : ℕ = i / 256 in
          let k : ℕ = q / p in
          let inside : q < page_count m = omega arith in
          let some : 0 < p = (some_each tasks p (page_count m) (omega arith) tasks_are.enough).1 in
          let parts : k * p + q % p ≡ q = div-add-mod' q p in
          let rest : q % p < p = mod_below q p some in
          let known : IsTask c (page_count m) k = (let z : ℕ = k * p in omega arith) in
          let (item, its_task, (swept, placed)) = found (λ (s : Swept). IsSwept m shadow c s × IsPlaced c masks s) k items (λ n d l. (all.swept n d l, gathered.placed n d l)) (let one = all.all k known in omega arith) in
          by_item m shadow c masks item (k * p) i (ap (λ (z : ℕ). z * p) (sym its_task)) (let z : ℕ = k * p in omega arith) (let z : ℕ = k * p in omega arith) inside swept placed;
    }
