-- What a worker comes to, and what all do together: the tasks of their lists are all tasks, each once.
use Rattle.std.proofs.Common.{◌≡◌, ℕ, ◌+◌, ◌/◌, ◌<◌, All, Bool, List, [], ◌∷◌, ◌++◌, length, subst, sym, refl}
use Rattle.std.proofs.lemmas.List.Elements.{All-append, All-push}
use Rattle.mark_board.specs.Bits.{Apart, Within, union}
use Rattle.mark_board.specs.Board.{SeatState}
use Rattle.sweep_masks.specs.ClaimLaws.{Accounts-join, Accounts-more, HasAll-join, HasAll-next, each_once}
use Rattle.sweep_masks.specs.Claims.{Accounts, AreAllSwept, HasAll, IsDone, with_task}
use Rattle.mark_board.specs.Bits.{has}
use Rattle.sweep_masks.specs.Laws.{below_of-IsTask}
use Rattle.sweep_masks.specs.Work.{IsDoneBy, IsSweptBy}
use Rattle.sweep_masks.specs.declared.workers.Shared.{Shared}
use Rattle.sweep_masks.specs.Tasks.{Cut, IsTaskCount, page_count}
use Rattle.sweep_masks.specs.declared.task.Swept.{Swept}
use Rattle.tag_memory.specs.Cells.{MemoryState}

-- What a seat has come to: the tasks of the list were swept, its bits account for them, and it has tried those from one task up to another.
pub record HasSwept {G : Type 0} (shared : Shared G) (seat : SeatState) (from next : ℕ) (list : List Swept) : Type 0 where
  pub swept : All (IsSweptBy shared) list
  pub accounts : Accounts seat.mine list
  pub tried : HasAll seat.seen from next

-- One more task, claimed and swept, with the seat before and after.
pub record IsNext {G : Type 0} (shared : Shared G) (old new : SeatState) (next : ℕ) (s : Swept) : Type 0 where
  pub swept : IsSweptBy shared s
  pub inside : s.task / 64 < length old.mine
  pub fresh : has old.mine s.task ≡ 0
  pub mine : new.mine ≡ with_task old.mine s.task
  pub seen : Within old.seen new.seen
  pub run : HasAll new.seen next (s.task + 1)

-- What it leaves.
pub grown : {G : Type 0} {shared : Shared G} {old new : SeatState} {from next : ℕ} {list : List Swept} {s : Swept}
    → HasSwept shared old from next list → IsNext shared old new next s → HasSwept shared new from (s.task + 1) (list ++ s ∷ [])
grown {shared} {old} {new} {from} {next} {list} {s} before one = record {
  swept = All-push (IsSweptBy shared) list s before.swept one.swept;
  accounts = Accounts-more old.mine new.mine list s one.inside one.fresh one.mine before.accounts;
  tried = HasAll-next old.seen new.seen from next (s.task + 1) one.seen before.tried one.run;
}

-- Two lists with the seats that account for them.
pub together : {G : Type 0} {a b both : SeatState} {xs ys zs : List Swept} (shared : Shared G)
    → zs ≡ xs ++ ys → Apart a.mine b.mine → both.mine ≡ union a.mine b.mine → both.seen ≡ union a.seen b.seen
    → IsDoneBy shared a xs → IsDoneBy shared b ys → IsDoneBy shared both zs
together {a} {b} {both} {xs} {ys} shared is apart mine seen one two =
    let swept : All (IsSweptBy shared) (xs ++ ys) = All-append (IsSweptBy shared) xs ys one.swept two.swept in
    let accounts : Accounts (union a.mine b.mine) (xs ++ ys) = Accounts-join a.mine b.mine xs ys apart one.accounts two.accounts in
    let tried : HasAll (union a.seen b.seen) 0 shared.board.now.bits = HasAll-join a.seen b.seen 0 shared.board.now.bits one.tried in
    record {
      swept = subst (λ (z : List Swept). All (IsSweptBy shared) z) (sym is) swept;
      accounts = subst (λ (z : List Swept). Accounts both.mine z) (sym is) (subst (λ (z : List ℕ). Accounts z (xs ++ ys)) (sym mine) accounts);
      tried = subst (λ (z : List ℕ). HasAll z 0 shared.board.now.bits) (sym seen) tried;
    }

-- At the end the bits that are claimed are those seen: each task was claimed once.
pub all_once : (m : MemoryState) (shadow : List Bool) (c : Cut) (tasks : ℕ) (seat : SeatState) (items : List Swept)
    → IsTaskCount c (page_count m) tasks → seat.mine ≡ seat.seen → IsDone m shadow c tasks seat items → AreAllSwept m shadow c items
all_once m shadow c tasks seat items count same done =
    let once = each_once tasks seat.mine seat.mine seat.seen items refl same done.accounts done.tried in
    record { swept = done.swept; once = once.0; all = λ k is. once.1 k (below_of-IsTask c (page_count m) tasks k count is) }
