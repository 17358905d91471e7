-- What a worker is given, and what it gives back.
use Rattle.std.specs.Prelude.{◌≡◌, ◌≤◌, IfErr, IfOk, List}
use Rattle.mark_board.specs.Board.{BoardState, IsOf, IsSeat, SeatState, no_bits}
use Rattle.sweep_masks.specs.Claims.{HasTasks, IsDone}
use Rattle.sweep_masks.specs.Gather.{IsSwept}
use Rattle.sweep_masks.specs.declared.task.Swept.{Swept}
use Rattle.sweep_masks.specs.declared.workers.Job.{Job}
use Rattle.sweep_masks.specs.declared.workers.Shared.{Shared}
use Rattle.sweep_masks.specs.declared.workers.Work.{Work}
use Rattle.sweep_masks.specs.declared.sweep.SweepFault.TheVariants.{Memory}

-- A seat with one part that has claimed nothing, and a task to begin with.
pub record IsJob (board : BoardState) (job : Job) : Type 0 where
  pub seat : IsOf board job.seat
  pub part : job.seat.parts ≡ 1
  pub none : job.seat.mine ≡ no_bits board
  pub start : job.start ≤ board.bits
  pub sound : IsSeat job.seat

-- The item has the masks of its task, of what is shared.
abbrev pub IsSweptBy : {G : Type 0} → Shared G → Swept → Type 0
IsSweptBy shared s = IsSwept shared.memory.now shared.shadow.now shared.cutting.now s

-- The board has a bit for each task of the memory.
abbrev pub HasAllTasks : {G : Type 0} → Shared G → Type 0
HasAllTasks shared = HasTasks shared.cutting.now shared.memory.now shared.board.now

-- The seat has tried every task, and has claimed just those of the list, each once, which were swept.
abbrev pub IsDoneBy : {G : Type 0} → Shared G → SeatState → List Swept → Type 0
IsDoneBy shared seat items = IsDone shared.memory.now shared.shadow.now shared.cutting.now shared.board.now.bits seat items

-- The seat, and the tasks that it claimed, swept, where no memory was refused.
pub record IsWorkOf {G : Type 0} (shared : Shared G) (work : Work) : Type 0 where
  pub seat : IsOf shared.board.now work.seat
  pub part : work.seat.parts ≡ 1
  pub found : IfOk work.found (λ items. IsDoneBy shared work.seat items.items)
  pub fault : IfErr work.found (λ fault. fault ≡ Memory)
