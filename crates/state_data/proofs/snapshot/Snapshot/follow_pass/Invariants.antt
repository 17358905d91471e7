use Rattle.std.proofs.Common.{◌≡◌, ◌<◌, ◌*◌, ◌/◌, ℕ, List, length}
use Rattle.tag_memory.specs.Cells.{Granule}
use Rattle.tag_memory.specs.Tags.{is_set_for, is_tagged}
use Rattle.state_data.specs.declared.snapshot.Snapshot.{Snapshot}
use Rattle.state_data.proofs.snapshot.Snapshot.follow_pass.Given as goal

-- The words below w are those of the granules now.
pub record AreFollowed (snapshot before : Snapshot) (granules : List Granule) (w end : ℕ) : Type 0 where
  pub count : 64 * length snapshot.tags.items ≡ length granules
  pub end_is : end ≡ length snapshot.tags.items
  pub bits : (k : ℕ) → k / 64 < w → is_set_for snapshot.tags.items k ≡ is_tagged granules k
  pub registers : snapshot.registers ≡ before.registers
  pub waiting : snapshot.waiting ≡ before.waiting
  pub painted : snapshot.painted ≡ before.painted
  pub is_open : snapshot.is_open ≡ before.is_open

abbrev pub invariant-loop-w : goal.invariant-loop-w
invariant-loop-w l = AreFollowed l.self l.fn.self l.memory.granules l.w l.w-end
