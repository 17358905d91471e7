-- What a revoker's command comes to, decided before anything changes; and what the change leaves.
use Rattle.std.specs.Prelude.{◌≡◌, ◌≢◌, ◌<◌, ◌+◌, ◌*◌, ◌/◌, ℕ, Bool, List, false, true, length, slice_set}
use Rattle.heap_model.specs.Heap.{due}
use Rattle.sweep_masks.specs.Masks.{AreBits, takes_tag_at}
use Rattle.tag_memory.specs.Cells.{all_dirty, register_count}
use Rattle.tag_memory.specs.Extent.{page_granules}
use Rattle.machine_steps.specs.State.{State, with_register}
use Rattle.revoker_steps.specs.Revoker.{RevokerStep, after_paint, after_release, after_untag, is_in_page}
use Rattle.revoker_steps.specs.RevokerDirty.{revoker_dirty_after}
use Rattle.revoker_steps.specs.declared.command.RevokerCommand.{RevokerCommand}
use Rattle.revoker_steps.specs.declared.command.RevokerReply.{RevokerReply}
use Rattle.machine_storage.specs.Storage.{state_of}
use Rattle.machine_storage.specs.declared.followed.RevokerFollowed.{RevokerFollowed}
use Rattle.machine_storage.specs.declared.followed.RevokerFollowed.TheVariants.{Agrees, MustBe}
use Rattle.machine_storage.specs.declared.storage.Storage.{Storage}
use Rattle.machine_storage.specs.declared.storage.revoker.change.RevokerChange.{RevokerChange}
use Rattle.machine_storage.specs.declared.storage.revoker.change.RevokerChange.TheVariants.{Nothing, Paints, Visits, Granule, Register, Releases}
use Rattle.machine_storage.specs.declared.storage.revoker.change.RevokerDecision.{RevokerDecision}

-- The state that a change leaves.
abbrev pub revoker_left : Storage → RevokerChange → State
revoker_left m Nothing = state_of m
revoker_left m Paints = after_paint (state_of m)
revoker_left m (Visits page masks) = after_untag (is_in_page page) (state_of m)
revoker_left m (Granule i bits) = record (state_of m) { granules = slice_set m.memory.granules i (bits, false) }
revoker_left m (Register r word) = with_register (state_of m) r (word, false)
revoker_left m Releases = after_release (state_of m)

-- The pages that are dirty then.
abbrev pub revoker_dirty_left : Storage → RevokerChange → List Bool
revoker_dirty_left m Nothing = m.memory.dirty
revoker_dirty_left m Paints = all_dirty m.memory.dirty
revoker_dirty_left m (Visits page masks) = slice_set m.memory.dirty page false
revoker_dirty_left m (Granule i bits) = m.memory.dirty
revoker_dirty_left m (Register r word) = m.memory.dirty
revoker_dirty_left m Releases = m.memory.dirty

-- The memory has such a page, and the masks are those of the tags that a visit takes there.
pub record CanVisit (m : Storage) (page : ℕ) (masks : List ℕ) : Type 0 where
  pub inside : page_granules * page < length m.memory.granules
  pub masks_take : AreBits (λ j. takes_tag_at m.memory m.heap.painted (page_granules * page + j)) page_granules masks

-- A change can be made: an epoch is open, or isn't; it names a page, a granule, a register; the masks are those of the tags that
-- are to go.
abbrev pub CanRevoke : Storage → RevokerChange → Type 0
CanRevoke m Nothing = Unit {0}
CanRevoke m Paints = m.heap.is_open ≡ false
CanRevoke m (Visits page masks) = CanVisit m page masks
CanRevoke m (Granule i bits) = i < length m.memory.granules
CanRevoke m (Register r word) = r < register_count
CanRevoke m Releases = m.heap.is_open ≡ true

-- The command is answered so, and the change that is left to make leaves what its step does.
pub record IsRevokerDecision (m : Storage) (command : RevokerCommand) (decision : RevokerDecision) : Type 0 where
  pub step : RevokerStep (state_of m) command decision.reply (revoker_left m decision.change)
  pub can : CanRevoke m decision.change
  pub dirty : revoker_dirty_left m decision.change ≡ revoker_dirty_after (state_of m) command m.memory.dirty

-- A tagged granule of memory has its base in a block that is due.
pub record HasDue (m : Storage) : Type 0 where
  pub granule : ℕ
  pub taken : takes_tag_at m.memory (due m.heap) granule ≡ true

-- None on this page has.
abbrev pub HasNoDue : Storage → ℕ → Type 0
HasNoDue m page = (i : ℕ) → i / page_granules ≡ page → takes_tag_at m.memory (due m.heap) i ≡ false

-- A revoker's command that was answered so comes to this, and leaves the state new: it has one reply.
abbrev pub IsRevokerFollowed : State → RevokerCommand → RevokerReply → RevokerFollowed → State → Type 0
IsRevokerFollowed old command answer Agrees new = RevokerStep old command answer new
IsRevokerFollowed old command answer (MustBe reply) new =
    ((left : State) → RevokerStep old command answer left → ⊥) × ((left : State) × RevokerStep old command reply left) × (answer ≢ reply) × (new ≡ old)
