-- The parts of a machine after a revoker's step.
use Rattle.std.proofs.Common.{◌≡◌, List, Bool, refl, sym, subst}
use Rattle.std.specs.Prelude.{◌≢◌}
use Rattle.machine_steps.specs.Dirty.{HasPages, IsDirtied}
use Rattle.machine_steps.specs.Sound.{IsMachine}
use Rattle.machine_steps.specs.State.{State}
use Rattle.revoker_steps.specs.Revoker.{RevokerStep}
use Rattle.revoker_steps.specs.RevokerDirty.{revoker_dirty_after}
use Rattle.revoker_steps.specs.declared.command.RevokerCommand.{RevokerCommand}
use Rattle.revoker_steps.specs.declared.command.RevokerReply.{RevokerReply}
use Rattle.machine_storage.specs.RevokerDecision.{IsRevokerFollowed}
use Rattle.machine_storage.specs.Storage.{IsStorage, state_of}
use Rattle.machine_storage.specs.declared.followed.RevokerFollowed.{RevokerFollowed}
use Rattle.machine_storage.specs.declared.followed.RevokerFollowed.TheVariants.{Agrees, MustBe}
use Rattle.machine_storage.specs.declared.storage.Storage.{Storage}

-- They are sound, by what the crate below says of such steps.
pub IsStorage-revoked : ((s : State) (c : RevokerCommand) (r : RevokerReply) (t : State) → IsMachine s → RevokerStep s c r t → IsMachine t)
    → ((s : State) (c : RevokerCommand) (r : RevokerReply) (t : State) (dirty : List Bool) → HasPages s dirty → IsDirtied s dirty → RevokerStep s c r t → IsDirtied t (revoker_dirty_after s c dirty))
    → (old new : Storage) (c : RevokerCommand) (r : RevokerReply) → IsStorage old → HasPages (state_of old) old.memory.dirty
    → RevokerStep (state_of old) c r (state_of new) → new.memory.dirty ≡ revoker_dirty_after (state_of old) c old.memory.dirty → new.memory.base ≡ new.heap.base → IsStorage new
IsStorage-revoked machine marked old new c r storage pages step marks base = record {
  base = base;
  sound = machine (state_of old) c r (state_of new) storage.sound step;
  dirtied = subst (IsDirtied (state_of new)) (sym marks) (marked (state_of old) c r (state_of new) old.memory.dirty pages storage.dirtied step);
}

-- And after one that was answered.
pub IsStorage-revoked_as : ((s : State) (c : RevokerCommand) (r : RevokerReply) (t : State) → IsMachine s → RevokerStep s c r t → IsMachine t)
    → ((s : State) (c : RevokerCommand) (r : RevokerReply) (t : State) (dirty : List Bool) → HasPages s dirty → IsDirtied s dirty → RevokerStep s c r t → IsDirtied t (revoker_dirty_after s c dirty))
    → (old new : Storage) (c : RevokerCommand) (answer : RevokerReply) (followed : RevokerFollowed) → IsStorage old → HasPages (state_of old) old.memory.dirty
    → IsRevokerFollowed (state_of old) c answer followed (state_of new) → (followed ≡ Agrees → new.memory.dirty ≡ revoker_dirty_after (state_of old) c old.memory.dirty) → (followed ≢ Agrees → new ≡ old)
    → new.memory.base ≡ new.heap.base → IsStorage new
IsStorage-revoked_as machine marked old new c answer Agrees storage pages step marks still base = IsStorage-revoked machine marked old new c answer storage pages step (marks refl) base
IsStorage-revoked_as machine marked old new c answer (MustBe reply) storage pages step marks still base = subst IsStorage (sym (still (λ is. absurd cc))) storage
