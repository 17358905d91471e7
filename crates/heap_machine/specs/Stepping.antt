-- What a machine leaves that did a command, or couldn't, and what then holds of it.
use Rattle.std.specs.Prelude.{◌≡◌, ◌≢◌, IfErr, IfOk, IsOk, Ok, OnErr, OnOk, Result}
use Rattle.trace_text.specs.declared.trace.Command.{Command}
use Rattle.heap_reply.specs.declared.reply.Reply.{Reply}
use Rattle.machine_steps.specs.Dirty.{IsDirtied, dirty_after}
use Rattle.machine_steps.specs.Safety.{IsSafe, IsUnused, LeavesInUse}
use Rattle.machine_steps.specs.Step.{NeedsNoMemory, Step}
use Rattle.machine_storage.specs.Followed.{FollowsFreely, IsFollowed}
use Rattle.machine_storage.specs.declared.fault.MachineFault.{MachineFault}
use Rattle.machine_storage.specs.declared.fault.MachineFault.TheVariants.{Memory}
use Rattle.machine_storage.specs.declared.followed.Followed.{Followed}
use Rattle.machine_storage.specs.declared.followed.Followed.TheVariants.{Agrees}
use Rattle.heap_machine.specs.Storage.{MachineState}

-- From the machine old the command was answered so, and left new.
pub record IsStepped (old : MachineState) (command : Command) (result : Result Reply MachineFault) (new : MachineState) : Type 0 where
  pub step : IfOk result (λ reply. Step old.state command reply new.state)
  pub err : OnErr result (new ≡ old)
  pub memory : IfErr result (λ fault. fault ≡ Memory)
  pub ok : NeedsNoMemory old.state command → IsOk result
  pub cutting : new.cutting ≡ old.cutting
  pub safe : IsSafe new.state
  pub unused : IfOk result (λ reply. IsUnused old.state command reply)
  pub revoked : IfOk result (λ reply. LeavesInUse command reply new.state)
  -- A page is dirty where a tagged word was stored into it since an epoch began, and so stands each tagged word of memory
  -- whose base lies in a painted block.
  pub dirty : OnOk result (new.dirty ≡ dirty_after old.state command old.dirty)
  pub dirtied : IsDirtied new.state new.dirty

-- From the machine old the command was done as it was answered, where it may be answered so, and left new.
pub record IsFollowing (old : MachineState) (command : Command) (answer : Reply) (result : Result Followed MachineFault) (new : MachineState) : Type 0 where
  pub followed : IfOk result (λ it. IsFollowed old.state command answer it new.state)
  pub still : result ≢ Ok Agrees → new ≡ old
  pub memory : IfErr result (λ fault. fault ≡ Memory)
  pub ok : FollowsFreely old.state command answer → IsOk result
  pub cutting : new.cutting ≡ old.cutting
  pub safe : IsSafe new.state
  pub unused : result ≡ Ok Agrees → IsUnused old.state command answer
  pub revoked : result ≡ Ok Agrees → LeavesInUse command answer new.state
  pub dirty : result ≡ Ok Agrees → new.dirty ≡ dirty_after old.state command old.dirty
  pub dirtied : IsDirtied new.state new.dirty
