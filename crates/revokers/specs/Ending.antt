-- How a revoker ends its epoch, with no command of the program between: pages are visited, registers lose their tags, and
-- the painted blocks are released.
use Rattle.std.specs.Prelude.{◌≡◌, ◌<◌, ◌+◌, ◌++◌, ℕ, Bool, false, true, List, [], ◌∷◌, length, slice_index_or}
use Rattle.heap_model.specs.Blocks.{bytes_in}
use Rattle.heap_model.specs.Sweep.{takes_tag}
use Rattle.tag_memory.specs.Cells.{null_cell, register_count}
use Rattle.machine_steps.specs.State.{State}
use Rattle.machine_steps.specs.Step.{Step}
use Rattle.revoker_steps.specs.declared.command.RevokerCommand.TheVariants.{Release, UntagRegister}
use Rattle.revoker_steps.specs.declared.command.RevokerReply.{RevokerReply}
use Rattle.revoker_steps.specs.declared.command.RevokerReply.TheVariants.{Released}
use Rattle.revoker_steps.specs.Events.{IsAmong, Runs, cleared_by, cleared_in, register_untags, visits}
use Rattle.revoker_steps.specs.Events.Event.{Revoked}
use Rattle.revoker_steps.specs.Revoker.{RevokerStep, after_release}
use Rattle.revokers.specs.Acts.{untag_act, untag_acts, visit_acts}
use Rattle.revokers.specs.declared.acts.Act.{Act}
use Rattle.revokers.specs.declared.ending.Finished.{Finished}

-- The pages that pass the test are visited, and no others, which takes so many tags and is told.
pub record Visits (test : ℕ → Bool) (old : State) (before : List Act) (cleared : ℕ) (new : State) (after : List Act) : Type 0 where
  pub pages : List (ℕ × RevokerReply)
  pub steps : Runs Step old (visits pages) new
  pub all : (page : ℕ) → test page ≡ true → IsAmong pages page
  pub only : (page : ℕ) → IsAmong pages page → test page ≡ true
  pub count : cleared ≡ cleared_in pages
  pub told : after ≡ before ++ visit_acts pages

-- The register loses its tag, where its word's base lies in a painted block, which takes so many tags and, where it
-- takes one, is told.
pub record IsUntagged (register : ℕ) (old : State) (before : List Act) (cleared : ℕ) (new : State) (after : List Act) : Type 0 where
  pub reply : RevokerReply
  pub step : RevokerStep old (UntagRegister register) reply new
  pub count : cleared ≡ cleared_by reply
  pub told : after ≡ before ++ untag_act register reply

-- Each register does.
pub record Untags (old : State) (before : List Act) (cleared : ℕ) (new : State) (after : List Act) : Type 0 where
  pub registers : List (ℕ × RevokerReply)
  pub steps : Runs Step old (register_untags registers) new
  pub all : (r : ℕ) → r < register_count → IsAmong registers r
  pub count : cleared ≡ cleared_in registers
  pub told : after ≡ before ++ untag_acts registers

-- No register is tagged with its base in a painted block.
abbrev pub HasUntagged : State → Type 0
HasUntagged s = (r : ℕ) → takes_tag s.heap.painted (slice_index_or s.registers r null_cell) ≡ false

-- The painted blocks may be released.
abbrev pub MayRelease : State → Type 0
MayRelease s = RevokerStep s Release (Released (bytes_in s.heap.painted)) (after_release s)

-- A revoker without a barrier ends its epoch: the pages that pass the test are visited, and no others, then each register
-- loses its tag, and then the painted blocks are free, and all of it is told.
pub record Finishes (test : ℕ → Bool) (old : State) (before : List Act) (finished : Finished) (new : State) (after : List Act) : Type 0 where
  pub pages : List (ℕ × RevokerReply)
  pub registers : List (ℕ × RevokerReply)
  pub steps : Runs Step old (visits pages ++ register_untags registers ++ Revoked Release (Released finished.bytes) ∷ []) new
  pub all_pages : (page : ℕ) → test page ≡ true → IsAmong pages page
  pub only_pages : (page : ℕ) → IsAmong pages page → test page ≡ true
  pub all_registers : (r : ℕ) → r < register_count → IsAmong registers r
  pub cleared : finished.cleared ≡ cleared_in pages + cleared_in registers
  pub told : after ≡ before ++ (visit_acts pages ++ (untag_acts registers ++ record { command = Release; reply = Released finished.bytes } ∷ []))
