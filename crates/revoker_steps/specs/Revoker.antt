-- A revoker's own steps (Filardo et al. 2020, Cornucopia; 2024, Cornucopia Reloaded: their passes, taken apart): in what
-- order it takes tags is its own choice. It may free the painted blocks only where no tag for them is left.
use Rattle.std.specs.Prelude.{◌≡◌, ◌==◌, ◌+◌, ◌-◌, ◌*◌, ◌/◌, ◌%◌, ◌&&◌, ℕ, Bool, not, List, [], ◌∷◌, Option, Some, None, count_by, if◌then◌else◌, length, nat_le, nat_lt, slice_index_or, false}
use Rattle.heap_model.specs.Blocks.{Span, bytes_in}
use Rattle.heap_model.specs.Quarantine.{with_epoch, without_epoch}
use Rattle.heap_model.specs.Sweep.{swept_cell, swept_granule, takes_tag}
use Rattle.tag_memory.specs.Cells.{cell_of, null_cell}
use Rattle.tag_memory.specs.Extent.{page_granules}
use Rattle.machine_steps.specs.State.{State}
use Rattle.revoker_steps.specs.declared.command.RevokerCommand.{RevokerCommand}
use Rattle.revoker_steps.specs.declared.command.RevokerCommand.TheVariants.{Paint, Release, UntagGranule, UntagRegister, Visit}
use Rattle.revoker_steps.specs.declared.command.RevokerReply.{RevokerReply}
use Rattle.revoker_steps.specs.declared.command.RevokerReply.TheVariants.{Cleared, Done, Released}
use Rattle.revoker_steps.specs.declared.command.RevokerReply.TheVariants as reply
use Rattle.revoker_steps.specs.declared.command.RevokerTrap.{RevokerTrap}
use Rattle.revoker_steps.specs.declared.command.RevokerTrap.TheVariants as trap
use Rattle.revoker_steps.specs.Changed.{changed_where, count_where}

-- ---- what a step leaves

-- The state once each block that waited is painted: no tag is taken.
abbrev pub after_paint : State → State
after_paint s = record s { heap = with_epoch s.heap }

-- The state once each granule whose index passes the test has lost its tag, where its base lies in a painted block.
abbrev pub after_untag : (ℕ → Bool) → State → State
after_untag test s = record s { granules = changed_where test (swept_granule s.heap.painted) s.granules }

-- The same of registers.
abbrev pub after_untag_registers : (ℕ → Bool) → State → State
after_untag_registers test s = record s { registers = changed_where test (swept_cell s.heap.painted) s.registers }

-- The state once the epoch has ended, with all tags as they were.
abbrev pub after_release : State → State
after_release s = record s { heap = without_epoch s.heap }

-- ---- which tags a step is about

-- The granule is on that page.
abbrev pub is_in_page : ℕ → ℕ → Bool
is_in_page page i = i / page_granules == page

-- The granule is the one at that address.
abbrev pub is_at : State → ℕ → ℕ → Bool
is_at s address i = i == (address - s.heap.base) / 16

-- The register is that one.
abbrev pub is_register : ℕ → ℕ → Bool
is_register r k = k == r

-- How many granules whose index passes the test have a tag to lose.
abbrev pub untag_takes : (ℕ → Bool) → State → ℕ
untag_takes test s = count_where test (λ g. takes_tag s.heap.painted (cell_of g)) s.granules

-- The same of registers.
abbrev pub untag_registers_takes : (ℕ → Bool) → State → ℕ
untag_registers_takes test s = count_where test (takes_tag s.heap.painted) s.registers

-- How many tagged words have their base in a painted block, in memory and in registers.
abbrev pub tags_left : State → ℕ
tags_left s = count_by (λ g. takes_tag s.heap.painted (cell_of g)) s.granules + count_by (takes_tag s.heap.painted) s.registers

-- No register and no granule is tagged with its base in one of these blocks.
pub record IsNothingLeft (s : State) (held : List Span) : Type 0 where
  pub registers : (r : ℕ) → takes_tag held (slice_index_or s.registers r null_cell) ≡ false
  pub granules : (i : ℕ) → takes_tag held (cell_of (slice_index_or s.granules i (0, false))) ≡ false

-- ---- steps

-- The checks of a revoker's command in order, each with the trap where it fails.
abbrev pub revoker_checks : State → RevokerCommand → List (Bool × RevokerTrap)
revoker_checks s Paint = (not s.heap.is_open, trap.Open) ∷ []
revoker_checks s (Visit page) = (s.heap.is_open, trap.NotOpen) ∷ (nat_lt (page_granules * page) (length s.granules), trap.Bounds) ∷ []
revoker_checks s (UntagGranule address) =
    (s.heap.is_open, trap.NotOpen)
    ∷ (nat_le s.heap.base address && nat_lt address (s.heap.base + s.heap.size), trap.Bounds)
    ∷ (address % 16 == 0, trap.Align) ∷ []
revoker_checks s (UntagRegister r) = (s.heap.is_open, trap.NotOpen) ∷ []
revoker_checks s Release = (s.heap.is_open, trap.NotOpen) ∷ (tags_left s == 0, trap.Left) ∷ []

-- The trap of the first check that fails.
abbrev pub first_failed_check : List (Bool × RevokerTrap) → Option RevokerTrap
first_failed_check [] = None
first_failed_check (c ∷ cs) = if c.0 then first_failed_check cs else Some c.1

-- What a revoker's command does where no check fails.
abbrev pub RevokerEffect : State → RevokerCommand → RevokerReply → State → Type 0
RevokerEffect old Paint answer new = (answer ≡ Done) × (new ≡ after_paint old)
RevokerEffect old (Visit page) answer new = (answer ≡ Cleared (untag_takes (is_in_page page) old)) × (new ≡ after_untag (is_in_page page) old)
RevokerEffect old (UntagGranule address) answer new =
    (answer ≡ Cleared (untag_takes (is_at old address) old)) × (new ≡ after_untag (is_at old address) old)
RevokerEffect old (UntagRegister r) answer new =
    (answer ≡ Cleared (untag_registers_takes (is_register r) old)) × (new ≡ after_untag_registers (is_register r) old)
RevokerEffect old Release answer new = (answer ≡ Released (bytes_in old.heap.painted)) × (new ≡ after_release old)

-- The step where a check fails, and where none does.
abbrev pub RevokerStepAfter : Option RevokerTrap → State → RevokerCommand → RevokerReply → State → Type 0
RevokerStepAfter None old command answer new = RevokerEffect old command answer new
RevokerStepAfter (Some trap) old command answer new = (answer ≡ reply.Trap trap) × (new ≡ old)

-- From the state old, the revoker's command is answered so and leaves the state new.
abbrev pub RevokerStep : State → RevokerCommand → RevokerReply → State → Type 0
RevokerStep old command answer new = RevokerStepAfter (first_failed_check (revoker_checks old command)) old command answer new
