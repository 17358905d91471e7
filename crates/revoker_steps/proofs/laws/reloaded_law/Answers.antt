use Rattle.machine_steps.specs.Follow.{Follows}
use Rattle.revoker_steps.proofs.BarredLaws.{WordLaws}
use Rattle.revoker_steps.proofs.ReloadedLaws.{epoch-is, epoch-releases, finishes, start-is}
use Rattle.revoker_steps.proofs.RevokerLaws.{EpochLaws}
use Rattle.revoker_steps.proofs.laws.reloaded_law.Goals as goal

pub returns-clause-start : goal.returns-clause-start
returns-clause-start c = λ s mid reply registers new cover closed step run. start-is Follows s mid reply registers new cover closed step run

pub returns-clause-registers : goal.returns-clause-registers
returns-clause-registers c =
    let words = c.derivation_law.ensures in
    let laws : WordLaws = record { narrowed = words.narrowed; capability = words.capability; tested = words.tested; moved = words.moved; masked = words.masked } in
    let epochs : EpochLaws = record { begun = c.sound_heap_law.ensures.begun; ended = c.sound_heap_law.ensures.ended } in
    λ first pages events new left is closed count run. (epoch-is epochs laws c.any_placement_law.ensures.safe first pages events new left is closed count run).barred.registers

pub returns-clause-finishes : goal.returns-clause-finishes
returns-clause-finishes c = λ s seen pages new opened marks cover run. finishes Follows s seen pages new marks cover run

pub returns-clause-releases : goal.returns-clause-releases
returns-clause-releases c =
    let words = c.derivation_law.ensures in
    let laws : WordLaws = record { narrowed = words.narrowed; capability = words.capability; tested = words.tested; moved = words.moved; masked = words.masked } in
    let epochs : EpochLaws = record { begun = c.sound_heap_law.ensures.begun; ended = c.sound_heap_law.ensures.ended } in
    λ first pages events new left is closed count run all. epoch-releases new left (epoch-is epochs laws c.any_placement_law.ensures.safe first pages events new left is closed count run) all
