use Rattle.std.proofs.Common.{◌*◌, ◌+◌, ap, arith, length, subst, sym}
use Rattle.machine_steps.specs.Dirty.{HasPages}
use Rattle.heap_machine.specs.Storage.{MachineState}
use Rattle.tag_memory.specs.Cells.{is_dirty_at}
use Rattle.revoker_steps.specs.Tracked.{AreClean}
use Rattle.revokers.proofs.DirtyLaws.{IsDueAt-dirty, clean-none_due, on_dirty}
use Rattle.revokers.proofs.EndingLaws.{finishes}
use Rattle.revokers.specs.Ending.{Finishes}
use Rattle.revokers.specs.declared.ending.Finished.{Finished}
use Rattle.revokers.proofs.cornucopia.Cornucopia.finish_open.Goals as goal

pub release-bytes-requires-clause-may : goal.release-bytes-requires-clause-may
release-bytes-requires-clause-may c =
    let now = c.untag_registers-in_registers.new.machine in
    let memory = c.invariant-2.ensures in
    let pages : HasPages now.state now.dirty = omega (arith, memory.count, memory.dirty_marks, ap length c.memory.ensures.granules, ap length c.memory.ensures.dirty) in
    let clean : AreClean now.dirty = subst AreClean (sym c.untag_registers-in_registers.ensures.dirty) c.visit_dirty-in_memory.ensures.clean in
    c.cornucopia_law.ensures.none_due now.state (on_dirty now.dirty) c.untag_registers-in_registers.ensures.open
    (IsDueAt-dirty now.state now.dirty c.invariant.ensures.dirtied) (clean-none_due now.state now.dirty pages clean) c.untag_registers-in_registers.ensures.untagged

pub returns-clause-finishes : goal.returns-clause-finishes
returns-clause-finishes c =
    let old = c.self.inside.machine in
    let visited = c.visit_dirty-in_memory.new.machine.state in
    let untagged = c.untag_registers-in_registers.new.machine.state in
    let new = c.release-bytes.new.machine.state in
    let before = c.args.acts.now.items in
    let one = c.visit_dirty-in_memory.new.acts.items in
    let two = c.untag_registers-in_registers.new.acts.items in
    let after = c.release-bytes.new.acts.items in
    let first = c.visit_dirty-in_memory.ensures.visits in
    let then = c.untag_registers-in_registers.ensures.untags in
    let finished : Finished = record { cleared = c.visit_dirty-in_memory.result + c.untag_registers-in_registers.result; bytes = c.release-bytes.result } in
    subst (λ (m : MachineState). Finishes (is_dirty_at m.dirty) m.state before finished new after) c.self.view_is
    (finishes (is_dirty_at old.dirty) old.state visited untagged new c.visit_dirty-in_memory.result c.untag_registers-in_registers.result c.release-bytes.result before one two after first then c.release-bytes.ensures.step
    c.release-bytes.ensures.told)

pub returns-clause-in_use : goal.returns-clause-in_use
returns-clause-in_use c =
    c.passes_law.ensures.in_use c.untag_registers-in_registers.new.machine.state c.release-bytes.result c.release-bytes.new.machine.state
    c.invariant.ensures.sound.safe c.release-bytes.ensures.step
