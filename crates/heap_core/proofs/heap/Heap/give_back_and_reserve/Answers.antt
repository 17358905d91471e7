use Rattle.std.proofs.Common.{◌≡◌, ◌∙◌, ap}
use Rattle.heap_model.specs.Blocks.{bytes_in}
use Rattle.heap_model.specs.Laws.{due-closed, without_due-closed}
use Rattle.heap_model.specs.Quarantine.{without_waiting}
use Rattle.heap_core.proofs.heap.Heap.give_back_and_reserve.Goals as goal

pub returns-clause-bytes : goal.returns-clause-bytes
returns-clause-bytes c = c.give_back-waiting.ensures.bytes ∙ ap bytes_in (due-closed c.args.self.now c.requires)

pub returns-clause-none : goal.returns-clause-none
returns-clause-none c =
    let free : c.give_back-waiting.new.self ≡ without_waiting c.args.self.now = c.give_back-waiting.ensures.free ∙ without_due-closed c.args.self.now c.requires in
    rw free at c.hand_out.ensures.none

pub returns-clause-free : goal.returns-clause-free
returns-clause-free c =
    let free : c.give_back-waiting.new.self ≡ without_waiting c.args.self.now = c.give_back-waiting.ensures.free ∙ without_due-closed c.args.self.now c.requires in
    λ none. c.hand_out.ensures.unchanged none ∙ free

pub returns-clause-place : goal.returns-clause-place
returns-clause-place c =
    let free : c.give_back-waiting.new.self ≡ without_waiting c.args.self.now = c.give_back-waiting.ensures.free ∙ without_due-closed c.args.self.now c.requires in
    rw free at c.hand_out.ensures.place

pub returns-clause-live : goal.returns-clause-live
returns-clause-live c =
    let free : c.give_back-waiting.new.self ≡ without_waiting c.args.self.now = c.give_back-waiting.ensures.free ∙ without_due-closed c.args.self.now c.requires in
    rw free at c.hand_out.ensures.live
