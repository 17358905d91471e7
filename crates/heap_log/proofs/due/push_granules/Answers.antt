use Rattle.std.proofs.Common.{◌++◌, ◌∙◌, Option, ap, sym}
use Rattle.std.proofs.lemmas.List.{append_assoc, append-nil}
use Rattle.heap_model.specs.Heap.{due}
use Rattle.heap_log.specs.declared.due.DueWord.{DueWord}
use Rattle.heap_log.specs.Due.{as_list, due_granules}
use Rattle.heap_log.proofs.DueLaws.{due_granules-more}
use Rattle.heap_log.proofs.due.push_granules.Goals as goal

pub loop-i-init : goal.loop-i-init
loop-i-init c = sym (append-nil c.args.words.now.items)

pub loop-i-preserved : goal.loop-i-preserved
loop-i-preserved c =
    let before = c.args.words.now.items in
    let so_far = due_granules (due c.args.machine.now.state.heap) c.args.machine.now.state.heap.base c.args.machine.now.state.granules c.loop-i.i in
    c.in_ok-push.ensures ∙ ap (λ words. words ++ as_list c.in_granule.result) c.loop-i.invariant ∙ append_assoc before so_far (as_list c.in_granule.result)
    ∙ ap (λ (word : Option DueWord). before ++ (so_far ++ as_list word)) c.in_granule.ensures ∙ ap (λ words. before ++ words) (sym (due_granules-more (due c.args.machine.now.state.heap) c.args.machine.now.state.heap.base c.args.machine.now.state.granules c.loop-i.i))
