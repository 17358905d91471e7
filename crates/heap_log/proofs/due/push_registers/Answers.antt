use Rattle.std.proofs.Common.{◌++◌, ◌∙◌, Option, ap, sym}
use Rattle.std.proofs.lemmas.List.{append_assoc, append-nil}
use Rattle.heap_model.specs.Heap.{due}
use Rattle.heap_log.specs.declared.due.DueWord.{DueWord}
use Rattle.heap_log.specs.Due.{as_list, due_registers}
use Rattle.heap_log.proofs.DueLaws.{due_registers-more}
use Rattle.heap_log.proofs.due.push_registers.Goals as goal

pub loop-register-init : goal.loop-register-init
loop-register-init c = sym (append-nil c.args.words.now.items)

pub loop-register-preserved : goal.loop-register-preserved
loop-register-preserved c =
    let before = c.args.words.now.items in
    let so_far = due_registers (due c.args.machine.now.state.heap) c.args.machine.now.state.registers c.loop-register.register in
    c.in_ok-push.ensures ∙ ap (λ words. words ++ as_list c.in_register.result) c.loop-register.invariant ∙ append_assoc before so_far (as_list c.in_register.result)
    ∙ ap (λ (word : Option DueWord). before ++ (so_far ++ as_list word)) c.in_register.ensures ∙ ap (λ words. before ++ words) (sym (due_registers-more (due c.args.machine.now.state.heap) c.args.machine.now.state.registers c.loop-register.register))
