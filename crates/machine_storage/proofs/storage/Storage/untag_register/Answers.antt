use Rattle.std.proofs.Common.{◌≡◌, ◌∙◌, ◌<◌, ap, false, length, refl, subst, sym, true, arith}
use Rattle.heap_model.specs.Laws.{due-open}
use Rattle.heap_model.specs.Sweep.{takes_tag}
use Rattle.tag_memory.specs.Cells.{register_at}
use Rattle.revoker_steps.specs.declared.command.RevokerCommand.TheVariants.{UntagRegister}
use Rattle.revoker_steps.specs.declared.command.RevokerReply.TheVariants.{Cleared}
use Rattle.machine_storage.specs.RevokerDecision.{IsRevokerDecision}
use Rattle.machine_storage.specs.Storage.{state_of}
use Rattle.machine_storage.proofs.RevokerLaws.{register-spared, register-taken, revoker_decided}
use Rattle.machine_storage.proofs.storage.Storage.untag_register.Goals as goal

pub returns-then-not-is_word_due : goal.returns-then-not-is_word_due
returns-then-not-is_word_due c =
    let m = c.args.self.now in
    let r = c.args.r in
    let opened : c.args.self.now.heap.is_open ≡ true = sym c.is_open.ensures ∙ c.if-not-is_open.false in
    let lt : c.args.r < length c.args.self.now.registers = omega (arith, c.requires.register, c.requires.storage.sound.count) in
    let spared : takes_tag c.args.self.now.heap.painted (register_at c.args.self.now.registers c.args.r) ≡ false =
    ap (takes_tag m.heap.painted) (sym c.get-tag.ensures.value) ∙ (ap (λ held. takes_tag held c.get-tag.result) (sym (due-open m.heap opened)) ∙ (sym c.is_word_due.ensures ∙ c.if-not-is_word_due.true)) in
    let none = register-spared (state_of m) r lt c.requires.storage.sound.zero spared in
    subst (IsRevokerDecision c.args.self.now (UntagRegister c.args.r)) (sym c.takes_none.ensures) (revoker_decided m (UntagRegister r) _ (rw opened refl) (ap Cleared none.0, none.1) tt refl)

pub returns : goal.returns
returns c =
    let m = c.args.self.now in
    let r = c.args.r in
    let opened : c.args.self.now.heap.is_open ≡ true = sym c.is_open.ensures ∙ c.if-not-is_open.false in
    let lt : c.args.r < length c.args.self.now.registers = omega (arith, c.requires.register, c.requires.storage.sound.count) in
    let taken : takes_tag c.args.self.now.heap.painted (register_at c.args.self.now.registers c.args.r) ≡ true =
    ap (takes_tag m.heap.painted) (sym c.get-tag.ensures.value) ∙ (ap (λ held. takes_tag held c.get-tag.result) (sym (due-open m.heap opened)) ∙ (sym c.is_word_due.ensures ∙ c.if-not-is_word_due.false)) in
    let one = register-taken (state_of m) r lt c.requires.storage.sound.zero taken in
    subst (IsRevokerDecision c.args.self.now (UntagRegister c.args.r)) (sym c.takes_one.ensures)
    (revoker_decided m (UntagRegister r) _ (rw opened refl) (ap Cleared one.0, rw (← c.get-tag.ensures.value) at one.1) c.requires.register refl)
