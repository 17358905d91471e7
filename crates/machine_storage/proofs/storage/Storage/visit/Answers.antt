use Rattle.std.proofs.Common.{◌≡◌, ◌∙◌, ◌<◌, ◌≤◌, ◌+◌, ◌*◌, ap, false, length, refl, subst, sym, true, arith}
use Rattle.std.proofs.lemmas.Bool.{lt-ltb}
use Rattle.heap_model.specs.Laws.{due-open}
use Rattle.sweep_masks.specs.Masks.{AreBits, takes_tag_at}
use Rattle.revoker_steps.specs.declared.command.RevokerCommand.TheVariants.{Visit}
use Rattle.revoker_steps.specs.declared.command.RevokerReply.TheVariants.{Cleared}
use Rattle.revoker_steps.specs.declared.command.RevokerTrap.TheVariants.{NotOpen}
use Rattle.machine_storage.specs.RevokerDecision.{IsRevokerDecision}
use Rattle.machine_storage.specs.Storage.{state_of}
use Rattle.machine_storage.proofs.RevokerLaws.{revoker_decided, revoker_trapped, visit_takes}
use Rattle.machine_storage.proofs.storage.Storage.visit.Goals as goal

pub returns-then-not-is_open : goal.returns-then-not-is_open
returns-then-not-is_open c =
    let closed : c.args.self.now.heap.is_open ≡ false = sym c.is_open.ensures ∙ c.if-not-is_open.true in
    subst (IsRevokerDecision c.args.self.now (Visit c.args.page)) (sym c.trap.ensures) (revoker_trapped c.args.self.now (Visit c.args.page) NotOpen (rw closed refl))

pub returns : goal.returns
returns c =
    let m = c.args.self.now in
    let page = c.args.page in
    let opened : c.args.self.now.heap.is_open ≡ true = sym c.is_open.ensures ∙ c.if-not-is_open.false in
    let inside : 256 * c.args.page < length c.args.self.now.memory.granules = omega (arith, c.pages.ensures, c.if-page-pages.false) in
    let long : 256 * c.args.page + 256 ≤ length c.args.self.now.memory.granules = omega (arith, c.pages.ensures, c.if-page-pages.false) in
    let masks = c.page_masks-masks.result in
    let bits : AreBits (λ j. takes_tag_at c.args.self.now.memory c.args.self.now.heap.painted (256 * c.args.page + j)) 256 c.page_masks-masks.result = rw (due-open m.heap opened) at c.page_masks-masks.ensures in
    let count = c.ones_in.ensures.count ∙ visit_takes (state_of m) page masks long bits c.ones_in.ensures.words in
    revoker_decided m (Visit page) _ (rw (opened, lt-ltb (256 * page) (length m.memory.granules) inside) refl) (ap Cleared count, refl) (record { inside = inside; masks_take = bits }) refl
