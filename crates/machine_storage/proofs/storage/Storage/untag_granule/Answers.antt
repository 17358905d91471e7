use Rattle.std.proofs.Common.{◌≡◌, ◌≢◌, ◌∙◌, ◌-◌, ◌/◌, ◌%◌, ◌==◌, ℕ, ap, false, get_or, refl, subst, sym, true}
use Rattle.std.proofs.lemmas.Bool.{eq-eqb, ne_eqb}
use Rattle.std.proofs.lemmas.Option.{get_or_from_slice_get}
use Rattle.heap_model.specs.Laws.{due-open}
use Rattle.heap_model.specs.Sweep.{takes_tag}
use Rattle.tag_memory.specs.Cells.{cell_of}
use Rattle.revoker_steps.specs.Revoker.{is_at}
use Rattle.revoker_steps.specs.declared.command.RevokerCommand.TheVariants.{UntagGranule}
use Rattle.revoker_steps.specs.declared.command.RevokerReply.TheVariants.{Cleared}
use Rattle.machine_storage.specs.RevokerDecision.{IsRevokerDecision}
use Rattle.machine_storage.specs.Storage.{state_of}
use Rattle.machine_storage.proofs.RevokerLaws.{granule-spared, granule-taken, revoker_decided, untag_passes}
use Rattle.machine_storage.proofs.storage.Storage.untag_granule.Goals as goal

pub returns-then-not-is_granule_due : goal.returns-then-not-is_granule_due
returns-then-not-is_granule_due c =
    let m = c.args.self.now in
    let s = state_of m in
    let i = c.in-Some.i in
    let at = c.in-Some.ensures in
    let opened : c.args.self.now.heap.is_open ≡ true = sym c.is_open.ensures ∙ c.if-not-is_open.false in
    let aligned : (c.args.address % 16 == 0) ≡ true = eq-eqb (c.args.address % 16) 0 (c.is_multiple_of.ensures.0 c.if-not-is_multiple_of.false) in
    let spared : takes_tag c.args.self.now.heap.painted (cell_of (get_or c.args.self.now.memory.granules c.in-Some.i (0, false))) ≡ false =
    ap (λ held. takes_tag held (cell_of (get_or m.memory.granules i (0, false)))) (sym (due-open m.heap opened)) ∙ (sym c.is_granule_due.ensures ∙ c.if-not-is_granule_due.true) in
    let other : (k : ℕ) → k ≢ c.in-Some.i → is_at (state_of c.args.self.now) c.args.address k ≡ false = λ k apart. ne_eqb k ((c.args.address - m.heap.base) / 16) (λ same. apart (same ∙ sym at.index)) in
    let none = granule-spared s i (is_at s c.args.address) at.there spared (eq-eqb i ((c.args.address - m.heap.base) / 16) at.index) other in
    subst (IsRevokerDecision c.args.self.now (UntagGranule c.args.address)) (sym c.takes_none.ensures)
    (revoker_decided m (UntagGranule c.args.address) _ (untag_passes s c.args.address opened at.from at.before aligned) (ap Cleared none.0, none.1) tt refl)

pub returns : goal.returns
returns c =
    let m = c.args.self.now in
    let s = state_of m in
    let i = c.in-Some.i in
    let at = c.in-Some.ensures in
    let opened : c.args.self.now.heap.is_open ≡ true = sym c.is_open.ensures ∙ c.if-not-is_open.false in
    let aligned : (c.args.address % 16 == 0) ≡ true = eq-eqb (c.args.address % 16) 0 (c.is_multiple_of.ensures.0 c.if-not-is_multiple_of.false) in
    let read : get_or c.args.self.now.memory.granules c.in-Some.i (0, false) ≡ c.cell-bits.result = get_or_from_slice_get m.memory.granules i c.cell-bits.result (0, false) c.cell-bits.ensures in
    let taken : takes_tag c.args.self.now.heap.painted (cell_of c.cell-bits.result) ≡ true =
    ap (λ g. takes_tag m.heap.painted (cell_of g)) (sym read)
    ∙ (ap (λ held. takes_tag held (cell_of (get_or m.memory.granules i (0, false)))) (sym (due-open m.heap opened)) ∙ (sym c.is_granule_due.ensures ∙ c.if-not-is_granule_due.false)) in
    let other : (k : ℕ) → k ≢ c.in-Some.i → is_at (state_of c.args.self.now) c.args.address k ≡ false = λ k apart. ne_eqb k ((c.args.address - m.heap.base) / 16) (λ same. apart (same ∙ sym at.index)) in
    let one = granule-taken s i c.cell-bits.result (is_at s c.args.address) at.there read taken (eq-eqb i ((c.args.address - m.heap.base) / 16) at.index) other in
    subst (IsRevokerDecision c.args.self.now (UntagGranule c.args.address)) (sym c.takes_one.ensures)
    (revoker_decided m (UntagGranule c.args.address) _ (untag_passes s c.args.address opened at.from at.before aligned) (ap Cleared one.0, one.1) at.there refl)
