use Rattle.std.proofs.Common.{◌≡◌, ◌≢◌, ◌∙◌, ap, false, refl, subst, sym, true}
use Rattle.std.proofs.lemmas.Bool.{eq-eqb, ne_eqb}
use Rattle.heap_model.specs.Blocks.{bytes_in}
use Rattle.heap_model.specs.Laws.{due-open}
use Rattle.revoker_steps.specs.LeftLaws.{counted, tags_left-none}
use Rattle.revoker_steps.specs.Revoker.{tags_left}
use Rattle.revoker_steps.specs.declared.command.RevokerCommand.TheVariants.{Release}
use Rattle.revoker_steps.specs.declared.command.RevokerReply.TheVariants.{Released}
use Rattle.revoker_steps.specs.declared.command.RevokerTrap.TheVariants.{Left, NotOpen}
use Rattle.machine_storage.specs.RevokerDecision.{IsRevokerDecision}
use Rattle.machine_storage.specs.Storage.{state_of}
use Rattle.machine_storage.proofs.RevokerLaws.{revoker_decided, revoker_trapped}
use Rattle.machine_storage.proofs.storage.Storage.release.Goals as goal

pub returns-then-not-is_open : goal.returns-then-not-is_open
returns-then-not-is_open c =
    let closed : c.args.self.now.heap.is_open ≡ false = sym c.is_open.ensures ∙ c.if-not-is_open.true in
    subst (IsRevokerDecision c.args.self.now Release) (sym c.trap.ensures) (revoker_trapped c.args.self.now Release NotOpen (rw closed refl))

pub returns-then-has_left : goal.returns-then-has_left
returns-then-has_left c =
    let s = state_of c.args.self.now in
    let opened : c.args.self.now.heap.is_open ≡ true = sym c.is_open.ensures ∙ c.if-not-is_open.false in
    let some : tags_left (state_of c.args.self.now) ≢ 0 = λ none. c.has_left.ensures.some c.if-has_left.true (counted s none) in
    subst (IsRevokerDecision c.args.self.now Release) (sym c.trap-then-has_left.ensures) (revoker_trapped c.args.self.now Release Left (rw (opened, ne_eqb (tags_left s) 0 some) refl))

pub returns : goal.returns
returns c =
    let m = c.args.self.now in
    let s = state_of c.args.self.now in
    let opened : c.args.self.now.heap.is_open ≡ true = sym c.is_open.ensures ∙ c.if-not-is_open.false in
    let none = eq-eqb (tags_left s) 0 (tags_left-none s (c.has_left.ensures.none c.if-has_left.false)) in
    let bytes = c.due_bytes.ensures ∙ ap bytes_in (due-open m.heap opened) in
    revoker_decided m Release _ (rw (opened, none) refl) (ap Released bytes, refl) opened refl
