use Rattle.std.proofs.Common.{ap, arith, ◌∙◌, sym}
use Rattle.tag_memory.specs.Cells.{may_hold_at}
use Rattle.tag_memory.proofs.PackedLaws.{Packs, count, marked_at, untagged}
use Rattle.tag_memory.proofs.memory.Memory.may_hold_tags.Goals as goal

pub index-requires : goal.index-requires
index-requires c =
    let p : Packs c.self.inside c.args.self.now = record { view = c.self.view_is; invariant = c.self.invariant } in
    omega (arith, count p, c.self.invariant, c.requires)

pub returns-clause-value : goal.returns-clause-value
returns-clause-value c =
    let p : Packs c.self.inside c.args.self.now = record { view = c.self.view_is; invariant = c.self.invariant } in
    marked_at p c.args.page c.index.result.now c.requires c.index.ensures

pub returns-clause-untagged : goal.returns-clause-untagged
returns-clause-untagged c = λ unmarked i of_page.
    let p : Packs c.self.inside c.args.self.now = record { view = c.self.view_is; invariant = c.self.invariant } in
    let here = sym (marked_at p c.args.page c.index.result.now c.requires c.index.ensures) ∙ unmarked in
    untagged p i (ap (may_hold_at c.args.self.now.may_hold) of_page ∙ here)
