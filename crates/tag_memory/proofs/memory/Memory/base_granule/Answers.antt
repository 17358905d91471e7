use Rattle.std.proofs.Common.{◌<◌, ◌∙◌, ℕ, arith, false, get_or, subst, sym}
use Rattle.tag_memory.specs.Bases.{far}
use Rattle.tag_memory.specs.Cells.{cell_of}
use Rattle.tag_memory.proofs.BaseLaws.{base_granule-near}
use Rattle.tag_memory.proofs.PackedLaws.{Packs, base_place, base_read}
use Rattle.tag_memory.proofs.memory.Memory.base_granule.Goals as goal

pub index-requires : goal.index-requires
index-requires c =
    let p : Packs c.self.inside c.args.self.now = record { view = c.self.view_is; invariant = c.self.invariant } in
    omega (arith, base_place p c.args.i c.requires)

pub returns-clause-value : goal.returns-clause-value
returns-clause-value c =
    let p : Packs c.self.inside c.args.self.now = record { view = c.self.view_is; invariant = c.self.invariant } in
    base_read p c.args.i c.index.result.now c.requires c.index.ensures

pub returns-clause-near : goal.returns-clause-near
returns-clause-near c lt =
    let p : Packs c.self.inside c.args.self.now = record { view = c.self.view_is; invariant = c.self.invariant } in
    let is = base_read p c.args.i c.index.result.now c.requires c.index.ensures in
    (base_granule-near c.args.self.now.base (cell_of (get_or c.args.self.now.granules c.args.i (0, false))).0 (subst (λ (n : ℕ). n < far) is lt)).0

pub returns-clause-place : goal.returns-clause-place
returns-clause-place c lt =
    let p : Packs c.self.inside c.args.self.now = record { view = c.self.view_is; invariant = c.self.invariant } in
    let is = base_read p c.args.i c.index.result.now c.requires c.index.ensures in
    (base_granule-near c.args.self.now.base (cell_of (get_or c.args.self.now.granules c.args.i (0, false))).0 (subst (λ (n : ℕ). n < far) is lt)).1 ∙ sym is
