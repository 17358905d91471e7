use Rattle.std.proofs.Common.{arith}
use Rattle.tag_memory.proofs.PackedLaws.{Packs, place, read}
use Rattle.tag_memory.proofs.memory.Memory.cell.Goals as goal

pub index-requires : goal.index-requires
index-requires c =
    let p : Packs c.self.inside c.args.self.now = record { view = c.self.view_is; invariant = c.self.invariant } in
    omega (arith, place p c.args.i c.requires)

pub index-requires-2 : goal.index-requires-2
index-requires-2 c =
    let p : Packs c.self.inside c.args.self.now = record { view = c.self.view_is; invariant = c.self.invariant } in
    omega (arith, place p c.args.i c.requires)

pub returns : goal.returns
returns c =
    let p : Packs c.self.inside c.args.self.now = record { view = c.self.view_is; invariant = c.self.invariant } in
    rw c.bit.ensures (read p c.args.i c.index.result.now c.index-2.result.now c.requires c.index.ensures c.index-2.ensures)
