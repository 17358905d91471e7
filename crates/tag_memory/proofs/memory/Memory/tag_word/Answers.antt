use Rattle.std.proofs.Common.{arith}
use Rattle.tag_memory.proofs.PackedLaws.{Packs, word_bit, word_place, word_value}
use Rattle.tag_memory.proofs.memory.Memory.tag_word.Goals as goal

pub index-requires : goal.index-requires
index-requires c =
    let p : Packs c.self.inside c.args.self.now = record { view = c.self.view_is; invariant = c.self.invariant } in
    omega (arith, word_place p c.args.w c.requires)

pub returns-clause-value : goal.returns-clause-value
returns-clause-value c =
    let p : Packs c.self.inside c.args.self.now = record { view = c.self.view_is; invariant = c.self.invariant } in
    word_value p c.args.w c.index.result.now c.requires (omega arith) c.index.ensures

pub returns-clause-bits : goal.returns-clause-bits
returns-clause-bits c = λ j h.
    let p : Packs c.self.inside c.args.self.now = record { view = c.self.view_is; invariant = c.self.invariant } in
    word_bit p c.args.w c.index.result.now j c.requires c.index.ensures h
