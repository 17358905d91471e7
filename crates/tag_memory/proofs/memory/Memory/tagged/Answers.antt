use Rattle.std.proofs.Common.{arith, ◌∙◌}
use Rattle.tag_memory.proofs.PackedLaws.{Packs, count_next, count_whole}
use Rattle.tag_memory.proofs.memory.Memory.tagged.Goals as goal

pub loop-word-preserved : goal.loop-word-preserved
loop-word-preserved c =
    let p : Packs c.self.inside c.args.self.now = record { view = c.self.view_is; invariant = c.self.invariant } in
    let more = count_next p c.deref-word-items.result.now c.loop-word.word-index c.deref-word-items.ensures.value c.loop-word-test.true c.type_inv.word-items in
    omega (arith, more, c.loop-word.invariant)

pub returns : goal.returns
returns c =
    let p : Packs c.self.inside c.args.self.now = record { view = c.self.view_is; invariant = c.self.invariant } in
    c.loop-word.invariant ∙ count_whole p c.deref-word-items.result.now c.loop-word.word-index c.deref-word-items.ensures.value c.loop-word-test.false
