use Rattle.std.proofs.Common.{◌+◌, ◌*◌, ◌∙◌, true, arith}
use Rattle.std.proofs.lemmas.List.{length-set}
use Rattle.heap_core.proofs.StartLaws.{AreLeft-less, due_elsewhere}
use Rattle.heap_core.proofs.table.Table.make_word_due.Goals as goal

pub loop-rest-preserved : goal.loop-rest-preserved
loop-rest-preserved c =
    let done = c.loop-rest.invariant in
    let marks = c.loop-rest.self.marks in
    let lowest = c.lowest_bit.ensures in
    let less = c.without_lowest-rest.ensures.bits _ lowest.one lowest.below in
    record {
      lengths = c.make_due.ensures.lengths ∙ done.lengths;
      count = rw c.make_due.ensures.marks (length-set marks (64 * c.args.w + c.lowest_bit.result) true ∙ done.count);
      here = rw c.make_due.ensures.marks (AreLeft-less marks c.args.w c.args.word c.loop-rest.rest _ c.lowest_bit.result done.here
          (omega (arith, c.requires.word, c.requires.same, done.count, lowest.within)) lowest.one less);
      rest = λ k other. rw c.make_due.ensures.marks (due_elsewhere marks c.args.w c.lowest_bit.result k lowest.within other ∙ done.rest k other);
    }
