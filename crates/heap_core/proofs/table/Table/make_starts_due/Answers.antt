use Rattle.std.proofs.Common.{◌∙◌, get_or, refl}
use Rattle.heap_core.proofs.StartLaws.{all_words, word_more}
use Rattle.heap_core.proofs.table.Table.make_starts_due.Goals as goal

pub loop-w-preserved : goal.loop-w-preserved
loop-w-preserved c =
    let due = c.make_word_due.ensures in
    let before = c.loop-w.invariant in
    record {
      lengths = due.lengths ∙ before.lengths;
      count = due.count ∙ before.count;
      marks = word_more c.make_word_due.new.self.marks c.loop-w.self.marks c.args.starts.now c.loop-w.w (get_or c.args.starts.now c.loop-w.w 0) refl due.here due.rest before.marks;
    }

pub returns-clause-marks : goal.returns-clause-marks
returns-clause-marks c = λ k. c.loop-w.invariant.marks k ∙ all_words c.args.starts.now c.loop-w.w k c.loop-w-test.false
