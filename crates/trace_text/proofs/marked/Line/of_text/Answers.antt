use Rattle.trace_text.proofs.MarkLaws.{stops_of}
use Rattle.trace_text.proofs.marked.Line.of_text.Goals as goal

pub invariant_of-result : goal.invariant_of-result
invariant_of-result c =
    λ seen. stops_of c.args.text.now c.blanks_of.result c.args.feeds c.args.count c.requires.room c.requires.within c.blanks_of.ensures c.requires.feed c.requires.first
