use Rattle.std.proofs.Common.{◌∙◌, ap, arith}
use Rattle.std.proofs.lemmas.List.{take_all}
use Rattle.heap_log.specs.Origin.{hands_out, last_line}
use Rattle.heap_log.proofs.OriginLaws.{last_line-more}
use Rattle.heap_log.proofs.origin.handed_out_line.Goals as goal

pub loop-line-preserved : goal.loop-line-preserved
loop-line-preserved c =
    last_line-more (hands_out c.args.block) c.args.events.now c.loop-line.line-index _ c.hands_out.result c.loop-line.found c.noted-found.result c.loop-line-test.true
    c.hands_out.ensures c.loop-line.invariant c.noted-found.ensures

pub returns : goal.returns
returns c =
    c.loop-line.invariant ∙ ap (last_line (hands_out c.args.block)) (take_all c.loop-line.line-index c.args.events.now (omega (arith, c.loop-line-test.false)))
