use Rattle.std.proofs.Common.{◌+◌, ◌*◌, false, ap, arith}
use Rattle.tag_memory.specs.Cells.{Granule}
use Rattle.state_bytes.specs.Text.{granule_text}
use Rattle.state_bytes.proofs.PieceLaws.{granule_at, granules_long, memory_as_texts}
use Rattle.state_bytes.proofs.PieceLaws.{cell_is}
use Rattle.state_bytes.proofs.WritingLaws.{written_begin, written_more}
use Rattle.state_bytes.proofs.encoding.put_memory.Goals as goal

pub loop-i-init : goal.loop-i-init
loop-i-init c = written_begin (granule_at c.args.heap.now c.args.memory.now.granules) c.args.out.now 13

pub loop-i-preserved : goal.loop-i-preserved
loop-i-preserved c =
    let long = granules_long c.args.heap.now c.args.memory.now.granules c.loop-i.i in
    written_more c.args.out.now c.loop-i.out c.put_granule.new.out (granule_at c.args.heap.now c.args.memory.now.granules) _ 13 (13 + 21 * c.loop-i.i) c.loop-i.i
    (omega (arith, long, c.requires.inside, c.loop-i-test.true, c.granules-i-end.ensures)) (omega (arith, long))
    (ap (λ (g : Granule). granule_text c.args.heap.now c.loop-i.i g) (cell_is c.args.memory.now.granules c.loop-i.i c.cell-bits.result (0, false) c.cell-bits.ensures)) c.loop-i.invariant
    c.put_granule.ensures

pub returns : goal.returns
returns c =
    let all = memory_as_texts c.args.heap.now c.args.memory.now.granules c.loop-i.i (omega (arith, c.loop-i-test.false, c.loop-i.auto.i-end, c.granules-i-end.ensures)) in
    rw all c.loop-i.invariant
