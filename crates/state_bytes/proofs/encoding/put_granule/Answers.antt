use Rattle.std.proofs.Common.{◌+◌, ◌*◌, arith}
use Rattle.state_bytes.proofs.WritingLaws.{granule_written}
use Rattle.state_bytes.proofs.encoding.put_granule.Goals as goal

pub returns : goal.returns
returns c =
    granule_written c.args.heap.now c.args.i c.args.bits c.number_at.result c.args.tag c.args.out.now _ _ _ (13 + 21 * c.args.i) (omega (arith, c.requires.inside)) c.number_at.ensures
    c.put_16.ensures c.put_flag.ensures c.put_4.ensures
