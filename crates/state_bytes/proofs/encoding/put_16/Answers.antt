use Rattle.std.proofs.Common.{refl}
use Rattle.state_bytes.proofs.HalfLaws.{halves_written}
use Rattle.state_bytes.proofs.encoding.put_16.Goals as goal

pub returns : goal.returns
returns c = halves_written c.args.out.now _ _ c.args.at c.args.number _ _ c.requires.inside refl refl c.put_8.ensures c.put_8-2.ensures
