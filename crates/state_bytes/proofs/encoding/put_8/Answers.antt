use Rattle.std.proofs.Common.{arith}
use Rattle.byteorder.specs.Endian.{little_bytes}
use Rattle.state_bytes.proofs.SameTexts.{length_little}
use Rattle.state_bytes.proofs.WritingLaws.{put_is}
use Rattle.state_bytes.proofs.encoding.put_8.Goals as goal

pub returns : goal.returns
returns c = put_is c.args.out.now (little_bytes 8 c.args.number) c.write_u64.new.buf c.args.at 8 _ (length_little 8 c.args.number) (omega arith) c.requires.inside c.write_u64.ensures
