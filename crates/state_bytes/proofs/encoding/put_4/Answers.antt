use Rattle.std.proofs.Common.{arith}
use Rattle.byteorder.specs.Endian.{little_bytes}
use Rattle.state_bytes.proofs.SameTexts.{length_little}
use Rattle.state_bytes.proofs.WritingLaws.{put_is}
use Rattle.state_bytes.proofs.encoding.put_4.Goals as goal

pub returns : goal.returns
returns c = put_is c.args.out.now (little_bytes 4 c.args.number) c.write_u32.new.buf c.args.at 4 _ (length_little 4 c.args.number) (omega arith) c.requires.inside c.write_u32.ensures
