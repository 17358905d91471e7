use Rattle.state_bytes.proofs.WritingLaws.{head_written}
use Rattle.state_bytes.proofs.encoding.put_head.Goals as goal

pub returns : goal.returns
returns c = head_written c.args.out.now _ _ _ c.args.base c.args.pages c.args.is_open c.requires.inside c.put_8.ensures c.put_4.ensures c.put_flag.ensures
