use Rattle.std.proofs.Common.{◌∙◌, ap}
use Rattle.byte_machine.specs.Records.{reply_of_record}
use Rattle.byte_machine.proofs.RecordLaws.{told_back}
use Rattle.byte_machine.proofs.replies.reply_record.Goals as goal

pub returns-clause-back : goal.returns-clause-back
returns-clause-back c = ap reply_of_record c.told.ensures ∙ told_back c.args.reply
