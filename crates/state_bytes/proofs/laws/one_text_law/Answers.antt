use Rattle.state_bytes.proofs.OneText.{one_text, same_text}
use Rattle.state_bytes.proofs.ReadLaws.{text_long}
use Rattle.state_bytes.proofs.laws.one_text_law.Goals as goal

pub returns-clause-same : goal.returns-clause-same
returns-clause-same c = one_text

pub returns-clause-back : goal.returns-clause-back
returns-clause-back c = same_text

pub returns-clause-length : goal.returns-clause-length
returns-clause-length c = text_long
