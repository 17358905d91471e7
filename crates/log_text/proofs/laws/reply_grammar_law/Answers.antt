use Rattle.log_text.proofs.ReplyWords.{IsReplyText-read, reply_in-IsReplyText, one_answer}
use Rattle.log_text.proofs.RevokerWords.{IsRevokerReplyText-read, revoker_reply_in-IsRevokerReplyText, one_revoker_answer}
use Rattle.log_text.proofs.laws.reply_grammar_law.Goals as goal

pub returns-clause-read : goal.returns-clause-read
returns-clause-read c = λ words answer. (IsReplyText-read words answer, reply_in-IsReplyText words answer)

pub returns-clause-one : goal.returns-clause-one
returns-clause-one c = λ words answer other. one_answer words answer other

pub returns-clause-revoker_read : goal.returns-clause-revoker_read
returns-clause-revoker_read c = λ words answer. (IsRevokerReplyText-read words answer, revoker_reply_in-IsRevokerReplyText words answer)

pub returns-clause-revoker_one : goal.returns-clause-revoker_one
returns-clause-revoker_one c = λ words answer other. one_revoker_answer words answer other
