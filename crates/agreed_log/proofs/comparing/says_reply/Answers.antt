use Rattle.std.proofs.Common.{◌∙◌, ap, sym}
use Rattle.std.specs.Prelude.{bytes_eq, codes, ◌++◌}
use Rattle.heap_reply.specs.ReplyText.{text_of_reply}
use Rattle.trace_text.specs.Lines.{words_of}
use Rattle.agreed_log.proofs.AgreedLaws.{IsReplyText-told}
use Rattle.agreed_log.proofs.comparing.says_reply.Goals as goal

pub returns : goal.returns
returns c =
    let reply = c.args.reply.now in
    let text = c.as_bytes.ensures ∙ c.put.ensures.text ∙ ap (λ bs. codes " " ++ bs) (c.put_reply_of.ensures.text ∙ ap (λ bs. text_of_reply reply ++ bs) c.clear.ensures) in
    λ is.
    (c.reply_grammar_law.ensures.read (words_of c.args.line.now) reply).1
    (IsReplyText-told c.args.line.now c.as_bytes.result.now reply c.fit_reply.ensures text (ap (λ bs. bytes_eq bs c.as_bytes.result.now) (sym c.bytes.ensures) ∙ sym c.eq.ensures ∙ is))
