use Rattle.std.proofs.Common.{◌∙◌, ap, codes, sym}
use Rattle.heap_reply.specs.declared.reply.Reply.{Reply}
use Rattle.data_tokens.specs.Spans.{spans_of}
use Rattle.state_data.specs.Recording.{changed_blocks_tokens}
use Rattle.state_data.proofs.BlockLaws.{told_one}
use Rattle.data_tokens.specs.LineLaws.{added_as}
use Rattle.state_data.proofs.writing.put_changed_blocks.Goals as goal

pub returns-in-Block : goal.returns-in-Block
returns-in-Block c =
    added_as _ _ _ _ _ c.put_span.ensures (sym (told_one (codes "live") _) ∙ ap (λ (r : Reply). changed_blocks_tokens r (spans_of c.args.due.now) c.args.start) (sym c.in-Block.is))

pub returns-in-Held : goal.returns-in-Held
returns-in-Held c =
    added_as _ _ _ _ _ c.put_block.ensures (sym (told_one (codes "waiting") _) ∙ ap (λ (r : Reply). changed_blocks_tokens r (spans_of c.args.due.now) c.args.start) (sym c.in-Held.is))
