use Rattle.std.proofs.Common.{◌&&◌, length}
use Rattle.data_tokens.specs.Spans.{spans_of}
use Rattle.data_tokens.specs.Taken.{is_register_taken, is_tag_gone, taken_tokens}
use Rattle.data_tokens.specs.LineLaws.{added_four}
use Rattle.data_tokens.proofs.taken.put_taken.Goals as goal

pub returns : goal.returns
returns c =
    added_four _ _ _ _ _ _ _ _ _ _ _ c.in_ok-open_object.ensures c.in_ok-put_register_list.ensures c.in_ok-put_granule_list.ensures c.close.ensures
    (λ i. taken_tokens (λ k. c.args.looked && is_register_taken (spans_of c.args.due.now) c.args.registers.now k) (is_tag_gone c.args.tags.now c.args.memory.now.granules) (length c.args.memory.now.granules))
