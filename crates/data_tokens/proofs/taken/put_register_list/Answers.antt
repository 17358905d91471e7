use Rattle.std.proofs.Common.{◌&&◌, codes}
use Rattle.data_tokens.specs.Line.{list_tokens}
use Rattle.data_tokens.specs.Spans.{spans_of}
use Rattle.data_tokens.specs.Taken.{is_register_taken, register_numbers}
use Rattle.data_tokens.specs.LineLaws.{added_three}
use Rattle.data_tokens.proofs.taken.put_register_list.Goals as goal

pub returns : goal.returns
returns c =
    added_three _ _ _ _ _ _ _ _ _ c.in_ok-open_list.ensures c.in_ok-put_taken_registers.ensures c.close_list.ensures
    (λ i. list_tokens (codes "registers") (register_numbers (λ k. c.args.looked && is_register_taken (spans_of c.args.due.now) c.args.registers.now k)))
