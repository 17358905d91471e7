use Rattle.std.proofs.Common.{codes}
use Rattle.data_tokens.specs.Changes.{registers_tokens}
use Rattle.data_tokens.specs.Line.{list_tokens}
use Rattle.data_tokens.specs.LineLaws.{added_three}
use Rattle.state_data.proofs.writing.put_register_part.Goals as goal

pub returns : goal.returns
returns c =
    added_three _ _ _ _ _ _ _ _ _ c.in_ok-open_list.ensures c.in_ok-put_changed_registers.ensures c.close_list.ensures (λ i. list_tokens (codes "registers") (registers_tokens c.args.snapshot.now.registers c.args.registers.now))
