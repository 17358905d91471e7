use Rattle.data_tokens.specs.Taken.{none_taken}
use Rattle.data_tokens.specs.LineLaws.{added_four}
use Rattle.data_tokens.proofs.taken.put_none_taken.Goals as goal

pub returns : goal.returns
returns c =
    added_four _ _ _ _ _ _ _ _ _ _ _ c.in_ok-open_object.ensures c.in_ok-put_empty_list.ensures c.in_ok-put_empty_list-2.ensures c.close.ensures (λ i. none_taken)
