use Rattle.std.proofs.Common.{◌∙◌, sym}
use Rattle.data_tokens.specs.ChangeLaws.{number_if-no, number_if-yes}
use Rattle.data_tokens.specs.LineLaws.{added_as, added_none}
use Rattle.data_tokens.proofs.taken.put_if.Goals as goal

pub returns-then-passes : goal.returns-then-passes
returns-then-passes c test is = added_as _ _ _ _ _ c.number.ensures (sym (number_if-yes test c.args.number (sym is ∙ c.if-passes.true)))

pub returns : goal.returns
returns c test is = added_none c.args.line.now _ (number_if-no test c.args.number (sym is ∙ c.if-passes.false))
