use Rattle.std.proofs.Common.{◌∙◌, sym}
use Rattle.data_tokens.specs.ChangeLaws.{change_tokens-other, change_tokens-same}
use Rattle.data_tokens.specs.LineLaws.{added_as, added_none}
use Rattle.data_tokens.proofs.changes.put_change.Goals as goal

pub returns-then-is_same : goal.returns-then-is_same
returns-then-is_same c =
    added_none c.args.line.now _ (change_tokens-same _ c.args.number c.args.old c.args.new (sym c.is_same.ensures ∙ c.if-is_same.true))

pub returns : goal.returns
returns c =
    added_as _ _ _ _ _ c.put_numbered.ensures (sym (change_tokens-other _ c.args.number c.args.old c.args.new (sym c.is_same.ensures ∙ c.if-is_same.false)))
