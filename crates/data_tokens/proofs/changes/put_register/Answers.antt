use Rattle.std.proofs.Common.{◌∙◌, codes, get_or, sym}
use Rattle.tag_memory.specs.Cells.{null_cell}
use Rattle.data_tokens.specs.Changes.{change_tokens}
use Rattle.data_tokens.specs.ChangeLaws.{register_at-some, registers_tokens-none, registers_tokens-one}
use Rattle.data_tokens.specs.LineLaws.{added_as, added_none}
use Rattle.data_tokens.proofs.changes.put_register.Goals as goal

pub returns-then-r-eq0 : goal.returns-then-r-eq0
returns-then-r-eq0 c = added_none c.args.line.now _ (registers_tokens-none c.args.old.now c.args.new.now c.args.r c.if-r-eq0.true c.requires.stay)

pub returns : goal.returns
returns c =
    let old = c.args.old.now in
    let now = c.args.new.now in
    let value = c.get.ensures.value ∙ register_at-some now c.args.r c.if-r-eq0.false in
    added_as _ _ _ _ _ c.put_change.ensures
    ((λ i. change_tokens (codes "r") (c.from.ensures i) (get_or c.args.old.now (c.from-2.ensures i) null_cell) (value i)) ∙ sym (registers_tokens-one old now c.args.r c.if-r-eq0.false c.requires.within c.requires.stay))
