use Rattle.std.proofs.Common.{◌≡◌, ◌∙◌, ℕ, ap, codes, get_or, arith}
use Rattle.data_tokens.specs.Line.{with_tokens}
use Rattle.data_tokens.specs.ChangeLaws.{register_at-later}
use Rattle.tag_memory.specs.Cells.{null_cell}
use Rattle.data_tokens.specs.Changes.{below, change_tokens, register_change, registers_tokens}
use Rattle.data_tokens.specs.LineLaws.{added_below}
use Rattle.data_tokens.proofs.changes.put_registers.Goals as goal

pub loop-k-preserved : goal.loop-k-preserved
loop-k-preserved c =
    added_below (register_change c.args.old.now c.args.new.now) _ _ _ c.loop-k.k _ c.loop-k.invariant c.in_ok-put_change.ensures
    (λ i. change_tokens (codes "r") (c.from.ensures i) (get_or c.args.old.now (c.from-in-loop-k.ensures i) null_cell) ((c.get.ensures.value ∙ register_at-later c.args.new.now c.loop-k.k) i))

pub returns : goal.returns
unfolding registers_tokens
returns c =
    let all : c.loop-k.k ≡ 31 = omega (arith, c.loop-k-test.false, c.loop-k.auto.k-end) in
    c.loop-k.invariant ∙ ap (λ (n : ℕ). with_tokens c.args.line.now (below (register_change c.args.old.now c.args.new.now) n)) all
