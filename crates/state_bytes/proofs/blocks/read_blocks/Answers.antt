use Rattle.std.proofs.Common.{◌∙◌, sym}
use Rattle.std.proofs.lemmas.Bool.{true≢false}
use Rattle.state_bytes.proofs.blocks.read_blocks.Goals as goal

pub returns-then-not-read_painted-clause-all : goal.returns-then-not-read_painted-clause-all
returns-then-not-read_painted-clause-all c m e text start =
    absurd (true≢false (sym (c.read_painted.ensures.all m e text start).0 ∙ c.if-not-read_painted.true))

pub returns-clause-all : goal.returns-clause-all
returns-clause-all c m e text start = c.read_others.ensures.all m e text (c.read_painted.ensures.all m e text start).1
