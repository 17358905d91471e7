use Rattle.std.proofs.Common.{◌<◌, length, sym, ap, subst, ◌∙◌, arith}
use Rattle.trace_text.specs.Lines.{words_of}
use Rattle.trace_text.specs.Marked.{StartsWord}
use Rattle.trace_text.proofs.FirstWord.{starts_word, words_of-from, words_of-none}
use Rattle.trace_text.proofs.marked.Line.from_word.Goals as goal

pub returns-then-start-self-clause-none : goal.returns-then-start-self-clause-none
returns-then-start-self-clause-none c =
    words_of-none c.args.self.now c.before_word-start.result c.before_word-start.ensures (c.if-start-self.true ∙ ap length c.self.view_is)

pub returns-clause-same : goal.returns-clause-same
returns-clause-same c = ap words_of c.after.ensures ∙ words_of-from c.args.self.now c.before_word-start.result c.before_word-start.ensures

pub returns-clause-word : goal.returns-clause-word
returns-clause-word c =
    let some : c.before_word-start.result < length c.args.self.now = omega (arith, c.before_word-start.ensures.within, ap length c.self.view_is, c.if-start-self.false) in
    subst StartsWord (sym c.after.ensures) (starts_word c.args.self.now c.before_word-start.result c.before_word-start.ensures some)
