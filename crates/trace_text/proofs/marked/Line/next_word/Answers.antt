use Rattle.std.proofs.Common.{◌+◌, List, ℕ, not, length, ap, subst, arith, length-drop}
use Rattle.trace_text.specs.Lines.{is_blank}
use Rattle.trace_text.specs.Marked.{Ends}
use Rattle.trace_text.proofs.LineCuts.{next_is, no_next_word}
use Rattle.trace_text.proofs.marked.Line.next_word.Goals as goal

pub returns-then-blanks-self-clause-none : goal.returns-then-blanks-self-clause-none
returns-then-blanks-self-clause-none c =
    let blanks = c.before_word-blanks.result in
    let begins = subst (λ (line : List ℕ). Ends (λ byte. not (is_blank byte)) line blanks) c.after.ensures c.before_word-blanks.ensures in
    no_next_word c.args.self.now c.args.place blanks begins (omega (arith, c.if-blanks-self.true, ap length c.self.view_is))

pub overflow_add-start : goal.overflow_add-start
overflow_add-start c =
    omega (arith, c.before_word-blanks.ensures.within, ap length c.after.ensures, length-drop c.args.place c.args.self.now, c.requires, ap length c.self.view_is, c.self.told.0)

pub overflow_add-end : goal.overflow_add-end
overflow_add-end c =
    let start = c.args.place + c.before_word-blanks.result in
    omega (arith, c.before_word-blanks.ensures.within, ap length c.after.ensures, length-drop c.args.place c.args.self.now, c.before_blank.ensures.within, ap length c.after-2.ensures, length-drop start c.args.self.now, c.requires, ap length c.self.view_is, c.self.told.0)

pub returns-clause-word : goal.returns-clause-word
returns-clause-word c =
    let blanks = c.before_word-blanks.result in
    let begins = subst (λ (line : List ℕ). Ends (λ byte. not (is_blank byte)) line blanks) c.after.ensures c.before_word-blanks.ensures in
    let stops = subst (λ (line : List ℕ). Ends is_blank line c.before_blank.result) c.after-2.ensures c.before_blank.ensures in
    next_is c.args.self.now c.args.place blanks c.before_blank.result c.requires begins
    (λ all. c.if-blanks-self.false (omega (arith, all, ap length c.self.view_is))) stops
