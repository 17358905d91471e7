use Rattle.std.proofs.Common.{◌≡◌, ◌∙◌, ◌&&◌, ℕ, Bool, ap, arith}
use Rattle.data_tokens.specs.Changes.{below}
use Rattle.data_tokens.specs.Line.{with_tokens}
use Rattle.data_tokens.specs.Spans.{spans_of}
use Rattle.data_tokens.specs.Taken.{is_register_taken, number_if, register_numbers}
use Rattle.data_tokens.proofs.taken.put_taken_registers.Goals as goal

pub returns : goal.returns
unfolding register_numbers
returns c =
    let test : ℕ → Bool = λ k. c.args.looked && is_register_taken (spans_of c.args.due.now) c.args.registers.now k in
    let all : c.loop-r.r ≡ 32 = omega (arith, c.loop-r-test.false, c.loop-r.auto.r-end) in
    c.loop-r.invariant ∙ ap (λ (n : ℕ). with_tokens c.args.line.now (below (number_if test) n)) all
