use Rattle.std.proofs.Common.{◌≤◌, ◌<◌, arith}
use Rattle.std.proofs.lemmas.Bool.Decides.{nat_tests}
use Rattle.heap_machine.proofs.MakingLaws.{IsGuarded-range, not_guarded-nowhere, not_guarded-range}
use Rattle.heap_machine.proofs.machine.making.is_guarded.Goals as goal

pub returns-in_default-clause-no : goal.returns-in_default-clause-no
returns-in_default-clause-no c _ =
    not_guarded-nowhere c.args.heap.now (c.args.word, c.args.tag) c.bounds-range.result c.bounds-range.ensures.value (c.block_of.ensures.none c.in_default.is) c.if-not-tag.false

pub returns-then-from-range-clause-yes : goal.returns-then-from-range-clause-yes
returns-then-from-range-clause-yes c test =
    let end : c.bounds-range.result.top ≤ c.in-Some.block.top = grind (arith, nat_tests, test) in
    IsGuarded-range c.args.heap.now (c.args.word, c.args.tag) c.bounds-range.result c.in-Some.block.base c.in-Some.block.top _ c.bounds-range.ensures.value
    c.in-Some.ensures.some (omega (arith, c.if-from-range.true, c.from.ensures)) end

pub returns-then-from-range-clause-no : goal.returns-then-from-range-clause-no
returns-then-from-range-clause-no c test =
    let past : c.in-Some.block.top < c.bounds-range.result.top = grind (arith, nat_tests, test) in
    not_guarded-range c.args.heap.now (c.args.word, c.args.tag) c.bounds-range.result c.in-Some.block.base c.in-Some.block.top _ c.bounds-range.ensures.value
    c.in-Some.ensures.some c.if-not-tag.false past
