use Rattle.std.proofs.Common.{◌∙◌, ◌+◌, ◌-◌, ◌*◌, sym, arith}
use Rattle.state_bytes.proofs.NumberLaws.{number-found, number-none}
use Rattle.state_bytes.proofs.StartsLaws.{found_limit}
use Rattle.state_bytes.proofs.encoding.number_at.Goals as goal

pub returns-in_default : goal.returns-in_default
returns-in_default c = sym (number-none c.args.heap.now (c.args.heap.now.base + 16 * c.args.i) (c.block_starting_at.ensures.none c.in_default.is))

pub overflow_cast-length : goal.overflow_cast-length
overflow_cast-length c = omega (arith, found_limit c.args.heap.now (c.args.heap.now.base + 16 * c.args.i) c.in-Some.block.base c.in-Some.block.top c.in-Some.kind c.invariant.ensures c.in-Some.ensures.some, c.from.ensures)

pub overflow_add-result : goal.overflow_add-result
overflow_add-result c = omega (arith, found_limit c.args.heap.now (c.args.heap.now.base + 16 * c.args.i) c.in-Some.block.base c.in-Some.block.top c.in-Some.kind c.invariant.ensures c.in-Some.ensures.some, c.from.ensures, c.number_of_kind.ensures.limit)

pub returns : goal.returns
returns c =
    (λ j. c.in-Some.block.top - (c.from.ensures ∙ c.in-Some.ensures.start) j + c.number_of_kind.ensures.value j)
    ∙ sym (number-found c.args.heap.now (c.args.heap.now.base + 16 * c.args.i) c.in-Some.block.base c.in-Some.block.top c.in-Some.kind c.invariant.ensures c.in-Some.ensures.some c.in-Some.ensures.start)
