use Rattle.given_state.proofs.FitLaws.{FitHeap-first}
use Rattle.given_state.proofs.starting.machine_given.Goals as goal

pub hold_all-requires-clause-fit : goal.hold_all-requires-clause-fit
hold_all-requires-clause-fit c =
    FitHeap-first c.args.base c.args.pages c.args.givens.now c.in_ok-heap.heap c.in-Ok.memory c.new-registers.result
    c.in_ok-heap.ensures.heap c.in-Ok.ensures.made c.new-registers.ensures
