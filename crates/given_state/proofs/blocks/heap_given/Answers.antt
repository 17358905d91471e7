use Rattle.std.proofs.Common.{ap}
use Rattle.heap_model.specs.Heap.{HeapState}
use Rattle.given_state.proofs.PlaceLaws.{closed_before, given_heap-made}
use Rattle.given_state.proofs.TurnLaws.{painted_in_turn, waiting_in_turn}
use Rattle.given_state.proofs.blocks.heap_given.Goals as goal

pub release_all-requires : goal.release_all-requires
release_all-requires c =
    painted_in_turn c.in-Ok.heap c.claim_all.new.heap c.args.givens.now c.in_default-claim_all.ensures.may c.in_default-claim_all.ensures.claimed

pub open_epoch-requires : goal.open_epoch-requires
open_epoch-requires c =
    closed_before c.in-Ok.heap c.claim_all.new.heap c.release_all.new.heap c.args.givens.now (ap (λ (h : HeapState). h.is_open) c.in-Ok.ensures.empty)
    c.in_default-claim_all.ensures.claimed c.release_all.ensures

pub release_all-requires-2 : goal.release_all-requires-2
release_all-requires-2 c =
    waiting_in_turn c.in-Ok.heap c.claim_all.new.heap c.release_all.new.heap c.open_epoch.new.heap c.args.givens.now c.in_default-claim_all.ensures.may
    c.in_default-claim_all.ensures.claimed c.release_all.ensures c.open_epoch.ensures

pub returns-clause-heap : goal.returns-clause-heap
returns-clause-heap c =
    given_heap-made c.args.base c.args.pages c.args.givens.now c.in-Ok.heap c.claim_all.new.heap c.release_all.new.heap c.open_epoch.new.heap c.release_all-2.new.heap
    c.in-Ok.ensures.empty c.in_default-claim_all.ensures.claimed c.release_all.ensures c.open_epoch.ensures c.release_all-2.ensures
