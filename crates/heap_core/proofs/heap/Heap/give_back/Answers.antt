use Rattle.std.proofs.Common.{◌≡◌, ◌∙◌, sym, true, arith}
use Rattle.heap_model.specs.Heap.{IsSound}
use Rattle.heap_model.specs.Laws.{without_due-open}
use Rattle.heap_core.proofs.LateLaws.{is_open-late}
use Rattle.heap_core.proofs.ShadowLaws.{due-heap_state}
use Rattle.heap_core.proofs.SoundLaws.{IsSound-from_table}
use Rattle.heap_model.specs.StateLaws.{IsSound-due, IsSound-ended}
use Rattle.heap_core.proofs.heap.Heap.give_back.Goals as goal

pub drop_due-requires : goal.drop_due-requires
drop_due-requires c = rw (← c.self.view_is) (λ is. rw is (omega (arith, c.self.invariant.late, c.if-self-eq0.true)))

pub end_epoch-requires : goal.end_epoch-requires
end_epoch-requires c = rw (← c.self.view_is) (is_open-late _ c.self.inside.late_granules c.self.invariant.lates c.self.invariant.late (λ none. c.if-self-eq0.false none))

pub returns-then-self-eq0-clause-bytes : goal.returns-then-self-eq0-clause-bytes
returns-then-self-eq0-clause-bytes c =
    rw (← c.self.view_is, due-heap_state) (omega (arith, c.self.invariant.due, c.from-bytes.ensures))

pub returns-then-self-eq0-clause-sound : goal.returns-then-self-eq0-clause-sound
returns-then-self-eq0-clause-sound c =
    let sound : IsSound c.args.self.now = rw (← c.self.view_is) (IsSound-from_table c.self.invariant.table c.self.invariant.lates) in
    rw c.drop_due.ensures (IsSound-due c.args.self.now sound)

pub returns-else-self-eq0-clause-bytes : goal.returns-else-self-eq0-clause-bytes
returns-else-self-eq0-clause-bytes c =
    rw (← c.self.view_is, due-heap_state) (omega (arith, c.self.invariant.due, c.from-bytes.ensures))

pub returns-else-self-eq0-clause-free : goal.returns-else-self-eq0-clause-free
returns-else-self-eq0-clause-free c =
    let opened : c.args.self.now.is_open ≡ true = rw (← c.self.view_is) (is_open-late _ c.self.inside.late_granules c.self.invariant.lates c.self.invariant.late (λ none. c.if-self-eq0.false none)) in
    c.end_epoch.ensures ∙ sym (without_due-open c.args.self.now opened)

pub returns-else-self-eq0-clause-sound : goal.returns-else-self-eq0-clause-sound
returns-else-self-eq0-clause-sound c =
    let sound : IsSound c.args.self.now = rw (← c.self.view_is) (IsSound-from_table c.self.invariant.table c.self.invariant.lates) in
    rw c.end_epoch.ensures (IsSound-ended c.args.self.now sound)
