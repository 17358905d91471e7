use Rattle.std.proofs.Common.{rules, ◌≡◌, ◌<◌, ◌*◌, ◌+◌, ◌++◌, ◌∷◌, [], ℕ, Bool, Err, List, Some, get_or, length, subst, sym, ap, ◌∙◌, take, refl, arith}
use Rattle.std.specs.Prelude.{IfErr, slice_get}
use Rattle.std.proofs.lemmas.List.{take_more}
use Rattle.std.proofs.lemmas.Option.{slice_get_read}
use Rattle.sweep_masks.specs.Gather.{IsFaultAt, IsFaultOf, IsNewItem}
use Rattle.sweep_masks.specs.declared.gathering.GatherFault.{GatherFault}
use Rattle.sweep_masks.specs.declared.task.Swept.{Swept}
use Rattle.sweep_masks.proofs.GatherLaws.{IsWritten, fault_told, gathered-more}
use Rattle.sweep_masks.proofs.gathering.gather.Goals as goal

pub returns-in_err-judge-clause-err : goal.returns-in_err-judge-clause-err
returns-in_err-judge-clause-err c =
    let h = c.loop-swept.invariant in
    let s : Swept = c.swept-item.result in
    let i : ℕ = c.loop-swept.swept-index in
    let list : List Swept = c.args.list.items in
    let same : c.deref-swept-items.result.now ≡ list = search rules in
    let here : slice_get list i ≡ Some s = slice_get_read list (length list) i s refl (rw (← same) c.loop-swept-test.true) (rw (← same) c.swept-item.is) in
    let done : c.deref.result.now ≡ c.loop-swept.done.items = search rules in
    let fault : GatherFault = c.in_err-judge.field-0.0 in
    let at : IsFaultAt c.args.cutting.now c.args.pages c.loop-swept.done.items s fault = subst (λ (z : List Bool). IsFaultAt c.args.cutting.now c.args.pages z s fault) done c.in_err-judge.ensures in
    let told : IsFaultOf c.args.cutting.now c.args.tasks c.args.pages list fault = fault_told i list s fault h.gathered h.flags here at in
    let is : c.from_residual.result ≡ Err fault = search rules in
    subst (λ r. IfErr r (λ f. IsFaultOf c.args.cutting.now c.args.tasks c.args.pages list f)) (sym is) told

pub loop-swept-preserved : goal.loop-swept-preserved
loop-swept-preserved c =
    let h = c.loop-swept.invariant in
    let s : Swept = c.swept-item.result in
    let i : ℕ = c.loop-swept.swept-index in
    let list : List Swept = c.args.list.items in
    let same : c.deref-swept-items.result.now ≡ list = search rules in
    let it : s ≡ get_or list i s = rw (← same) c.swept-item.is in
    let inside : i < length list = rw (← same) c.loop-swept-test.true in
    let more : take (i + 1) list ≡ take i list ++ s ∷ [] = take_more list i s inside ∙ ap (λ (z : Swept). take i list ++ z ∷ []) (sym it) in
    let done : c.deref.result.now ≡ c.loop-swept.done.items = search rules in
    let words : c.deref-in-loop-swept.result.now ≡ s.masks.items = search rules in
    let new : IsNewItem c.args.cutting.now c.args.pages c.loop-swept.done.items s = subst (λ (z : List Bool). IsNewItem c.args.cutting.now c.args.pages z s) done c.in_ok-judge.ensures in
    let written : IsWritten (s.task * (4 * c.pages_per_task.result)) s.masks.items c.loop-swept.masks.items c.place.new.masks.items =
    record { here = rw (← words) c.place.ensures.here; rest = rw (← words) c.place.ensures.rest } in
    record {
      count = search rules;
      flags = search rules;
      gathered = rw more (gathered-more s h.gathered h.flags new written (rw c.pages_per_task.ensures (omega arith)));
    }
