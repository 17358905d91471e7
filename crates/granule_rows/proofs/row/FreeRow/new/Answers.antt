use Rattle.std.proofs.Common.{◌≡◌, ◌<◌, ◌+◌, ◌∙◌, ℕ, List, length, get_or, replicate, ap, subst, arith}
use Rattle.std.proofs.lemmas.Grind.{common_steps}
use Rattle.std.proofs.lemmas.List.{length-replicate}
use Rattle.granule_rows.proofs.RowLaws.{IsTree-new, power_limit}
use Rattle.granule_rows.specs.Laws.{whole_written}
use Rattle.granule_rows.specs.Tree.{AreSummed, IsLeaf, node}
use Rattle.granule_rows.proofs.row.FreeRow.new.Goals as goal

pub invariant_of-result : goal.invariant_of-result
invariant_of-result c =
    let power = c.next_power_of_two-leaves.ensures.power in
    let zeros : c.in_ok-words.words.items ≡ replicate c.next_power_of_two-leaves.result 0 = grind (arith, common_steps) in
    let long : length c.in_ok-words.words.items ≡ c.next_power_of_two-leaves.result = ap length zeros ∙ length-replicate {A = ℕ} c.next_power_of_two-leaves.result 0 in
    let words : c.deref.result.now ≡ c.in_ok-words.words.items = c.deref.ensures.value in
    let long_nodes : length c.renew.new.nodes ≡ c.in_ok-nodes.nodes.len = omega (arith, c.deref_mut.ensures.len, c.renew.auto.nodes) in
    let summed = subst (λ (ws : List ℕ). AreSummed (length ws) c.renew.new.nodes 0 0 0 0) words c.renew.ensures.summed in
    let leaves = subst (λ (ws : List ℕ). (w : ℕ) → w < length ws → IsLeaf (get_or ws w 0) (node c.renew.new.nodes (length ws + w))) words c.renew.ensures.leaves in
    rw (whole_written c.in_ok-nodes.nodes.len c.in_ok-nodes.nodes.items c.renew.new.nodes long_nodes)
    (IsTree-new c.in_ok-words.words.items c.renew.new.nodes c.next_power_of_two-leaves.result power.0 power.1 (power_limit _ power.0 power.1 (omega (arith, c.next_power_of_two-leaves.ensures.upper_bound, c.requires.limit))) long summed leaves)

pub renew-requires-clause-limit : goal.renew-requires-clause-limit
renew-requires-clause-limit c =
    let power = c.next_power_of_two-leaves.ensures.power in
    let zeros : c.in_ok-words.words.items ≡ replicate c.next_power_of_two-leaves.result 0 = grind (arith, common_steps) in
    let long : length c.in_ok-words.words.items ≡ c.next_power_of_two-leaves.result = ap length zeros ∙ length-replicate {A = ℕ} c.next_power_of_two-leaves.result 0 in
    omega (arith, long, ap length c.deref.ensures.value, power_limit _ power.0 power.1 (omega (arith, c.next_power_of_two-leaves.ensures.upper_bound, c.requires.limit)))
