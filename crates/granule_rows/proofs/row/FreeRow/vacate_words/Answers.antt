use Rattle.std.proofs.Common.{◌≡◌, ◌∙◌, ◌+◌, ◌≤◌, ◌<◌, ℕ, List, length, get_or, ap, sym, subst, arith}
use Rattle.granule_rows.proofs.RowLaws.{IsTree-renewed, leaves_kept}
use Rattle.granule_rows.specs.Laws.{whole_written}
use Rattle.granule_rows.specs.Tree.{AreSummed, IsLeaf, node}
use Rattle.granule_rows.specs.declared.summary.Summary.{Summary}
use Rattle.granule_rows.proofs.row.FreeRow.vacate_words.Goals as goal

pub renew-requires-clause-leaves : goal.renew-requires-clause-leaves
renew-requires-clause-leaves c =
    let long : length c.add_words.new.words ≡ c.self.inside.words.len = omega (arith, c.deref_mut.ensures.len, c.add_words.auto.words) in
    let words : c.deref.result.now ≡ c.add_words.new.words = c.deref.ensures.value ∙ whole_written c.self.inside.words.len c.self.inside.words.items c.add_words.new.words long in
    let old : c.deref_mut.result.now ≡ c.self.inside.words.items = c.deref_mut.ensures.value in
    let nodes : c.deref_mut-2.result.now ≡ c.self.inside.nodes.items = c.deref_mut-2.ensures.value in
    let same : length c.add_words.new.words ≡ length c.self.inside.words.items = omega (arith, ap length old, c.add_words.auto.words) in
    let kept = leaves_kept c.self.inside.words.items c.add_words.new.words c.self.inside.nodes.items c.args.first c.args.end c.self.invariant same
    (λ w out. c.add_words.ensures.rest w out ∙ ap (λ (xs : List ℕ). get_or xs w 0) old) in
    let P : List ℕ → List Summary → Type 0 = λ ws ns. (w : ℕ) → w < length ws → (c.args.first ≤ w → c.args.end ≤ w) → IsLeaf (get_or ws w 0) (node ns (length ws + w)) in
    subst (λ (ws : List ℕ). P ws c.deref_mut-2.result.now) (sym words)
    (subst (P c.add_words.new.words) (sym nodes) (λ w lt out. kept w lt out))

pub invariant_of-self : goal.invariant_of-self
invariant_of-self c =
    let long : length c.add_words.new.words ≡ c.self.inside.words.len = omega (arith, c.deref_mut.ensures.len, c.add_words.auto.words) in
    let long_nodes : length c.renew.new.nodes ≡ c.self.inside.nodes.len = omega (arith, c.deref_mut-2.ensures.len, c.renew.auto.nodes) in
    let words : c.deref.result.now ≡ c.add_words.new.words = c.deref.ensures.value ∙ whole_written c.self.inside.words.len c.self.inside.words.items c.add_words.new.words long in
    let old : c.deref_mut.result.now ≡ c.self.inside.words.items = c.deref_mut.ensures.value in
    let same : length c.add_words.new.words ≡ length c.self.inside.words.items = omega (arith, ap length old, c.add_words.auto.words) in
    let summed = subst (λ (ws : List ℕ). AreSummed (length ws) c.renew.new.nodes 0 0 0 0) words c.renew.ensures.summed in
    let leaves = subst (λ (ws : List ℕ). (w : ℕ) → w < length ws → IsLeaf (get_or ws w 0) (node c.renew.new.nodes (length ws + w))) words c.renew.ensures.leaves in
    rw (
      whole_written c.self.inside.words.len c.self.inside.words.items c.add_words.new.words long,
      whole_written c.self.inside.nodes.len c.self.inside.nodes.items c.renew.new.nodes long_nodes,
    )
    (IsTree-renewed c.self.invariant same summed leaves)
