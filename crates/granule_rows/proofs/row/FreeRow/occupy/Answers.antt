use Rattle.std.proofs.Common.{◌≡◌, ◌∙◌, ◌+◌, ◌/◌, ◌≤◌, ◌<◌, ℕ, List, length, get_or, ap, sym, subst, arith}
use Rattle.granule_rows.proofs.RowLaws.{IsTree-renewed, leaves_kept}
use Rattle.granule_rows.specs.Laws.{whole_written}
use Rattle.granule_rows.specs.Tree.{AreSummed, IsLeaf, node}
use Rattle.granule_rows.specs.declared.summary.Summary.{Summary}
use Rattle.granule_rows.proofs.row.FreeRow.occupy.Goals as goal

pub overflow_add-end : goal.overflow_add-end
overflow_add-end c = omega (arith, ap length c.self.view_is, c.self.invariant.limit, c.requires)

pub renew-requires-clause-leaves : goal.renew-requires-clause-leaves
renew-requires-clause-leaves c =
    let long : length c.clear_run.new.words ≡ c.self.inside.words.len = omega (arith, c.deref_mut.ensures.len, c.clear_run.auto.words) in
    let words : c.deref.result.now ≡ c.clear_run.new.words = c.deref.ensures.value ∙ whole_written c.self.inside.words.len c.self.inside.words.items c.clear_run.new.words long in
    let old : c.deref_mut.result.now ≡ c.self.inside.words.items = c.deref_mut.ensures.value in
    let nodes : c.deref_mut-2.result.now ≡ c.self.inside.nodes.items = c.deref_mut-2.ensures.value in
    let same : length c.clear_run.new.words ≡ length c.self.inside.words.items = omega (arith, ap length old, c.clear_run.auto.words) in
    let kept = leaves_kept c.self.inside.words.items c.clear_run.new.words c.self.inside.nodes.items (c.args.p / 64) ((c.args.p + c.args.n + 63) / 64) c.self.invariant same
    (λ w out. c.clear_run.ensures.rest w out ∙ ap (λ (xs : List ℕ). get_or xs w 0) old) in
    let P : List ℕ → List Summary → Type 0 = λ ws ns. (w : ℕ) → w < length ws → (c.args.p / 64 ≤ w → c.div_ceil.result ≤ w) → IsLeaf (get_or ws w 0) (node ns (length ws + w)) in
    subst (λ (ws : List ℕ). P ws c.deref_mut-2.result.now) (sym words)
    (subst (P c.clear_run.new.words) (sym nodes) (λ w lt out. kept w lt (λ from. omega (arith, out from, c.div_ceil.ensures))))

pub invariant_of-self : goal.invariant_of-self
invariant_of-self c =
    let long : length c.clear_run.new.words ≡ c.self.inside.words.len = omega (arith, c.deref_mut.ensures.len, c.clear_run.auto.words) in
    let long_nodes : length c.renew.new.nodes ≡ c.self.inside.nodes.len = omega (arith, c.deref_mut-2.ensures.len, c.renew.auto.nodes) in
    let words : c.deref.result.now ≡ c.clear_run.new.words = c.deref.ensures.value ∙ whole_written c.self.inside.words.len c.self.inside.words.items c.clear_run.new.words long in
    let old : c.deref_mut.result.now ≡ c.self.inside.words.items = c.deref_mut.ensures.value in
    let same : length c.clear_run.new.words ≡ length c.self.inside.words.items = omega (arith, ap length old, c.clear_run.auto.words) in
    let summed = subst (λ (ws : List ℕ). AreSummed (length ws) c.renew.new.nodes 0 0 0 0) words c.renew.ensures.summed in
    let leaves = subst (λ (ws : List ℕ). (w : ℕ) → w < length ws → IsLeaf (get_or ws w 0) (node c.renew.new.nodes (length ws + w))) words c.renew.ensures.leaves in
    rw (
      whole_written c.self.inside.words.len c.self.inside.words.items c.clear_run.new.words long,
      whole_written c.self.inside.nodes.len c.self.inside.nodes.items c.renew.new.nodes long_nodes,
    )
    (IsTree-renewed c.self.invariant same summed leaves)
