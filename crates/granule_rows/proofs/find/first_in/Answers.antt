use Rattle.std.proofs.Common.{◌≤◌, ◌+◌, ◌-◌, ◌*◌, ℕ, length, refl, ap, sym, subst, arith}
use Rattle.std.proofs.lemmas.Bool.{some_since}
use Rattle.granule_rows.proofs.FindLaws.{HasRun-leaf, IsFirst-from, IsFirst-word, IsNode-some, across, beyond, children, leaf_place, leaf_word, longest_within}
use Rattle.granule_rows.proofs.WordLaws.{run_fits}
use Rattle.granule_rows.specs.Runs.{IsFirst}
use Rattle.granule_rows.specs.Tree.{node}
use Rattle.granule_rows.specs.declared.summary.Summary.{Summary}
use Rattle.tag_memory.specs.Tags.{is_set_for}
use Rattle.granule_rows.proofs.find.first_in.Goals as goal

pub loop-at-init : goal.loop-at-init
loop-at-init c = record { leaves = refl; place = c.requires.node; has = c.requires.has; from = omega arith; before = λ q le run. le }

pub loop-at-smaller-then-left-n : goal.loop-at-smaller-then-left-n
loop-at-smaller-then-left-n c = omega (arith, IsNode-some _ _ c.requires.tree c.loop-at.invariant.place)

pub loop-at-preserved-then-left-n : goal.loop-at-preserved-then-left-n
loop-at-preserved-then-left-n c =
    let inv = c.loop-at.invariant in
    let kids = children _ _ c.requires.tree inv.place (omega (arith, inv.leaves)) in
    record { leaves = inv.leaves; place = kids.left_node; has = c.if-left-n.true; from = inv.from; before = inv.before }

pub overflow_add-middle : goal.overflow_add-middle
overflow_add-middle c =
    let inv = c.loop-at.invariant in
    let kids = children _ _ c.requires.tree inv.place (omega (arith, inv.leaves)) in
    omega (arith, kids.within, c.requires.tree.limit)

pub overflow_add-left : goal.overflow_add-left
overflow_add-left c =
    let inv = c.loop-at.invariant in
    let kids = children _ _ c.requires.tree inv.place (omega (arith, inv.leaves)) in
    omega (arith, kids.within, kids.left.suffix_within, kids.right.prefix_within, c.requires.tree.limit)

pub returns-then-left-right : goal.returns-then-left-right
returns-then-left-right c =
    let inv = c.loop-at.invariant in
    let kids = children _ _ c.requires.tree inv.place (omega (arith, inv.leaves)) in
    IsFirst-from inv.from inv.before (across _ _ _ _ _ kids.left kids.right (omega (arith, c.if-left-n.false)) (omega arith))

pub loop-at-preserved : goal.loop-at-preserved
loop-at-preserved c =
    let inv = c.loop-at.invariant in
    let kids = children _ _ c.requires.tree inv.place (omega (arith, inv.leaves)) in
    let longest = ap (λ (s : Summary). s.longest) kids.sum in
    let has : c.args.n ≤ (node c.args.nodes.now (2 * c.loop-at.at + 1)).longest = omega (arith, longest, inv.has) in
    record {
      leaves = inv.leaves;
      place = kids.right_node;
      has = has;
      from = omega (arith, inv.from);
      before = λ q le run. beyond _ _ _ _ _ kids.left kids.right (omega arith) (omega arith) has q (inv.before q le run) run;
    }

pub offset_bounds-words-at : goal.offset_bounds-words-at
offset_bounds-words-at c =
    let inv = c.loop-at.invariant in
    omega (arith, (leaf_place _ _ c.requires.tree inv.place (omega (arith, inv.leaves))).1, c.requires.tree.limit)

pub bounds-words-at : goal.bounds-words-at
bounds-words-at c =
    let inv = c.loop-at.invariant in
    omega (arith, (leaf_place _ _ c.requires.tree inv.place (omega (arith, inv.leaves))).1)

pub first_run_of_word-requires-clause-most : goal.first_run_of_word-requires-clause-most
first_run_of_word-requires-clause-most c =
    let inv = c.loop-at.invariant in
    let leaf = leaf_word _ _ c.requires.tree inv.place (omega (arith, inv.leaves)) in
    omega (arith, inv.has, leaf.length, longest_within leaf.summary)

pub unwrap-place-requires : goal.unwrap-place-requires
unwrap-place-requires c =
    let inv = c.loop-at.invariant in
    let leaf = leaf_word _ _ c.requires.tree inv.place (omega (arith, inv.leaves)) in
    let has = HasRun-leaf leaf inv.has in
    some_since _ _ _ c.first_run_of_word.ensures (λ no. no has.at has.run)

pub overflow_add-result : goal.overflow_add-result
overflow_add-result c =
    let inv = c.loop-at.invariant in
    let place = leaf_place _ _ c.requires.tree inv.place (omega (arith, inv.leaves)) in
    omega (arith, place.0, place.1, c.requires.tree.limit)

pub returns : goal.returns
returns c =
    let inv = c.loop-at.invariant in
    let place = leaf_place _ _ c.requires.tree inv.place (omega (arith, inv.leaves)) in
    let w : ℕ = c.loop-at.at - length c.args.words.now in
    let found = rw c.unwrap-place.ensures at c.first_run_of_word.ensures in
    let fits = run_fits _ c.unwrap-place.result c.args.n (c.type_inv.words (c.loop-at.at - length c.args.words.now)).fits found.run c.requires.some in
    let first = IsFirst-word c.args.words.now (c.loop-at.at - length c.args.words.now) c.args.n c.unwrap-place.result c.requires.some fits found in
    IsFirst-from inv.from inv.before
    (subst (λ (a : ℕ). IsFirst (is_set_for c.args.words.now) a c.args.n (a + c.unwrap-place.result)) (sym place.0) first)
