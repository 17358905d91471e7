use Rattle.std.proofs.Common.{◌<◌, ◌+◌, ◌-◌, ◌*◌, ◌/◌, ◌%◌, ◌^◌, ℕ, List, length, get_or, inl, inr, refl, bit_and, arith}
use Rattle.std.proofs.lemmas.Bool.{cases_lt}
use Rattle.std.proofs.lemmas.Nat.{and_le_l}
use Rattle.granule_rows.proofs.FindLaws.{HasRun-leaf, IsFirst-from, IsNode-summary, IsNode-within, IsSummary-moved}
use Rattle.granule_rows.proofs.NextLaws.{AreSet-from, IsFirst-back, IsFirst-moved, IsPath-leaf, IsSummary-from, first_bits, parent_even, parent_odd, passed_across, passed_beyond, passed_end, passed_more, passed_none, path_root, sibling}
use Rattle.granule_rows.proofs.RowLaws.{set_inside}
use Rattle.granule_rows.proofs.WordLaws.{leaf_ones, run_fits}
use Rattle.granule_rows.proofs.find.first_from.Goals as goal

first_word : (words : List ℕ) (from : ℕ) → get_or words (from / 64) 0 < 2 ^ 64 → bit_and (get_or words (from / 64) 0) ((2 ^ 64 - 1) * 2 ^ (from % 64) % 2 ^ 64) < 2 ^ 64
first_word words from fits = omega (arith, and_le_l (get_or words (from / 64) 0) ((2 ^ 64 - 1) * 2 ^ (from % 64) % 2 ^ 64))

pub returns-in-Some : goal.returns-in-Some
returns-in-Some c =
    let words = c.args.words.now in
    let first = c.args.from / 64 in
    let fits = run_fits _ c.in-Some.place c.args.n (first_word words c.args.from (c.type_inv.words first).fits) c.in-Some.ensures.run c.requires.some in
    IsFirst-back c.args.from (64 * first) c.args.n (64 * first + c.in-Some.place) c.requires.some (omega arith)
    (IsFirst-moved (64 * first) c.args.n c.in-Some.place (λ j lt. first_bits words c.args.from first j refl lt) c.requires.some fits c.in-Some.ensures)

pub loop-at-init : goal.loop-at-init
loop-at-init c =
    let words = c.args.words.now in
    let first = c.args.from / 64 in
    let leaf = leaf_ones _ (first_word words c.args.from (c.type_inv.words first).fits) in
    let none = c.in_default.ensures in
    record {
      path = IsPath-leaf (length words) c.requires.tree.height first c.requires.tree.power (omega (arith, c.requires.from));
      passed = record {
        part = leaf.0;
        is = IsSummary-moved (64 * first) (λ j lt. first_bits words c.args.from first j refl (omega (arith, leaf.1.length))) leaf.1.summary;
        end_is = omega (arith, leaf.1.length);
        ones_is = leaf.2;
        short = elim (cases_lt leaf.0.longest c.args.n) [
          | inl short ↦ short
          | inr long ↦ (let has = HasRun-leaf leaf.1 long in absurd (none has.at has.run))
        ];
      };
      long = omega arith;
    }

pub loop-at-preserved-then-at-eq1 : goal.loop-at-preserved-then-at-eq1
loop-at-preserved-then-at-eq1 c =
    let inv = c.loop-at.invariant in
    record { path = parent_odd _ _ c.requires.tree inv.path (omega arith) (omega arith); passed = inv.passed; long = inv.long }

pub overflow_add-ones : goal.overflow_add-ones
overflow_add-ones c =
    let inv = c.loop-at.invariant in
    let tree = c.requires.tree in
    let next = sibling _ _ tree inv.path (omega arith) (omega arith) in
    record { fits = omega (arith, IsNode-within _ _ tree next, (IsNode-summary _ _ tree next).prefix_within, passed_end inv.passed, tree.limit) }

pub returns-then-ones-next : goal.returns-then-ones-next
returns-then-ones-next c =
    let inv = c.loop-at.invariant in
    let next = IsNode-summary _ _ c.requires.tree (sibling _ _ c.requires.tree inv.path (omega arith) (omega arith)) in
    IsFirst-back c.args.from (64 * (c.args.from / 64)) c.args.n _ c.requires.some (omega arith)
    (passed_across inv.passed (IsSummary-from c.args.from c.loop-at.end inv.long next) (omega arith))

pub first_in-requires-clause-node : goal.first_in-requires-clause-node
first_in-requires-clause-node c = sibling _ _ c.requires.tree c.loop-at.invariant.path (omega arith) (omega arith)

pub returns-then-next-n : goal.returns-then-next-n
returns-then-next-n c =
    let inv = c.loop-at.invariant in
    let next = IsNode-summary _ _ c.requires.tree (sibling _ _ c.requires.tree inv.path (omega arith) (omega arith)) in
    let beyond = passed_beyond inv.passed (IsSummary-from c.args.from c.loop-at.end inv.long next) (omega arith) (omega arith) in
    IsFirst-from inv.long (λ q le run. beyond q (omega arith) (AreSet-from c.args.from q c.args.n le run)) c.first_in.ensures

pub ones_at_end-ones-requires : goal.ones_at_end-ones-requires
ones_at_end-ones-requires c =
    let inv = c.loop-at.invariant in
    let tree = c.requires.tree in
    omega (arith, IsNode-within _ _ tree (sibling _ _ tree inv.path (omega arith) (omega arith)), passed_end inv.passed, tree.limit)

pub overflow_add-end-in-loop-at : goal.overflow_add-end-in-loop-at
overflow_add-end-in-loop-at c =
    let tree = c.requires.tree in
    record { fits = omega (arith, IsNode-within _ _ tree (sibling _ _ tree c.loop-at.invariant.path (omega arith) (omega arith)), tree.limit) }

pub loop-at-preserved : goal.loop-at-preserved
loop-at-preserved c =
    let inv = c.loop-at.invariant in
    let next = IsNode-summary _ _ c.requires.tree (sibling _ _ c.requires.tree inv.path (omega arith) (omega arith)) in
    record {
      path = parent_even _ _ c.requires.tree inv.path (omega arith) (omega arith);
      passed = rw c.ones_at_end-ones.ensures (passed_more inv.passed (IsSummary-from c.args.from c.loop-at.end inv.long next) (omega arith) (omega arith));
      long = omega (arith, inv.long);
    }

pub returns : goal.returns
returns c = λ q le run.
    let inv = c.loop-at.invariant in
    let root = path_root inv.path (omega arith) in
    let inside = set_inside c.args.words.now q c.args.n c.requires.some run in
    passed_none inv.passed q (omega arith) (omega (arith, root, inside)) (AreSet-from c.args.from q c.args.n le run)
