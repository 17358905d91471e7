use Rattle.std.proofs.Common.{◌≡◌, ◌∙◌, ◌+◌, ◌*◌, ◌/◌, ℕ, subst, sym, arith}
use Rattle.std.proofs.lemmas.Bool.Decides.{nat_tests}
use Rattle.granule_rows.proofs.RenewLaws.{AreSummed-less, AreSummed-set, AreSummed-whole, IsSane-joined, node-other}
use Rattle.granule_rows.specs.Tree.{IsSane, node}
use Rattle.granule_rows.proofs.tree.renew_path.Goals as goal

pub loop-here-preserved : goal.loop-here-preserved
loop-here-preserved c =
    let here : ℕ = c.loop-here.here in
    let inv = c.loop-here.invariant in
    let left = inv.summed.sane (2 * c.loop-here.here) (omega (arith, inv.end)) in
    let right = inv.summed.sane (2 * c.loop-here.here + 1) (omega (arith, inv.end)) in
    let less = AreSummed-less inv.summed c.loop-here.here (c.loop-here.here + 1) (c.loop-here.here / 2) (c.loop-here.here / 2 + 1) (λ i some lt one two. (one, λ le. omega arith)) in
    let sane = subst (IsSane c.args.leaves c.loop-here.here) (sym c.joined-sum.ensures.value) (IsSane-joined c.args.leaves c.loop-here.here _ _ left right) in
    let set = AreSummed-set c.args.leaves c.loop-here.nodes c.loop-here.here (c.loop-here.here + 1) (c.loop-here.here / 2) (c.loop-here.here / 2 + 1) c.loop-here.here (c.loop-here.here + 1) c.joined-sum.result less
    (omega (arith, inv.end)) (omega arith) (omega arith) sane (λ some lt. c.joined-sum.ensures.value) (λ j one other from. one (omega arith)) in
    record {
      summed = AreSummed-less set (c.loop-here.here / 2) (c.loop-here.here / 2 + 1) 0 0 (λ i some lt one two. (λ le. le, one));
      end = omega (arith, inv.end);
      leaves = λ i le. node-other c.loop-here.nodes c.loop-here.here i c.joined-sum.result (λ e. absurd (omega (arith, inv.end))) ∙ inv.leaves i le;
    }

pub returns-then-eq-clause-summed : goal.returns-then-eq-clause-summed
returns-then-eq-clause-summed c =
    let length : c.joined-sum.result.length ≡ (node c.loop-here.nodes c.loop-here.here).length = grind (arith, nat_tests) in
    let prefix : c.joined-sum.result.prefix ≡ (node c.loop-here.nodes c.loop-here.here).prefix = grind (arith, nat_tests) in
    let longest : c.joined-sum.result.longest ≡ (node c.loop-here.nodes c.loop-here.here).longest = grind (arith, nat_tests) in
    let suffix : c.joined-sum.result.suffix ≡ (node c.loop-here.nodes c.loop-here.here).suffix = grind (arith, nat_tests) in
    let same : c.joined-sum.result ≡ node c.loop-here.nodes c.loop-here.here = λ k. record { length = length k; prefix = prefix k; longest = longest k; suffix = suffix k } in
    AreSummed-whole c.args.leaves c.loop-here.nodes c.loop-here.here c.loop-here.invariant.summed (sym same ∙ c.joined-sum.ensures.value)
