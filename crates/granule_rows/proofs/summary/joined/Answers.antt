use Rattle.std.proofs.Common.{◌≡◌, ◌+◌, ◌==◌, max, if◌then◌else◌}
use Rattle.std.proofs.lemmas.Bool.{eq-eqb, ne_eqb}
use Rattle.granule_rows.proofs.JoinLaws.{IsSummary-joined}
use Rattle.granule_rows.proofs.summary.joined.Goals as goal
use Rattle.granule_rows.proofs.summary.joined.Goals.{then-left, else-left}

pub returns-clause-summary : goal.returns-clause-summary
returns-clause-summary c = λ bits first l r.
    let p : c.if-left.prefix ≡ (if c.args.left.prefix == c.args.left.length then c.args.left.length + c.args.right.prefix else c.args.left.prefix) =
    elim c.if-left.branch [
      | then-left w ↦ rw (eq-eqb c.args.left.prefix c.args.left.length w.if-left.true) w.prefix-is
      | else-left w ↦ rw (ne_eqb c.args.left.prefix c.args.left.length w.if-left.false) w.prefix-is
    ] in
    let m : c.max-2.result ≡ max (max c.args.left.longest c.args.right.longest) (c.args.left.suffix + c.args.right.prefix) = cc in
    rw (p, c.ones_at_end.ensures, m) (IsSummary-joined bits first c.args.left c.args.right l r)
