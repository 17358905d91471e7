use Rattle.std.proofs.Common.{◌≡◌, [], ◌∷◌, codes, arith}
use Rattle.std.specs.Fmt.{decimal}
use Rattle.trace_report.specs.Report.{free_of}
use Rattle.json.specs.Token.{key, number}
use Rattle.data_tokens.specs.LineLaws.{added_four}
use Rattle.state_data.proofs.recording.put_end.Goals as goal

pub returns : goal.returns
returns c =
    let free : c.free_bytes.result ≡ free_of c.args.machine.now.state.heap = omega (arith, c.free_bytes.ensures) in
    added_four _ _ _ _ _ _ _ _ _ _ _ c.in_ok-count.ensures c.in_ok-count-2.ensures c.in_ok-count-3.ensures c.count-4.ensures
    (λ i. key (codes "live") ∷ number (decimal (c.live_bytes.ensures i)) ∷ key (codes "held") ∷ number (decimal (c.held_bytes.ensures i)) ∷ key (codes "free") ∷ number (decimal (free i)) ∷ key (codes "tags") ∷ number (decimal (c.count_tags.ensures i)) ∷ [])
