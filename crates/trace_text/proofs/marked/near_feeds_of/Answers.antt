use Rattle.std.proofs.Common.{◌==◌, ◌≤◌, length, take, refl, arith}
use Rattle.std.proofs.lemmas.List.{length-take-le}
use Rattle.std.proofs.lemmas.Simd.{zip2_splat}
use Rattle.trace_text.proofs.Lanes.{marks, no_more}
use Rattle.trace_text.proofs.marked.near_feeds_of.Goals as goal

pub returns-clause-near : goal.returns-clause-near
returns-clause-near c =
    let text = c.args.text.now in
    let room : 32 ≤ length c.args.text.now = omega (arith, c.requires) in
    marks 32 text _ (λ byte. byte == 10) (omega arith) room c.type_inv.text _ (zip2_splat _ (take 32 text) 32 10 (length-take-le 32 text room)) refl

pub returns-clause-far : goal.returns-clause-far
returns-clause-far c =
    let text = c.args.text.now in
    let room : 32 ≤ length c.args.text.now = omega (arith, c.requires) in
    no_more 32 text _ (omega arith) room _ (zip2_splat _ (take 32 text) 32 10 (length-take-le 32 text room))
