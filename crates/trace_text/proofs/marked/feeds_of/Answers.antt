use Rattle.std.proofs.Common.{◌==◌, take, refl, arith}
use Rattle.std.proofs.lemmas.List.{length-take-le}
use Rattle.std.proofs.lemmas.Simd.{zip2_splat}
use Rattle.trace_text.proofs.Lanes.{marks}
use Rattle.trace_text.proofs.marked.feeds_of.Goals as goal

pub returns : goal.returns
returns c =
    let text = c.args.text.now in
    marks 64 text _ (λ byte. byte == 10) (omega arith) c.requires c.type_inv.text _ (zip2_splat _ (take 64 text) 64 10 (length-take-le 64 text c.requires)) refl
