use Rattle.std.proofs.Common.{take, refl, arith}
use Rattle.std.proofs.lemmas.List.{length-take-le}
use Rattle.std.proofs.lemmas.Simd.{zip2_splat}
use Rattle.trace_text.specs.Lines.{is_blank}
use Rattle.trace_text.proofs.Lanes.{joined, marks}
use Rattle.trace_text.proofs.marked.far_blanks_of.Goals as goal

pub returns : goal.returns
returns c =
    let v = take 64 c.args.text.now in
    let long = length-take-le 64 c.args.text.now c.requires in
    marks 64 c.args.text.now _ is_blank (omega arith) c.requires c.type_inv.text _
    (joined _ _ _ v (zip2_splat _ v 64 32 long) (joined _ _ _ v (zip2_splat _ v 64 9 long) (zip2_splat _ v 64 13 long))) refl
