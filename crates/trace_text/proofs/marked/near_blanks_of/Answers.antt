use Rattle.std.proofs.Common.{◌≤◌, length, take, refl, arith}
use Rattle.std.proofs.lemmas.List.{length-take-le}
use Rattle.std.proofs.lemmas.Simd.{zip2_splat}
use Rattle.trace_text.specs.Lines.{is_blank}
use Rattle.trace_text.proofs.Lanes.{joined, marks}
use Rattle.trace_text.proofs.marked.near_blanks_of.Goals as goal

pub returns : goal.returns
returns c =
    let v = take 32 c.args.text.now in
    let room : 32 ≤ length c.args.text.now = omega (arith, c.requires) in
    let long = length-take-le 32 c.args.text.now room in
    marks 32 c.args.text.now _ is_blank (omega arith) room c.type_inv.text _
    (joined _ _ _ v (zip2_splat _ v 32 32 long) (joined _ _ _ v (zip2_splat _ v 32 9 long) (zip2_splat _ v 32 13 long))) refl
