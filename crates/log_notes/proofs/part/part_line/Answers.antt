use Rattle.std.proofs.Common.{◌≡◌, ◌∙◌, ◌++◌, ℕ, List, [], ◌∷◌, map, take, length, ap, arith}
use Rattle.log_notes.specs.Part.{begun_part, most_comment, shown_byte}
use Rattle.log_notes.proofs.LastLine.{take_most}
use Rattle.log_notes.proofs.part.part_line.Goals as goal

pub returns : goal.returns
returns c =
    let told : List ℕ = take c.min.result c.args.comment.now in
    let all : c.loop-byte.byte-index ≡ length told = omega arith in
    c.in_ok-push-2.ensures.items
    ∙ ap (λ items. items ++ (10 ∷ [])) (c.loop-byte.invariant ∙ ap (λ count. begun_part ++ map shown_byte (take count told)) all
    ∙ ap (λ bytes. begun_part ++ map shown_byte bytes) (take_most c.args.comment.now most_comment c.min.result c.min.ensures))
