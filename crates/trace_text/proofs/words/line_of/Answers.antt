use Rattle.std.proofs.Common.{◌*◌, ◌%◌, ◌^◌, sym, ap, ◌∙◌, arith, w64}
use Rattle.std.specs.Int.Bits.{or_zero_l}
use Rattle.tag_memory.specs.Laws.{is_set-other, is_set_zero}
use Rattle.tag_memory.specs.Tags.{is_set}
use Rattle.trace_text.proofs.words.line_of.Goals as goal

pub of_text-requires-clause-first : goal.of_text-requires-clause-first
of_text-requires-clause-first c =
    λ j lt.
    let count = c.args.count in
    ap (λ mask. is_set mask j) (sym (or_zero_l (1 * 2 ^ count % 2 ^ 64))) ∙ is_set-other w64 0 count (omega (arith, c.if-count-ge-LANES.false)) j (omega (arith, lt)) ∙ is_set_zero j
