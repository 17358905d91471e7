use Rattle.std.proofs.Common.{◌+◌, ◌*◌, ◌∙◌, ◌++◌, ap, sym}
use Rattle.trace_report.specs.Image.{granule_text}
use Rattle.trace_report.proofs.ImageLaws.{image_of-more}
use Rattle.trace_report.proofs.image.image_lines.Goals as goal

pub loop-i-preserved : goal.loop-i-preserved
loop-i-preserved c =
    let memory = c.args.memory.now in
    let i = c.loop-i.i in
    let at = c.base-base.result + 16 * i in
    let lies = ap (λ base. base + 16 * i) c.base-base.ensures.value in
    c.in_ok-push_granule.ensures ∙ ap (λ text. text ++ granule_text at c.cell.result) c.loop-i.invariant
    ∙ sym (image_of-more memory.base at memory.granules i c.cell.result c.cell.ensures lies)
