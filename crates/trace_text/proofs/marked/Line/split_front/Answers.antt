use Rattle.std.proofs.Common.{◌∷◌, take, sym, ap₂, ◌∙◌}
use Rattle.trace_text.specs.Lines.{words_of}
use Rattle.trace_text.proofs.FirstWord.{words_of-front}
use Rattle.trace_text.proofs.marked.Line.split_front.Goals as goal

pub returns : goal.returns
returns c =
    let end = c.before_blank-end.result in
    words_of-front c.args.self.now end c.requires c.before_blank-end.ensures
    ∙ ap₂ (λ bytes others. take end bytes ∷ words_of others) (sym c.self.view_is) (sym c.after.ensures)
