use Rattle.std.proofs.Common.{subst, sym, ap, ◌∙◌}
use Rattle.cap_codec.specs.Bounds.{IsBounds}
use Rattle.cap_codec.specs.Fields.{fields_of}
use Rattle.cap_codec.specs.declared.word.Bounds.{Bounds}
use Rattle.cap_codec.specs.declared.word.Word.{Word}
use Rattle.kernelstint.proofs.decoding.kernelstint_bounds_of.Goals as goal

pub returns-clause-only : goal.returns-clause-only
returns-clause-only c = λ base top is.
    let found = c.bounds.ensures.only base top (subst (λ (w : Word). IsBounds (fields_of w) base top) (sym c.word_in.ensures.value) is) in
    (found.0 ∙ ap (λ (b : Bounds). b.base) (sym c.bounds_out.ensures), found.1 ∙ ap (λ (b : Bounds). b.top) (sym c.bounds_out.ensures))
