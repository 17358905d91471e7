use Rattle.std.proofs.Common.{◌≡◌, ap, ◌∙◌}
use Rattle.cap_codec.specs.declared.word.Fields.{Fields}
use Rattle.cap_codec.specs.declared.word.Word.{Word}
use Rattle.cap_codec.specs.Fields.{bits_with, fields_of}
use Rattle.cap_codec.specs.Rounding.{with_bounds_of}
use Rattle.cap_codec.specs.Words.{block_fields, capability_of, narrowed_word}
use Rattle.cap_codec.proofs.derive.block_capability.Goals as goal

pub returns-clause-value : goal.returns-clause-value
unfolding capability_of narrowed_word
returns-clause-value c =
    let root : fields_of c.word_of-root.result ≡ block_fields =
    c.word_of-root.ensures.fields ∙ ap (λ (f : Fields). let g : Fields = record f { perms = 61 } in g) c.fields.ensures.value in
    c.with_bounds.ensures.word ∙ ap (λ f. let w : Word = record { bits = bits_with (with_bounds_of f c.args.base c.args.top) } in w) root

pub returns-clause-bounds : goal.returns-clause-bounds
returns-clause-bounds c = λ exact. c.with_bounds.ensures.bounds ∙ exact
