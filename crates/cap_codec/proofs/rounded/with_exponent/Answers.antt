use Rattle.std.proofs.Common.{◌≡◌, rules, sym, ap, ◌∙◌, subst}
use Rattle.cap_codec.specs.declared.word.Word.{Word}
use Rattle.cap_codec.specs.Bounds.{bounds_of}
use Rattle.cap_codec.specs.Fields.{bits_with, fields_of}
use Rattle.cap_codec.specs.Mantissas.{exponent_of}
use Rattle.cap_codec.specs.Rounding.{IsExponent, exponent_for}
use Rattle.cap_codec.specs.Words.{narrowed_word}
use Rattle.cap_codec.proofs.EncodeLaws.{bounds_of-with_bounds_of, exponent_of-with_bounds_of}
use Rattle.cap_codec.proofs.RoundingLaws.{IsExponent-exponent_for, IsNearExponent-from}
use Rattle.cap_codec.proofs.WordLaws.{is_exact-flag}
use Rattle.cap_codec.proofs.rounded.with_exponent.Goals as goal

pub returns-clause-fields : goal.returns-clause-fields
returns-clause-fields c = search rules

pub returns-clause-word : goal.returns-clause-word
unfolding narrowed_word
returns-clause-word c =
    ap (λ b. let w : Word = record { bits = b } in w) (c.word_of.ensures.value ∙ ap bits_with (sym c.word_of.ensures.fields ∙ returns-clause-fields c))

pub returns-clause-flag : goal.returns-clause-flag
returns-clause-flag c = is_exact-flag _ c.args.base c.args.top (search rules)

pub returns-clause-bounds : goal.returns-clause-bounds
returns-clause-bounds c =
    ap bounds_of (returns-clause-fields c) ∙ bounds_of-with_bounds_of (fields_of c.args.w) c.args.base c.args.top c.requires.order c.requires.room (search rules)

pub returns-clause-exponent : goal.returns-clause-exponent
returns-clause-exponent c = λ long.
    let exponent_is : exponent_of (fields_of c.word_of.result) ≡ exponent_for c.args.base c.args.top =
    ap exponent_of (returns-clause-fields c) ∙ exponent_of-with_bounds_of (fields_of c.args.w) c.args.base c.args.top long in
    subst (λ e. IsExponent c.args.base c.args.top e) (sym exponent_is) (IsExponent-exponent_for c.args.base c.args.top c.requires.order c.requires.room)

pub returns-clause-near : goal.returns-clause-near
returns-clause-near c = λ long. IsNearExponent-from c.args.base c.args.top _ (returns-clause-exponent c long) c.requires.order c.requires.room long
