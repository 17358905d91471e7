use Rattle.std.proofs.Common.{ap, ◌∙◌}
use Rattle.std.specs.Prelude.{bit_and}
use Rattle.cap_codec.specs.declared.word.Fields.{Fields}
use Rattle.cap_codec.specs.declared.word.Word.{Word}
use Rattle.cap_codec.specs.Fields.{bits_with}
use Rattle.cap_codec.specs.Words.{bounds_in, with_perms}
use Rattle.cap_codec.proofs.WordLaws.{bounds_in-with_perms}
use Rattle.cap_codec.proofs.derive.and_perms.Goals as goal

pub returns-clause-word : goal.returns-clause-word
unfolding with_perms
returns-clause-word c =
    ap (λ b. let w : Word = record { bits = b } in w) (c.word_of.ensures.value ∙ ap (λ (f : Fields). bits_with (record f { perms = bit_and f.perms c.args.mask })) c.fields-f.ensures.value)

pub returns-clause-bounds : goal.returns-clause-bounds
returns-clause-bounds c = ap bounds_in (returns-clause-word c) ∙ bounds_in-with_perms c.args.w c.args.mask
