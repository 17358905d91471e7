use Rattle.std.proofs.Common.{ap, sym, ◌∙◌, arith}
use Rattle.cap_codec.specs.declared.word.Word.{Word}
use Rattle.cap_codec.specs.Fields.{bits_with}
use Rattle.cap_codec.specs.Words.{bounds_in, with_address}
use Rattle.cap_codec.proofs.FieldLaws.{bits_with-fields_of, fields_of-with_address}
use Rattle.cap_codec.proofs.WordLaws.{bounds_in-with_address}
use Rattle.cap_codec.proofs.derive.set_address.Goals as goal

pub returns-clause-fields : goal.returns-clause-fields
returns-clause-fields c = fields_of-with_address c.args.w _ c.args.address (omega arith) (omega arith)

pub returns-clause-word : goal.returns-clause-word
unfolding with_address
returns-clause-word c =
    ap (λ b. let w : Word = record { bits = b } in w) (sym (bits_with-fields_of _ (omega arith)) ∙ ap bits_with (returns-clause-fields c))

pub returns-clause-bounds : goal.returns-clause-bounds
returns-clause-bounds c =
    λ keeps. ap bounds_in (returns-clause-word c) ∙ bounds_in-with_address c.args.w c.args.address (omega arith) keeps
