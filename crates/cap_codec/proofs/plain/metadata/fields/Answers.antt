use Rattle.std.proofs.Common.{ap, ◌∙◌, rules}
use Rattle.cap_codec.specs.Fields.{bits_with, fields_of}
use Rattle.cap_codec.proofs.FieldLaws.{bits_with-fields_of}
use Rattle.cap_codec.proofs.plain.metadata.fields.Goals as goal

pub returns-clause-value : goal.returns-clause-value
unfolding fields_of
returns-clause-value c = search rules

pub returns-clause-back : goal.returns-clause-back
returns-clause-back c = ap bits_with (returns-clause-value c) ∙ bits_with-fields_of c.args.w (search rules)
