use Rattle.std.proofs.Common.{ap, sym, ◌∙◌, rules}
use Rattle.cap_codec.specs.Fields.{bits_with}
use Rattle.cap_codec.proofs.FieldLaws.{fields_of-bits_with, known_by_fields}
use Rattle.cap_codec.proofs.plain.metadata.word_of.Goals as goal

pub returns-clause-value : goal.returns-clause-value
unfolding bits_with
returns-clause-value c = search rules

pub returns-clause-fields : goal.returns-clause-fields
returns-clause-fields c = fields_of-bits_with c.args.f _ c.requires (record { perms = search rules; address = search rules }) (returns-clause-value c)

pub returns-clause-only : goal.returns-clause-only
returns-clause-only c = λ w h e. sym (known_by_fields w _ h (returns-clause-value c ∙ ap bits_with (sym e)))
