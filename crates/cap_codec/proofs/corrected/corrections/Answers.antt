use Rattle.std.proofs.Common.{subst}
use Rattle.cap_codec.specs.Corrections.{AreCorrections}
use Rattle.cap_codec.specs.declared.word.Fields.{Fields}
use Rattle.cap_codec.proofs.IntegerCorrections.{AreCorrections-unique}
use Rattle.cap_codec.proofs.corrected.corrections.Goals as goal

pub returns-clause-only : goal.returns-clause-only
returns-clause-only c = λ first second h.
    AreCorrections-unique h (subst (λ (f : Fields). AreCorrections f c.corrections_in.result.0 c.corrections_in.result.1) c.fields.ensures.value c.corrections_in.ensures)
