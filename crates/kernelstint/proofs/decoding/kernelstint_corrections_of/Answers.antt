use Rattle.std.proofs.Common.{rules, subst, sym, ◌∙◌, w8}
use Rattle.std.proofs.lemmas.Int.{to_z-of_z}
use Rattle.cap_codec.specs.Corrections.{AreCorrections}
use Rattle.cap_codec.specs.Fields.{fields_of}
use Rattle.cap_codec.specs.declared.word.Word.{Word}
use Rattle.kernelstint.proofs.decoding.kernelstint_corrections_of.Goals as goal

pub returns-clause-only : goal.returns-clause-only
returns-clause-only c = λ first second are.
    let found = c.corrections-base.ensures.only first second (subst (λ (w : Word). AreCorrections (fields_of w) first second) (sym c.word_in.ensures.value) are) in
    (found.0 ∙ sym (to_z-of_z w8 c.corrections-base.result.0 (search rules)), found.1 ∙ sym (to_z-of_z w8 c.corrections-base.result.1 (search rules)))
