use Rattle.std.proofs.Common.{◌≡◌, ◌+◌, ◌/◌, ◌%◌, ◌^◌, arith, rules, ap, ◌∙◌, subst, w8, to_z, of_z, IsTrue, ◌↔◌}
use Rattle.std.specs.Prelude.{◌==◌, ◌-◌}
use Rattle.std.proofs.lemmas.Int.{to_z-of_z}
use Rattle.cap_codec.specs.declared.word.Fields.{Fields}
use Rattle.cap_codec.specs.Fields.{fields_of}
use Rattle.cap_codec.specs.Representable.{IsInWindow, is_representable}
use Rattle.cap_codec.proofs.CorrectedWindow.{in_window-test, same_tests, start-congruent}
use Rattle.cap_codec.proofs.FieldLaws.{IsInRange-fields_of}
use Rattle.cap_codec.proofs.IntegerCorrections.{start_eighth}
use Rattle.cap_codec.proofs.RepresentLaws.{inside-representable, is_representable-is, representable-inside}
use Rattle.cap_codec.proofs.corrected.representable.Goals as goal

pub returns-clause-window : goal.returns-clause-window
returns-clause-window c =
    let f = c.fields-f.result in
    let m = c.mantissas_in-exponent in
    let e = m.result.0 in
    let s = c.start_eighth-start in
    let low = c.corrected_place-low in
    let own = c.correction-own.result in
    let own_is : to_z w8 (of_z w8 own) ≡ own = to_z-of_z w8 own (search rules) in
    let start_is : s.result ≡ start_eighth f = s.ensures.value ∙ ap (λ x. (x / 2 ^ 11 + 7) % 8) m.ensures.base in
    let start = start-congruent f m.ensures.exponent start_is (omega (arith, s.ensures.limit)) c.eighth_at.ensures c.correction-own.ensures (rw own_is at low.ensures) in
    subst (λ (g : Fields). IsTrue ((c.args.address + (2 ^ 64 - low.result)) % 2 ^ 64 / 2 ^ e / 2 ^ 14 == 0) ↔ IsInWindow g c.args.address) c.fields-f.ensures.value
    (in_window-test f e c.args.address low.result m.ensures.exponent (search rules) (omega arith) start)

pub returns-clause-same : goal.returns-clause-same
returns-clause-same c =
    let window = returns-clause-window c in
    let f = fields_of c.args.w in
    let address = (IsInRange-fields_of c.args.w).address in
    (λ t. representable-inside f c.args.address address (omega arith) (window.0 t), λ r. window.1 (inside-representable f c.args.address address (omega arith) r))

pub returns-clause-value : goal.returns-clause-value
returns-clause-value c =
    let same = returns-clause-same c in
    let test = is_representable-is (fields_of c.args.w) c.args.address in
    same_tests _ (is_representable (fields_of c.args.w) c.args.address) (λ t. test.1 (same.0 t)) (λ t. same.1 (test.0 t))
