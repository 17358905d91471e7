use Rattle.std.proofs.Common.{◌≡◌, ◌<◌, ◌^◌, ◌/◌, ◌%◌, ◌+◌, ℕ, rules, ap, subst, ◌∙◌, nat_lt, w8}
use Rattle.std.proofs.lemmas.Int.{to_z-of_z}
use Rattle.cap_codec.specs.Mantissas.{exponent_of}
use Rattle.cap_codec.proofs.IntegerCorrections.{AreCorrections-tests, start_eighth}
use Rattle.cap_codec.proofs.corrected.corrections_in.Goals as goal

pub returns : goal.returns
returns c =
    let f = c.args.f in
    let is = c.mantissas_in-exponent.ensures in
    let start = c.start_eighth-start.result in
    let here = c.eighth_at.result in
    let start_is : start ≡ start_eighth f = c.start_eighth-start.ensures.value ∙ ap (λ x. (x / 2 ^ 11 + 7) % 8) is.base in
    let here_is : here ≡ f.address / 2 ^ (exponent_of f + 11) % 8 = c.eighth_at.ensures ∙ ap (λ e. f.address / 2 ^ (e + 11) % 8) is.exponent in
    let test : (n n' : ℕ) → n ≡ n' → nat_lt n start ≡ nat_lt n' (start_eighth f) = λ n n' e. ap (λ x. nat_lt x start) e ∙ ap (λ x. nat_lt n' x) start_is in
    AreCorrections-tests f (subst (λ x. x < 2 ^ 14) is.base is.base_limit) (subst (λ x. x < 2 ^ 14) is.top is.top_limit)
    (test _ _ here_is) (test _ _ (ap (λ x. x / 2 ^ 11) is.base)) (test _ _ (ap (λ x. x / 2 ^ 11) is.top))
    (to_z-of_z w8 c.correction.result (search rules) ∙ c.correction.ensures)
    (to_z-of_z w8 c.correction-2.result (search rules) ∙ c.correction-2.ensures)
