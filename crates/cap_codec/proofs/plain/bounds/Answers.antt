use Rattle.std.proofs.Common.{◌≡◌, ◌+◌, ◌*◌, ◌^◌, ℕ, ◌-◌, ◌/◌, ◌%◌, arith, sym, ap, ◌∙◌, subst}
use Rattle.cap_codec.specs.declared.word.Bounds.{Bounds}
use Rattle.cap_codec.specs.Bounds.{IsBounds, bounds_of, origin, place_in, window_mark, window_size}
use Rattle.cap_codec.specs.Fields.{fields_of}
use Rattle.cap_codec.specs.Mantissas.{base_mantissa, exponent_of, top_mantissa}
use Rattle.cap_codec.proofs.BoundsLaws.{IsBounds-bounds_of, IsBounds-unique, bounds_of-parts}
use Rattle.cap_codec.proofs.plain.bounds.Goals as goal

pub returns-clause-value : goal.returns-clause-value
returns-clause-value c =
    let f = c.fields-f.result in
    let exponent_is = c.exponent_in-exponent.ensures.value in
    let unit = c.unit_of-unit.result in
    let size : ℕ = unit * 2 ^ 14 in
    let unit_is : unit ≡ 2 ^ exponent_of f = c.unit_of-unit.ensures.value ∙ ap (λ k. 2 ^ k) exponent_is in
    let size_is : size ≡ window_size f = c.unit_of-unit.ensures.size ∙ ap (λ k. 2 ^ (k + 14)) exponent_is in
    let eighth_is : unit * 2 ^ 11 ≡ 2 ^ (exponent_of f + 11) = c.unit_of-unit.ensures.eighth ∙ ap (λ k. 2 ^ (k + 11)) exponent_is in
    let base_is : c.base_mantissa_in-base_mantissa.result ≡ base_mantissa f = c.base_mantissa_in-base_mantissa.ensures.value in
    let top_is : c.top_mantissa_in-top_mantissa.result ≡ top_mantissa f = c.top_mantissa_in-top_mantissa.ensures.value in
    let eighths = (c.base_mantissa_in-base_mantissa.result / 2 ^ 11 + 7) % 8 in
    let mark_here : c.scaled-mark.result ≡ eighths * (unit * 2 ^ 11) = omega (arith, c.scaled-mark.ensures.value) in
    let mark_is : c.scaled-mark.result ≡ window_mark f =
    mark_here ∙ (ap (λ x. eighths * x) eighth_is ∙ ap (λ m. (m / 2 ^ 11 + 7) % 8 * 2 ^ (exponent_of f + 11)) base_is) in
    let low_is : c.place-low.result ≡ place_in (origin + f.address + 1 - size) size c.scaled-mark.result =
    c.place-low.ensures.value ∙ ap (λ a. place_in (origin + a + 1 - size) size c.scaled-mark.result) c.from.ensures in
    let b_is : c.place-base_place.result ≡ place_in c.place-low.result size (base_mantissa f * unit) =
    c.place-base_place.ensures.value ∙ ap (λ x. place_in c.place-low.result size x) (c.scaled.ensures.value ∙ ap (λ m. m * unit) base_is) in
    let t_is : c.place-top_place.result ≡ place_in c.place-low.result size (top_mantissa f * unit) =
    c.place-top_place.ensures.value ∙ ap (λ x. place_in c.place-low.result size x) (c.scaled-2.ensures.value ∙ ap (λ m. m * unit) top_is) in
    bounds_of-parts f exponent_is unit_is size_is mark_is low_is b_is t_is c.corrected_top.ensures.value ∙ ap bounds_of c.fields-f.ensures.value

pub returns-clause-meets : goal.returns-clause-meets
returns-clause-meets c =
    let P : Bounds → Type 0 = λ r. IsBounds (fields_of c.args.w) r.base r.top in
    subst P (sym (returns-clause-value c)) (IsBounds-bounds_of (fields_of c.args.w))

pub returns-clause-only : goal.returns-clause-only
returns-clause-only c = λ base top h. IsBounds-unique h (returns-clause-meets c)
