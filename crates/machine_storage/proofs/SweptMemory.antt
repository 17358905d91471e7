-- Memory after a sweep, by masks.
use Rattle.std.proofs.Common.{◌≡◌, ◌∙◌, ◌<◌, ◌+◌, ◌&&◌, ℕ, Bool, true, false, not, List, length, get_or, refl, sym, ap, arith}
use Rattle.std.specs.List.{enumerate_from}
use Rattle.std.proofs.lemmas.List.{ext_get_or, get_or-map, length-map}
use Rattle.std.proofs.lemmas.List.FromFn.{get_or-enumerate_from, length-enumerate_from}
use Rattle.heap_model.specs.Blocks.{Span}
use Rattle.heap_model.specs.Sweep.{is_revoked, swept_granule, swept_granules}
use Rattle.sweep_masks.specs.Masks.{TakeTags}
use Rattle.tag_memory.specs.Cells.{Granule, MemoryState}
use Rattle.tag_memory.specs.Tags.{is_set_for, without_tags}

-- A tag that is taken where it is and the word is revoked.
pub and_not : (t r : Bool) → (t && not (t && r)) ≡ (t && not r)
and_not true r = refl
and_not false r = refl

get_or-without_tags : (masks : List ℕ) (granules : List Granule) (i : ℕ) → i < length granules
    → get_or (without_tags masks granules) i (0, false) ≡ ((get_or granules i (0, false)).0, (get_or granules i (0, false)).1 && not (is_set_for masks i))
unfolding without_tags
get_or-without_tags masks granules i lt =
    let take : ℕ × Granule → Granule = λ at. (at.1.0, at.1.1 && not (is_set_for masks at.0)) in
    let there : get_or (enumerate_from 0 granules) i (0, (0, false)) ≡ (i, get_or granules i (0, false)) =
    (let here : 0 + i ≡ i = omega arith in get_or-enumerate_from 0 granules i (0, (0, false)) lt ∙ ap (λ (n : ℕ). (n, get_or granules i (0, false))) here) in
    get_or-map take (enumerate_from 0 granules) i (0, (0, false)) (0, false) (rw length-enumerate_from lt) ∙ ap take there

length-without_tags : (masks : List ℕ) (granules : List Granule) → length (without_tags masks granules) ≡ length granules
unfolding without_tags
length-without_tags masks granules = length-map _ _ ∙ length-enumerate_from 0 granules

-- Memory without the tags of the masks is the memory swept.
pub without_tags-swept : (held : List Span) (m : MemoryState) (masks : List ℕ) → TakeTags m held masks → without_tags masks m.granules ≡ swept_granules held m.granules
without_tags-swept held m masks take =
    let granules = m.granules in
    ext_get_or (0, false) (without_tags masks granules) (swept_granules held granules)
    (length-without_tags masks granules ∙ sym (length-map granules (swept_granule held)))
    (λ i lt.
    let inside : i < length granules = omega (arith, lt, length-without_tags masks granules) in
    let granule = get_or granules i (0, false) in
    let tag : (granule.1 && not (is_set_for masks i)) ≡ (granule.1 && not (is_revoked held (record { bits = granule.0 }))) =
    ap (λ b. granule.1 && not b) (take.bits i inside) ∙ and_not granule.1 (is_revoked held (record { bits = granule.0 })) in
    get_or-without_tags masks granules i inside
    ∙ ((λ k. (granule.0, tag k)) ∙ sym (get_or-map (swept_granule held) granules i (0, false) (0, false) inside)))
