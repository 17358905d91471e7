-- An image that goes on by one granule.
use Rattle.std.proofs.Common.{◌≡◌, ℕ, zero, suc, ◌+◌, ◌*◌, List, [], ◌∷◌, ◌++◌, take, Some, sym, ap, ◌∙◌, arith, append_assoc}
use Rattle.std.proofs.lemmas.List.{append-nil}
use Rattle.std.proofs.lemmas.Option.{none-some, same_Some}
use Rattle.std.specs.Prelude.{slice_get}
use Rattle.trace_report.specs.Image.{granule_text, image_of}
use Rattle.tag_memory.specs.Cells.{Granule}

-- one granule more, where it lies
image_of-suc : (address at : ℕ) (granules : List Granule) (i : ℕ) (granule : Granule) → slice_get granules i ≡ Some granule → at ≡ address + 16 * i
    → image_of address (take (suc i) granules) ≡ image_of address (take i granules) ++ granule_text at granule
image_of-suc address at [] i granule here lies = absurd (none-some granule here)
image_of-suc address at (first ∷ granules) zero granule here lies =
    let same : address ≡ at = omega arith in
    append-nil (granule_text address first) ∙ ap (λ a. granule_text a first) same ∙ ap (granule_text at) (same_Some first granule here)
image_of-suc address at (first ∷ granules) (suc i) granule here lies =
    ap (λ text. granule_text address first ++ text) (image_of-suc (address + 16) at granules i granule here (omega arith))
    ∙ sym (append_assoc (granule_text address first) (image_of (address + 16) (take i granules)) (granule_text at granule))

pub image_of-more : (address at : ℕ) (granules : List Granule) (i : ℕ) (granule : Granule) → slice_get granules i ≡ Some granule → at ≡ address + 16 * i
    → image_of address (take (i + 1) granules) ≡ image_of address (take i granules) ++ granule_text at granule
image_of-more address at granules i granule here lies =
    let next : i + 1 ≡ suc i = omega arith in
    ap (λ n. image_of address (take n granules)) next ∙ image_of-suc address at granules i granule here lies
