-- What a granule holds, and what a log may say of it.
use Rattle.std.proofs.Common.{◌≡◌, ◌<◌, ◌+◌, ◌*◌, ℕ, Bool, List, Option, None, Some, MatchOption, refl, sym, subst, arith}
use Rattle.std.specs.Prelude.{length}
use Rattle.std.proofs.lemmas.Option.{slice_get_within}
use Rattle.cap_codec.specs.Bytes.{bits_of_bytes}
use Rattle.tag_memory.specs.Cells.{Granule}
use Rattle.log_text.specs.declared.log.Event.TheVariants.{Seen}
use Rattle.machine_steps.specs.State.{State}
use Rattle.heap_log.specs.declared.verdict.Difference.{Difference}
use Rattle.heap_log.specs.Judged.{HasGranule, IsFound, IsRefusedEvent, IsSeen, SaysInstead}

-- no granule lies there
pub unseen-outside : (s : State) (address : ℕ) (tag : Bool) (bytes : List ℕ)
    → ((i : ℕ) → address ≡ s.heap.base + 16 * i → i < length s.granules → ⊥) → IsRefusedEvent s (Seen address tag bytes)
unseen-outside s address tag bytes none =
    λ left follows. none follows.0.i follows.0.at (slice_get_within s.granules follows.0.i (bits_of_bytes bytes, tag) follows.0.content)

pub without-granule : (s : State) (address : ℕ) → ((i : ℕ) → address ≡ s.heap.base + 16 * i → i < length s.granules → ⊥) → ¬ HasGranule s address
without-granule s address none = λ there. none there.0 there.1.at there.1.before_end

pub outside : (s : State) (address : ℕ) (tag : Bool) (bytes : List ℕ) (base : ℕ) (granules : List Granule) → base ≡ s.heap.base → granules ≡ s.granules
    → ((i : ℕ) → address ≡ base + 16 * i → i < length granules → ⊥) → IsRefusedEvent s (Seen address tag bytes) × (¬ HasGranule s address)
outside s address tag bytes base granules lies holds none =
    let here : (i : ℕ) → address ≡ s.heap.base + 16 * i → i < length s.granules → ⊥ =
    λ i at before_end. none i (omega (arith, at, lies)) (subst (λ (xs : List Granule). i < length xs) (sym holds) before_end) in
    (unseen-outside s address tag bytes here, without-granule s address here)

-- what `see` finds is what is found of the event
pub IsFound-seen : (s : State) (address : ℕ) (tag : Bool) (bytes : List ℕ) (found : Option Difference)
    → MatchOption found (IsSeen s address tag bytes) (λ difference. IsRefusedEvent s (Seen address tag bytes) × SaysInstead s (Seen address tag bytes) difference)
    → IsFound s (Seen address tag bytes) found s
IsFound-seen s address tag bytes None seen = (seen, refl)
IsFound-seen s address tag bytes (Some difference) differs = (differs.0, differs.1, refl)
