-- Where the bases of words lie.
use Rattle.std.proofs.Common.{◌≡◌, ℕ, zero, suc, ◌-◌, ◌/◌, ◌<◌, ◌≤◌, ◌&&◌, if◌then◌else◌, inl, inr, List, ◌∷◌, length, get_or, set, refl, sym, ◌∙◌, ap, arith}
use Rattle.std.specs.Prelude.{nat_le, nat_lt, replicate}
use Rattle.std.proofs.lemmas.Bool.{cases_lt, le-leb, le-ltb, lt-leb, lt-ltb}
use Rattle.std.proofs.lemmas.List.{get_or-map, get_or_read, map-set}
use Rattle.cap_codec.specs.Words.{base_of}
use Rattle.cap_codec.specs.declared.word.Word.{Word}
use Rattle.tag_memory.specs.Bases.{base_granule, base_granules, far}

-- Where zeros stand they are all the same.
pub base_granules-zeros : (start n : ℕ) → base_granules start (replicate n 0) ≡ replicate n (base_granule start (record { bits = 0 }))
base_granules-zeros start zero = refl
base_granules-zeros start (suc n) = ap (λ (rest : List ℕ). base_granule start (record { bits = 0 }) ∷ rest) (base_granules-zeros start n)

-- A base whose granule isn't far lies from the start on, in that granule.
chosen : (start b : ℕ) → (if nat_le start b && nat_lt ((b - start) / 16) far then (b - start) / 16 else far) < far
    → (start ≤ b) × ((b - start) / 16 ≡ (if nat_le start b && nat_lt ((b - start) / 16) far then (b - start) / 16 else far))
chosen start b = elim (cases_lt b start) [
  | inl before ↦ rw (lt-leb start b before) (λ lt. absurd (omega (arith, lt)))
  | inr from ↦ elim (cases_lt ((b - start) / 16) far) [
    | inl near ↦ rw (le-leb start b from, lt-ltb ((b - start) / 16) far near) (λ lt. (from, refl))
    | inr past ↦ rw (le-leb start b from, le-ltb ((b - start) / 16) far past) (λ lt. absurd (omega (arith, lt)))
  ]
]

pub base_granule-near : (start : ℕ) (w : Word) → base_granule start w < far → (start ≤ base_of w) × ((base_of w - start) / 16 ≡ base_granule start w)
unfolding base_granule
base_granule-near start w = chosen start (base_of w)

-- One of them, read.
pub base_granule-read : (start : ℕ) (numbers granules : List ℕ) (i read : ℕ) → granules ≡ base_granules start numbers → length granules ≡ length numbers → i < length numbers
    → read ≡ get_or granules i read → read ≡ base_granule start (record { bits = get_or numbers i 0 })
base_granule-read start numbers granules i read are long lt e =
    get_or_read granules i read (omega (arith, lt, long)) e 0
    ∙ (ap (λ (xs : List ℕ). get_or xs i 0) are ∙ get_or-map (λ (number : ℕ). base_granule start (record { bits = number })) numbers i 0 0 lt)

-- One of them, written.
pub base_granules-written : (start : ℕ) (numbers granules : List ℕ) (i number granule : ℕ) → granules ≡ base_granules start numbers → granule ≡ base_granule start (record { bits = number })
    → set granules i granule ≡ base_granules start (set numbers i number)
base_granules-written start numbers granules i number granule are is =
    rw (are, is) (sym (map-set (λ (number : ℕ). base_granule start (record { bits = number })) numbers i number))
