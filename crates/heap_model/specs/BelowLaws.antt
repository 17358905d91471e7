-- A mask of registers that is made bit by bit.
use Rattle.std.proofs.Common.{◌≡◌, ◌<◌, ◌≤◌, ◌+◌, ◌*◌, ◌%◌, ◌^◌, inl, inr, ℕ, Bool, true, false, bit_or, w32, sym, ◌∙◌, subst, arith}
use Rattle.std.proofs.lemmas.Bool.{cases_eq}
use Rattle.tag_memory.specs.Laws.{is_set-other, is_set-same}
use Rattle.tag_memory.specs.Tags.{is_set}

-- The bits below r are those of a test, and no others are 1.
pub record AreBelow (test : ℕ → Bool) (mask r : ℕ) : Type 0 where
  pub done : (k : ℕ) → k < r → is_set mask k ≡ test k
  pub rest : (k : ℕ) → r ≤ k → is_set mask k ≡ false

-- One bit more, where the test passes.
pub AreBelow-set : (test : ℕ → Bool) (mask r : ℕ) → AreBelow test mask r → r < 32 → test r ≡ true
    → AreBelow test (bit_or mask (1 * 2 ^ r % 2 ^ 32)) (r + 1)
AreBelow-set test mask r below lt passes = record {
  done = λ k k_lt. elim (cases_eq k r) [
    | inl same ↦ (let e : r ≡ k = sym same in subst (λ (i : ℕ). is_set (bit_or mask (1 * 2 ^ r % 2 ^ 32)) i ≡ test i) e (is_set-same w32 mask r lt ∙ sym passes))
    | inr other ↦ is_set-other w32 mask r lt k other ∙ below.done k (omega arith)
  ];
  rest = λ k le. is_set-other w32 mask r lt k (λ e. absurd (omega arith)) ∙ below.rest k (omega arith);
}

-- And where it doesn't.
pub AreBelow-kept : (test : ℕ → Bool) (mask r : ℕ) → AreBelow test mask r → test r ≡ false → AreBelow test mask (r + 1)
AreBelow-kept test mask r below fails = record {
  done = λ k lt. elim (cases_eq k r) [
    | inl same ↦ (let e : r ≡ k = sym same in subst (λ (i : ℕ). is_set mask i ≡ test i) e (below.rest r (omega arith) ∙ sym fails))
    | inr other ↦ below.done k (omega arith)
  ];
  rest = λ k le. below.rest k (omega arith);
}
