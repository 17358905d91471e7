-- A block of each size has one least place in a heap, or none.
use Rattle.std.proofs.Common.{◌≡◌, ◌<◌, ◌≤◌, ◌+◌, ◌%◌, ℕ, zero, suc, List, [], ◌∷◌, inl, inr, subst, arith}
use Rattle.std.proofs.Math.Decide.{dec_le, ℕ_discrete}
use Rattle.std.proofs.lemmas.Bool.{cases_lt}
use Rattle.std.proofs.lemmas.List.Elements.{All-cons, All-head, All-nil, All-tail}
use Rattle.std.specs.Prelude.{◌⊎◌, All}
use Rattle.heap_model.specs.Blocks.{IsApart, Span, end_of, start_of}
use Rattle.heap_model.specs.Heap.{HeapState}
use Rattle.heap_model.specs.Place.{IsFree, IsPlace, block_length, block_unit}

-- ---- what can be decided

Dec-same : {P Q : Type 0} → (P → Q) → (Q → P) → Dec P → Dec Q
Dec-same to from (yes p) = yes (to p)
Dec-same to from (no not_p) = no (λ q. not_p (from q))

Dec-both : {P Q : Type 0} → Dec P → Dec Q → Dec (P × Q)
Dec-both (yes p) (yes q) = yes (p, q)
Dec-both (yes p) (no not_q) = no (λ both. not_q both.1)
Dec-both (no not_p) q = no (λ both. not_p both.0)

Dec-either : {P Q : Type 0} → Dec P → Dec Q → Dec (P ⊎ Q)
Dec-either (yes p) q = yes (inl p)
Dec-either (no not_p) (yes q) = yes (inr q)
Dec-either (no not_p) (no not_q) = no (λ either. elim either [ inl p ↦ not_p p | inr q ↦ not_q q ])

Dec-All : {X : Type 0} (P : X → Type 0) → ((x : X) → Dec (P x)) → (xs : List X) → Dec (All P xs)
Dec-All P each [] = yes (All-nil P)
Dec-All P each (x ∷ xs) =
    Dec-same (λ both. All-cons P x xs both.0 both.1) (λ all. (All-head P x xs all, All-tail P x xs all)) (Dec-both (each x) (Dec-All P each xs))

Dec-IsApart : (b c : Span) → Dec (IsApart b c)
Dec-IsApart b c = Dec-either (dec_le (end_of b) (start_of c)) (dec_le (end_of c) (start_of b))

Dec-IsFree : (s : HeapState) (size a : ℕ) → Dec (IsFree s size a)
Dec-IsFree s size a =
    let block : Span = (a, block_length size) in
    let aligned = Dec-both (ℕ_discrete (a % 16) 0) (ℕ_discrete (a % block_unit size) 0) in
    let inside = Dec-both (dec_le s.base a) (dec_le (a + block_length size) (s.base + s.size)) in
    let held = Dec-both (Dec-All (IsApart block) (Dec-IsApart block) s.waiting) (Dec-All (IsApart block) (Dec-IsApart block) s.painted) in
    let apart = Dec-both (Dec-All (IsApart block) (Dec-IsApart block) s.live) held in
    Dec-same
    (λ all. record { granule = all.0.0; unit = all.0.1; from = all.1.0.0; end = all.1.0.1; live = all.1.1.0; waiting = all.1.1.1.0; painted = all.1.1.1.1 })
    (λ free. ((free.granule, free.unit), ((free.from, free.end), (free.live, (free.waiting, free.painted)))))
    (Dec-both aligned (Dec-both inside apart))

-- ---- the least place

-- P holds of a least number, or of none below n.
least_or_none : (P : ℕ → Type 0) → ((a : ℕ) → Dec (P a)) → (n : ℕ)
    → ((a : ℕ) × P a × ((b : ℕ) → P b → a ≤ b)) ⊎ ((a : ℕ) → a < n → P a → ⊥)
least_or_none P test zero = inr (λ a lt p. absurd (omega arith))
least_or_none P test (suc n) =
    elim (least_or_none P test n) [
      | inl found ↦ inl found
      | inr none ↦
          elim (test n) [
            | yes here ↦ inl (n, here, λ b p. elim (cases_lt b n) [ inl lt ↦ absurd (none b lt p) | inr le ↦ le ])
            | no not_here ↦ inr (λ a lt p. elim (cases_lt a n) [ inl less ↦ none a less p | inr le ↦ let e : a ≡ n = omega arith in not_here (subst P e p) ])
          ]
    ]

pub IsPlace-some : (s : HeapState) (size : ℕ) → ((a : ℕ) × IsPlace s size a) ⊎ ((a : ℕ) → IsFree s size a → ⊥)
IsPlace-some s size =
    elim (least_or_none (IsFree s size) (Dec-IsFree s size) (s.base + s.size + 1)) [
      | inl found ↦ inl (found.0, record { free = found.1; least = found.2 })
      | inr none ↦ inr (λ a free. none a (omega (arith, free.end)) free)
    ]

pub IsPlace-only : (s : HeapState) (size a b : ℕ) → IsPlace s size a → IsPlace s size b → a ≡ b
IsPlace-only s size a b p q = omega (arith, p.least b q.free, q.least a p.free)
