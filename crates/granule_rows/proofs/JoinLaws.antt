-- The summary of two parts, from theirs.
use Rattle.std.proofs.Common.{◌≡◌, ◌<◌, ◌≤◌, ◌+◌, ◌-◌, ◌==◌, ℕ, Bool, true, false, max, inl, inr, if◌then◌else◌, subst, arith}
use Rattle.std.proofs.lemmas.Bool.{both_ways, cases_eq, cases_lt, eq-eqb, ne_eqb}
use Rattle.granule_rows.specs.Runs.{AreSet}
use Rattle.granule_rows.specs.Summaries.{IsSummary, joined_of}
use Rattle.granule_rows.specs.declared.summary.Summary.{Summary}

-- A bit that is 0 lies in no run.
pub zero_in_run : {bits : ℕ → Bool} (q n k : ℕ) → AreSet bits q n → q ≤ k → k < q + n → bits k ≡ false → ⊥
zero_in_run {bits = bits} q n k run from to zero = both_ways (bits k) zero (run.each k from to)

-- The ones of a run that lie before, or behind, a place.
pub run_part : {bits : ℕ → Bool} (q n p m : ℕ) → AreSet bits q n → q ≤ p → p + m ≤ q + n → AreSet bits p m
run_part q n p m run from to = record { each = λ k le lt. run.each k (omega arith) (omega arith) }

-- A run that reaches the end of a part, in which it starts, is no longer there than the ones at that end.
pub run_to_end : {bits : ℕ → Bool} {first : ℕ} {s : Summary} → IsSummary bits first s → (q n : ℕ) → AreSet bits q n → first ≤ q → first + s.length ≤ q + n
    → first + s.length ≤ q + s.suffix
run_to_end {first = first} {s = s} summary q n run from to =
    elim (cases_lt (q + s.suffix) (first + s.length)) [
      | inl less ↦
          let k : ℕ = first + s.length - s.suffix - 1 in
          let here : k + s.suffix + 1 ≡ first + s.length = omega arith in
          absurd (zero_in_run q n k run (omega arith) (omega arith) (summary.suffix_ends k (omega arith) here))
      | inr enough ↦ enough
    ]

-- A run that starts before a part and goes on in it goes no further there than the ones at its start.
pub run_from_start : {bits : ℕ → Bool} {first : ℕ} {s : Summary} → IsSummary bits first s → (q n : ℕ) → AreSet bits q n → q ≤ first → q + n ≤ first + s.length
    → q + n ≤ first + s.prefix
run_from_start {first = first} {s = s} summary q n run from to =
    elim (cases_lt (first + s.prefix) (q + n)) [
      | inl less ↦ absurd (zero_in_run q n (first + s.prefix) run (omega arith) (omega arith) (summary.prefix_ends (omega arith)))
      | inr enough ↦ enough
    ]

module _ (bits : ℕ → Bool) (first : ℕ) (l r : Summary) (left : IsSummary bits first l) (right : IsSummary bits (first + l.length) r) where
  most : (q n : ℕ) → first ≤ q → q + n ≤ first + (l.length + r.length) → AreSet bits q n → n ≤ max (max l.longest r.longest) (l.suffix + r.prefix)
  most q n from to run =
      elim (cases_lt (first + l.length) (q + n)) [
        | inr before ↦ omega (arith, left.longest_most q n from before run)
        | inl past ↦ elim (cases_lt q (first + l.length)) [
          | inr behind ↦ omega (arith, right.longest_most q n behind (omega arith) run)
          | inl across ↦
              let a = run_to_end left q n run from (omega arith) in
              let b = run_from_start right q n run (omega arith) (omega arith) in
              omega (arith, a, b)
        ]
      ]

  middle : (k : ℕ) → first + l.length ≤ k + l.suffix → k < first + l.length + r.prefix → bits k ≡ true
  middle k from to =
      elim (cases_lt k (first + l.length)) [
        | inl before ↦ left.suffix_set k from before
        | inr behind ↦ right.prefix_set k behind to
      ]

  -- where the longest run is
  Longest : ℕ → Type 0
  Longest n = (at : ℕ) × (first ≤ at) × (at + n ≤ first + (l.length + r.length)) × ((k : ℕ) → at ≤ k → k < at + n → bits k ≡ true)

  longest : Longest (max (max l.longest r.longest) (l.suffix + r.prefix))
  unfolding Longest
  longest =
      elim (cases_lt (max l.longest r.longest) (l.suffix + r.prefix)) [
        | inl across ↦
            let e : l.suffix + r.prefix ≡ max (max l.longest r.longest) (l.suffix + r.prefix) = omega arith in
            subst Longest e (first + l.length - l.suffix, omega (arith, left.suffix_within), omega (arith, left.suffix_within, right.prefix_within), λ k le lt. middle k (omega arith) (omega (arith, left.suffix_within)))
        | inr within ↦ elim (cases_lt l.longest r.longest) [
          | inl behind ↦
              let e : r.longest ≡ max (max l.longest r.longest) (l.suffix + r.prefix) = omega arith in
              subst Longest e (right.longest_at, omega (arith, right.longest_from), omega (arith, right.longest_end), right.longest_set)
          | inr before ↦
              let e : l.longest ≡ max (max l.longest r.longest) (l.suffix + r.prefix) = omega arith in
              subst Longest e (left.longest_at, left.longest_from, omega (arith, left.longest_end), left.longest_set)
        ]
      ]

  Prefix : ℕ → Type 0
  Prefix n = (n ≤ l.length + r.length) × ((k : ℕ) → first ≤ k → k < first + n → bits k ≡ true) × (n < l.length + r.length → bits (first + n) ≡ false)

  prefix : Prefix (if l.prefix == l.length then l.length + r.prefix else l.prefix)
  unfolding Prefix
  prefix = elim (cases_eq l.prefix l.length) [
    | inl whole ↦ rw (eq-eqb l.prefix l.length whole) (
      omega (arith, right.prefix_within),
      λ k le lt. elim (cases_lt k (first + l.length)) [
        | inl before ↦ left.prefix_set k le (omega arith)
        | inr behind ↦ right.prefix_set k behind (omega arith)
      ],
      λ lt. (let e : first + l.length + r.prefix ≡ first + (l.length + r.prefix) = omega arith in subst (λ (k : ℕ). bits k ≡ false) e (right.prefix_ends (omega arith))),
    )
    | inr part ↦ rw (ne_eqb l.prefix l.length part)
        (omega (arith, left.prefix_within), left.prefix_set, λ lt. left.prefix_ends (omega (arith, left.prefix_within)))
  ]

  Suffix : ℕ → Type 0
  Suffix n = (n ≤ l.length + r.length) × ((k : ℕ) → first + (l.length + r.length) ≤ k + n → k < first + (l.length + r.length) → bits k ≡ true)
      × ((k : ℕ) → first ≤ k → k + n + 1 ≡ first + (l.length + r.length) → bits k ≡ false)

  suffix : Suffix (if r.suffix == r.length then r.length + l.suffix else r.suffix)
  unfolding Suffix
  suffix = elim (cases_eq r.suffix r.length) [
    | inl whole ↦ rw (eq-eqb r.suffix r.length whole) (
      omega (arith, left.suffix_within),
      λ k le lt. elim (cases_lt k (first + l.length)) [
        | inl before ↦ left.suffix_set k (omega arith) before
        | inr behind ↦ right.suffix_set k (omega arith) (omega arith)
      ],
      λ k le e. left.suffix_ends k le (omega arith),
    )
    | inr part ↦ rw (ne_eqb r.suffix r.length part) (
      omega (arith, right.suffix_within),
      λ k le lt. right.suffix_set k (omega arith) (omega arith),
      λ k le e. right.suffix_ends k (omega (arith, right.suffix_within)) (omega arith),
    )
  ]

  pub IsSummary-joined : IsSummary bits first (joined_of l r)
  unfolding Longest Prefix Suffix
  IsSummary-joined =
      let p = prefix in
      let s = suffix in
      let n = longest in
      record {
        prefix_within = p.0;
        prefix_set = p.1;
        prefix_ends = p.2;
        suffix_within = s.0;
        suffix_set = s.1;
        suffix_ends = s.2;
        longest_at = n.0;
        longest_from = n.1;
        longest_end = n.2;
        longest_set = n.3;
        longest_most = most;
      }
