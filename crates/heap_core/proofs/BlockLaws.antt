-- The blocks of a table as lists.
use Rattle.std.proofs.Common.{◌≡◌, ◌<◌, ◌≤◌, ◌+◌, ◌*◌, inl, inr, nat_lt, ◌&&◌, ℕ, zero, suc, Bool, true, false, List, [], ◌∷◌, length, get_or, set, refl, sym, ap, arith}
use Rattle.std.proofs.lemmas.Bool.{and_from, and_parts, cases_Bool, le-ltb, lt-ltb, ltb-true}
use Rattle.std.proofs.lemmas.List.Elements.{All-cons, All-head, All-nil, All-tail}
use Rattle.std.proofs.lemmas.List.Kept.{AllPairs-cons}
use Rattle.std.specs.Prelude.{All, AllPairs}
use Rattle.heap_model.specs.Blocks.{IsBefore, Span, blocks_with}
use Rattle.heap_core.specs.Table.{blocks_of}

-- ---- what holds of each block

-- What holds of each block of the table holds of each in the list.
pub All-blocks_of : (P : Span → Type 0) (keeps : Bool → Bool) (base i : ℕ) (lengths : List ℕ) (marks : List Bool) (d : Bool)
    → ((k start : ℕ) → start ≡ base + 16 * (i + k) → k < length lengths → 0 < get_or lengths k 0
    → keeps (get_or marks k d) ≡ true → P (start, 16 * get_or lengths k 0))
    → All P (blocks_of keeps base i lengths marks)
All-blocks_of P keeps base i [] marks d each = All-nil P
All-blocks_of P keeps base i (n ∷ lengths) [] d each = All-nil P
All-blocks_of P keeps base i (n ∷ lengths) (mark ∷ marks) d each =
    let later = blocks_of keeps base (i + 1) lengths marks in
    let rest = All-blocks_of P keeps base (i + 1) lengths marks d
    (λ k start at lt some kept. each (suc k) start (omega arith) (omega arith) some kept) in
    elim (cases_Bool (nat_lt 0 n && keeps mark)) [
      | inl is ↦
          let parts = and_parts (nat_lt 0 n) (keeps mark) is in
          let here = each 0 (base + 16 * i) (omega arith) (omega arith) (ltb-true 0 n parts.0) parts.1 in
          rw is (All-cons P (base + 16 * i, 16 * n) later here rest)
      | inr is ↦ rw is rest
    ]

-- What holds of each in the list holds of the block at granule k.
pub All-block : (P : Span → Type 0) (keeps : Bool → Bool) (base i : ℕ) (lengths : List ℕ) (marks : List Bool) (d : Bool) (k : ℕ) {start : ℕ}
    → All P (blocks_of keeps base i lengths marks) → length marks ≡ length lengths → start ≡ base + 16 * (i + k)
    → k < length lengths → 0 < get_or lengths k 0 → keeps (get_or marks k d) ≡ true
    → P (start, 16 * get_or lengths k 0)
All-block P keeps base i [] marks d k all same at lt some kept = absurd (omega arith)
All-block P keeps base i (n ∷ lengths) [] d k all same at lt some kept = absurd (omega arith)
All-block P keeps base i (n ∷ lengths) (mark ∷ marks) d zero {start} all same at lt some kept =
    let later = blocks_of keeps base (i + 1) lengths marks in
    let is : (nat_lt 0 n && keeps mark) ≡ true = and_from (nat_lt 0 n) (keeps mark) (lt-ltb 0 n some) kept in
    let first : start ≡ base + 16 * i = omega arith in
    rw first (All-head P (base + 16 * i, 16 * n) later (rw is at all))
All-block P keeps base i (n ∷ lengths) (mark ∷ marks) d (suc k) all same at lt some kept =
    let later = blocks_of keeps base (i + 1) lengths marks in
    let rest : All P later =
    elim (cases_Bool (nat_lt 0 n && keeps mark)) [
      | inl is ↦ All-tail P (base + 16 * i, 16 * n) later (rw is at all)
      | inr is ↦ rw is at all
    ] in
    All-block P keeps base (i + 1) lengths marks d k rest (omega arith) (omega arith) (omega arith) some kept

-- The blocks are in order where none reaches into the next.
pub AllPairs-blocks_of : (keeps : Bool → Bool) (base i : ℕ) (lengths : List ℕ) (marks : List Bool)
    → ((j k : ℕ) → j < k → 0 < get_or lengths k 0 → j + get_or lengths j 0 ≤ k)
    → AllPairs IsBefore (blocks_of keeps base i lengths marks)
AllPairs-blocks_of keeps base i [] marks apart = λ j k d less lt. absurd (omega arith)
AllPairs-blocks_of keeps base i (n ∷ lengths) [] apart = λ j k d less lt. absurd (omega arith)
AllPairs-blocks_of keeps base i (n ∷ lengths) (mark ∷ marks) apart =
    let later = blocks_of keeps base (i + 1) lengths marks in
    let rest = AllPairs-blocks_of keeps base (i + 1) lengths marks
    (λ j k less some. let h = apart (suc j) (suc k) (omega arith) some in omega arith) in
    let first : All (IsBefore (base + 16 * i, 16 * n)) later =
    All-blocks_of (IsBefore (base + 16 * i, 16 * n)) keeps base (i + 1) lengths marks true
    (λ k start at lt some kept. let h = apart 0 (suc k) (omega arith) some in omega arith) in
    elim (cases_Bool (nat_lt 0 n && keeps mark)) [
      | inl is ↦ rw is (AllPairs-cons IsBefore (base + 16 * i, 16 * n) later first rest)
      | inr is ↦ rw is rest
    ]

-- ---- one more block

-- A block that starts before the others comes first.
blocks_with_first : (keeps : Bool → Bool) (base i : ℕ) (lengths : List ℕ) (marks : List Bool) (start bytes : ℕ)
    → start < base + 16 * i
    → blocks_with (start, bytes) (blocks_of keeps base i lengths marks) ≡ (start, bytes) ∷ blocks_of keeps base i lengths marks
blocks_with_first keeps base i [] marks start bytes lt = refl
blocks_with_first keeps base i (n ∷ lengths) [] start bytes lt = refl
blocks_with_first keeps base i (n ∷ lengths) (mark ∷ marks) start bytes lt =
    elim (cases_Bool (nat_lt 0 n && keeps mark)) [
      | inl is ↦ rw (is, lt-ltb start (base + 16 * i) lt) refl
      | inr is ↦ rw is (blocks_with_first keeps base (i + 1) lengths marks start bytes (omega arith))
    ]

-- A block at a granule is one more, where its mark passes and none there did.
pub blocks_of-set : (keeps : Bool → Bool) (base i : ℕ) (lengths : List ℕ) (marks : List Bool) (d : Bool) (k n : ℕ) {start : ℕ} {mark : Bool}
    → k < length lengths → length marks ≡ length lengths → (nat_lt 0 (get_or lengths k 0) && keeps (get_or marks k d)) ≡ false
    → 0 < n → keeps mark ≡ true → start ≡ base + 16 * (i + k)
    → blocks_of keeps base i (set lengths k n) (set marks k mark) ≡ blocks_with (start, 16 * n) (blocks_of keeps base i lengths marks)
blocks_of-set keeps base i [] marks d k n lt same none some kept at = absurd (omega arith)
blocks_of-set keeps base i (m ∷ lengths) [] d k n lt same none some kept at = absurd (omega arith)
blocks_of-set keeps base i (m ∷ lengths) (old ∷ marks) d zero n {start} lt same none some kept at =
    let first : base + 16 * i ≡ start = omega arith in
    let later = blocks_with_first keeps base (i + 1) lengths marks start (16 * n) (omega arith) in
    rw (none, lt-ltb 0 n some, kept, first) (sym later)
blocks_of-set keeps base i (m ∷ lengths) (old ∷ marks) d (suc k) n {start} lt same none some kept at =
    let rest = blocks_of-set keeps base (i + 1) lengths marks d k n {start = start} (omega arith) (omega arith) none some kept (omega arith) in
    elim (cases_Bool (nat_lt 0 m && keeps old)) [
      | inl is ↦ rw (is, le-ltb start (base + 16 * i) (omega arith)) (ap (λ blocks. (base + 16 * i, 16 * m) ∷ blocks) rest)
      | inr is ↦ rw is rest
    ]

-- And none more where it doesn't pass.
pub blocks_of-set_other : (keeps : Bool → Bool) (base i : ℕ) (lengths : List ℕ) (marks : List Bool) (k n : ℕ) (mark : Bool)
    → get_or lengths k 0 ≡ 0 → keeps mark ≡ false
    → blocks_of keeps base i (set lengths k n) (set marks k mark) ≡ blocks_of keeps base i lengths marks
blocks_of-set_other keeps base i [] marks k n mark none other = refl
blocks_of-set_other keeps base i (m ∷ lengths) [] zero n mark none other = refl
blocks_of-set_other keeps base i (m ∷ lengths) [] (suc k) n mark none other = refl
blocks_of-set_other keeps base i (m ∷ lengths) (old ∷ marks) zero n mark none other = rw (none, other) (grind arith)
blocks_of-set_other keeps base i (m ∷ lengths) (old ∷ marks) (suc k) n mark none other =
    rw (blocks_of-set_other keeps base (i + 1) lengths marks k n mark none other) refl
