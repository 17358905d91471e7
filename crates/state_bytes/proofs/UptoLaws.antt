-- The blocks that start before an address: what a replay of a text has made so far.
use Rattle.std.proofs.Common.{◌≡◌, ◌∙◌, ◌<◌, ◌≤◌, ◌+◌, ◌-◌, ◌*◌, ◌%◌, ◌==◌, inl, inr, nat_lt, ℕ, suc, Bool, true, false, List, [], ◌∷◌, refl, sym, ap, subst, eq-eqb, arith}
use Rattle.std.specs.Prelude.{All, AllPairs}
use Rattle.std.proofs.lemmas.Bool.{and_left, and_right, cases_eq, cases_lt, cond_both, le-ltb, lt-ltb, ne_eqb, or_right}
use Rattle.std.proofs.lemmas.List.Elements.{All-cons, All-head, All-nil, All-tail}
use Rattle.heap_model.specs.Blocks.{IsApart, IsBefore, Span, blocks_with, blocks_without, end_of, has_bounds, is_block, length_of, start_of}
use Rattle.heap_model.specs.Heap.{HeapState, IsInside}
use Rattle.heap_model.specs.Claim.{IsClaimable}
use Rattle.heap_model.specs.Place.{IsFreeBlock, with_block}
use Rattle.cap_codec.specs.Rounding.{IsExact}
use Rattle.state_bytes.proofs.StartsLaws.{All-start}
use Rattle.heap_model.specs.Quarantine.{with_waiting}
use Rattle.state_bytes.specs.Replay.{blocks_below}
use Rattle.state_bytes.specs.Text.{starts_in}

-- Blocks of the heap m may be made in the heap s, in their order: they share no address with the blocks of s.
pub record IsReplay (m s : HeapState) (blocks : List Span) : Type 0 where
  pub base : s.base ≡ m.base
  pub size : s.size ≡ m.size
  pub even : s.base % 16 ≡ 0
  pub inside : All (IsInside m) blocks
  pub order : AllPairs IsBefore blocks
  pub exact : All (λ block. IsExact (start_of block) (end_of block)) blocks
  pub live : All (λ block. All (IsApart block) s.live) blocks
  pub waiting : All (λ block. All (IsApart block) s.waiting) blocks
  pub painted : All (λ block. All (IsApart block) s.painted) blocks

-- Each block is whole granules, at least one.
pub record IsEven (b : Span) : Type 0 where
  pub start : start_of b % 16 ≡ 0
  pub some : 16 ≤ length_of b

pub IsEven-inside : (s : HeapState) (xs : List Span) → All (IsInside s) xs → All IsEven xs
IsEven-inside s xs inside = λ k d lt. let h = inside k d lt in record { start = h.start; some = omega (arith, h.length, h.some) }

after : (x : Span) (xs : List Span) → AllPairs IsBefore (x ∷ xs) → All (λ b. end_of x ≤ start_of b) xs
after x xs order = λ k d lt. order 0 (suc k) d (omega arith) (omega (arith, lt))

rest_of : (x : Span) (xs : List Span) → AllPairs IsBefore (x ∷ xs) → AllPairs IsBefore xs
rest_of x xs order = λ j k d less lt. order (suc j) (suc k) d (omega (arith, less)) (omega (arith, lt))

-- None before the first.
upto_none : (a : ℕ) (xs : List Span) → All (λ b. a ≤ start_of b) xs → blocks_below a xs ≡ []
upto_none a [] from = refl
upto_none a (b ∷ xs) from = rw (le-ltb (start_of b) a (All-head (λ (b : Span). a ≤ start_of b) b xs from)) (upto_none a xs (All-tail (λ (b : Span). a ≤ start_of b) b xs from))

-- All once the address is past them.
pub upto_all : (a : ℕ) (xs : List Span) → All (λ b. start_of b < a) xs → blocks_below a xs ≡ xs
upto_all a [] before = refl
upto_all a (b ∷ xs) before =
    rw (lt-ltb (start_of b) a (All-head (λ (b : Span). start_of b < a) b xs before)) (ap (λ (l : List Span). b ∷ l) (upto_all a xs (All-tail (λ (b : Span). start_of b < a) b xs before)))

-- A granule further, where no block starts at the address, and where one does.
pub upto_same : (a : ℕ) (xs : List Span) → a % 16 ≡ 0 → All IsEven xs → starts_in xs a ≡ 0 → blocks_below (a + 16) xs ≡ blocks_below a xs
upto_same a [] even each none = refl
upto_same a (b ∷ xs) even each none =
    let here = All-head IsEven b xs each in
    elim (cases_eq (start_of b) a) [
      | inl same ↦ let is : starts_in (b ∷ xs) a ≡ length_of b = rw (eq-eqb (start_of b) a same) refl in absurd (omega (arith, is, none, here.some))
      | inr other ↦
          let next : starts_in (b ∷ xs) a ≡ starts_in xs a = rw (ne_eqb (start_of b) a other) refl in
          let rest = upto_same a xs even (All-tail IsEven b xs each) (sym next ∙ none) in
          elim (cases_lt (start_of b) a) [
            | inl less ↦ rw (lt-ltb (start_of b) a less, lt-ltb (start_of b) (a + 16) (omega (arith, less))) (ap (λ (l : List Span). b ∷ l) rest)
            | inr le ↦ rw (le-ltb (start_of b) a le, le-ltb (start_of b) (a + 16) (omega (arith, le, other, here.start, even))) rest
          ]
    ]

pub upto_more : (a n : ℕ) (xs : List Span) → All IsEven xs → AllPairs IsBefore xs → starts_in xs a ≡ n → 0 < n → blocks_below (a + 16) xs ≡ blocks_with (a, n) (blocks_below a xs)
upto_more a n [] each order is some = absurd (omega (arith, is, some))
upto_more a n (b ∷ xs) each order is some =
    let here = All-head IsEven b xs each in
    let later = after b xs order in
    elim (cases_eq (start_of b) a) [
      | inl same ↦
          let long : length_of b ≡ n = sym (rw (eq-eqb (start_of b) a same) refl) ∙ is in
          let none : blocks_below (a + 16) xs ≡ [] = upto_none (a + 16) xs (λ k d lt. omega (arith, later k d lt, same, here.some)) in
          let none_yet : blocks_below a xs ≡ [] = upto_none a xs (λ k d lt. omega (arith, later k d lt, same)) in
          rw (lt-ltb (start_of b) (a + 16) (omega (arith, same)), le-ltb (start_of b) a (omega (arith, same)), none, none_yet) (λ i. (same i, long i) ∷ [])
      | inr other ↦
          let next : starts_in xs a ≡ n = sym (rw (ne_eqb (start_of b) a other) refl) ∙ is in
          let rest = upto_more a n xs (All-tail IsEven b xs each) (rest_of b xs order) next some in
          elim (cases_lt (start_of b) a) [
            | inl less ↦
                rw (lt-ltb (start_of b) (a + 16) (omega (arith, less)), lt-ltb (start_of b) a less, le-ltb a (start_of b) (omega (arith, less))) (ap (λ (l : List Span). b ∷ l) rest)
            | inr le ↦
                absurd (omega (arith, next, some, past_all a xs (λ k d lt. omega (arith, later k d lt, le, other, here.some))))
          ]
    ] where
      past_all : (a : ℕ) (xs : List Span) → All (λ b. a < start_of b) xs → starts_in xs a ≡ 0
      past_all a [] from = refl
      past_all a (b ∷ xs) from =
          rw (ne_eqb (start_of b) a (λ e. omega (arith, e, All-head (λ (b : Span). a < start_of b) b xs from))) (past_all a xs (All-tail (λ (b : Span). a < start_of b) b xs from))

-- It shares no address with those before it.
pub upto_apart : (a n : ℕ) (xs : List Span) → All IsEven xs → AllPairs IsBefore xs → starts_in xs a ≡ n → 0 < n → All (IsApart (a, n)) (blocks_below a xs)
upto_apart a n [] each order is some = All-nil (IsApart (a, n))
upto_apart a n (b ∷ xs) each order is some =
    elim (cases_lt (start_of b) a) [
      | inl less ↦
          let other : start_of b ≡ a → ⊥ = λ e. omega (arith, e, less) in
          let next : starts_in xs a ≡ n = sym (rw (ne_eqb (start_of b) a other) refl) ∙ is in
          let before : end_of b ≤ a = All-start (λ (c : Span). end_of b ≤ start_of c) a n xs (after b xs order) next some in
          rw (lt-ltb (start_of b) a less) (All-cons (IsApart (a, n)) b (blocks_below a xs) (inr before) (upto_apart a n xs (All-tail IsEven b xs each) (rest_of b xs order) next some))
      | inr le ↦
          let later = after b xs order in
          rw (le-ltb (start_of b) a le, upto_none a xs (λ k d lt. omega (arith, later k d lt, le))) (All-nil (IsApart (a, n)))
    ]

-- Where a block is free and exact it may be claimed.
IsClaimable-free : (s : HeapState) (a n : ℕ) → 0 < n → IsFreeBlock s a n → IsExact a (a + n) → IsClaimable s a (a + n)
IsClaimable-free s a n some free exact =
    let long : n ≡ a + n - a = omega arith in
    record { order = omega (arith, some); free = subst (IsFreeBlock s a) long free; exact = exact }

-- The next block may be claimed.
IsClaimable-next : (m s : HeapState) (xs : List Span) (a n : ℕ) → IsReplay m s xs → starts_in xs a ≡ n → 0 < n → IsClaimable (record s { waiting = blocks_below a xs }) a (a + n)
IsClaimable-next m s xs a n replay is some =
    let here = All-start (IsInside m) a n xs replay.inside is some in
    IsClaimable-free (record s { waiting = blocks_below a xs }) a n some
    (record {
      start = here.start;
      whole = here.length;
      some = some;
      from = omega (arith, here.from, replay.base);
      end = omega (arith, here.end, replay.base, replay.size);
      live = All-start (λ (b : Span). All (IsApart b) s.live) a n xs replay.live is some;
      waiting = upto_apart a n xs (IsEven-inside m xs replay.inside) replay.order is some;
      painted = All-start (λ (b : Span). All (IsApart b) s.painted) a n xs replay.painted is some;
    })
    (All-start (λ (b : Span). IsExact (start_of b) (end_of b)) a n xs replay.exact is some)

-- A block that is put and given up waits, and the live ones are as before.
put_first : (a n : ℕ) → has_bounds a (a + n) (a, n) ≡ true
put_first a n = rw (eq-eqb a a refl, eq-eqb (a + n) (a + n) refl) refl

not_same : (a n : ℕ) (b : Span) → 0 < n → IsApart (a, n) b → start_of b ≡ a → end_of b ≡ a + n → ⊥
not_same a n b some (inl before) start end = omega (arith, some, before, start)
not_same a n b some (inr behind) start end = omega (arith, some, behind, end)

not_put : (a n : ℕ) (b : Span) → 0 < n → IsApart (a, n) b → has_bounds a (a + n) b ≡ false
not_put a n b some apart =
    elim (cases_eq (start_of b) a) [
      | inl start ↦ and_right (start_of b == a) (end_of b == a + n) (ne_eqb (end_of b) (a + n) (not_same a n b some apart start))
      | inr other ↦ and_left (start_of b == a) (end_of b == a + n) (ne_eqb (start_of b) a other)
    ]

without_none : (a n : ℕ) (xs : List Span) → 0 < n → All (IsApart (a, n)) xs → blocks_without a (a + n) xs ≡ xs
without_none a n [] some apart = refl
without_none a n (b ∷ xs) some apart =
    rw (not_put a n b some (All-head (IsApart (a, n)) b xs apart)) (ap (λ (l : List Span). b ∷ l) (without_none a n xs some (All-tail (IsApart (a, n)) b xs apart)))

without_put : (a n : ℕ) (xs : List Span) → 0 < n → All (IsApart (a, n)) xs → blocks_without a (a + n) (blocks_with (a, n) xs) ≡ xs
without_put a n [] some apart = rw (put_first a n) refl
without_put a n (b ∷ xs) some apart =
    cond_both (nat_lt a (start_of b)) ((a, n) ∷ b ∷ xs) (b ∷ blocks_with (a, n) xs) (λ (l : List Span). blocks_without a (a + n) l ≡ b ∷ xs)
    (λ _. rw (put_first a n) (without_none a n (b ∷ xs) some apart))
    (λ _. rw (not_put a n b some (All-head (IsApart (a, n)) b xs apart)) (ap (λ (l : List Span). b ∷ l) (without_put a n xs some (All-tail (IsApart (a, n)) b xs apart))))

held_state : (s : HeapState) (a n : ℕ) → IsClaimable s a (a + n) → with_waiting (with_block s a n) a (a + n) ≡ record s { waiting = blocks_with (a, n) s.waiting }
held_state s a n may =
    let bytes : a + n - a ≡ n = omega arith in
    let apart : All (IsApart (a, n)) s.live = subst (λ (k : ℕ). All (IsApart (a, k)) s.live) bytes may.free.live in
    let gone : blocks_without a (a + n) (blocks_with (a, n) s.live) ≡ s.live = without_put a n s.live (omega (arith, may.order)) apart in
    (λ i. record s { live = gone i; waiting = blocks_with (a, bytes i) s.waiting })

-- The block that is put is one of the live ones.
any_put : (a n : ℕ) (xs : List Span) → is_block (blocks_with (a, n) xs) a (a + n) ≡ true
any_put a n [] = rw (put_first a n) refl
any_put a n (b ∷ xs) =
    cond_both (nat_lt a (start_of b)) ((a, n) ∷ b ∷ xs) (b ∷ blocks_with (a, n) xs) (λ (l : List Span). is_block l a (a + n) ≡ true)
    (λ _. rw (put_first a n) refl)
    (λ _. or_right (has_bounds a (a + n) b) (is_block (blocks_with (a, n) xs) a (a + n)) (any_put a n xs))

is_block-put : (s : HeapState) (a n : ℕ) → is_block (with_block s a n).live a (a + n) ≡ true
is_block-put s a n = any_put a n s.live

-- So what is claimed and released waits.
pub held_at : (s now new : HeapState) (i n : ℕ) (result : Bool) → IsClaimable s (s.base + 16 * i) (s.base + 16 * i + n) → now ≡ with_block s (s.base + 16 * i) n
    → (is_block now.live (now.base + 16 * i) (now.base + 16 * i + n) ≡ true → (result ≡ true) × (new ≡ with_waiting now (now.base + 16 * i) (now.base + 16 * i + n)))
    → (result ≡ true) × (new ≡ record s { waiting = blocks_with (s.base + 16 * i, n) s.waiting })
held_at s now new i n result may is held =
    let done = held (ap (λ (h : HeapState). is_block h.live (h.base + 16 * i) (h.base + 16 * i + n)) is ∙ is_block-put s (s.base + 16 * i) n) in
    (done.0, done.1 ∙ (ap (λ (h : HeapState). with_waiting h (h.base + 16 * i) (h.base + 16 * i + n)) is ∙ held_state s (s.base + 16 * i) n may))

-- ---- one granule after the other

-- Before the first granule no block starts, and behind the last one each does.
pub upto_init : (s : HeapState) (xs : List Span) → All (IsInside s) xs → blocks_below (s.base + 16 * 0) xs ≡ []
upto_init s xs inside = upto_none (s.base + 16 * 0) xs (λ k d lt. omega (arith, (inside k d lt).from))

pub upto_end : (s : HeapState) (xs : List Span) (i : ℕ) → All (IsInside s) xs → s.size ≤ 16 * i → blocks_below (s.base + 16 * i) xs ≡ xs
upto_end s xs i inside all =
    upto_all (s.base + 16 * i) xs (λ k d lt. let h = inside k d lt in omega (arith, h.end, h.some, all))

replay_from : (m s new : HeapState) (xs : List Span) (i n : ℕ) (result : Bool) → IsReplay m s xs → n ≡ starts_in xs (s.base + 16 * i)
    → (n ≡ 0 → (result ≡ true) × (new ≡ record s { waiting = blocks_below (s.base + 16 * i) xs }))
    → (0 < n → IsClaimable (record s { waiting = blocks_below (s.base + 16 * i) xs }) (s.base + 16 * i) (s.base + 16 * i + n)
    → (result ≡ true) × (new ≡ record s { waiting = blocks_with (s.base + 16 * i, n) (blocks_below (s.base + 16 * i) xs) }))
    → (result ≡ true) × (new ≡ record s { waiting = blocks_below (s.base + 16 * (i + 1)) xs })
replay_from m s new xs i n result replay is none held =
    let a = s.base + 16 * i in
    let next : s.base + 16 * i + 16 ≡ s.base + 16 * (i + 1) = omega arith in
    let even : (s.base + 16 * i) % 16 ≡ 0 = omega (arith, replay.even) in
    elim (cases_lt 0 n) [
      | inl some ↦
          let done = held some (IsClaimable-next m s xs (s.base + 16 * i) n replay (sym is) some) in
          let more = sym (upto_more (s.base + 16 * i) n xs (IsEven-inside m xs replay.inside) replay.order (sym is) some) ∙ ap (λ (x : ℕ). blocks_below x xs) next in
          (done.0, done.1 ∙ (λ j. record s { waiting = more j }))
      | inr most ↦
          let done = none (omega (arith, most)) in
          let same = sym (upto_same (s.base + 16 * i) xs even (IsEven-inside m xs replay.inside) (sym is ∙ omega (arith, most))) ∙ ap (λ (x : ℕ). blocks_below x xs) next in
          (done.0, done.1 ∙ (λ j. record s { waiting = same j }))
    ]

pub replay_step : (m s now new : HeapState) (xs : List Span) (i n : ℕ) (result : Bool) → IsReplay m s xs → n ≡ starts_in xs (s.base + 16 * i)
    → now ≡ record s { waiting = blocks_below (s.base + 16 * i) xs }
    → (n ≡ 0 → (result ≡ true) × (new ≡ now))
    → (0 < n → IsClaimable now (now.base + 16 * i) (now.base + 16 * i + n)
    → (result ≡ true) × (new ≡ record now { waiting = blocks_with (now.base + 16 * i, n) now.waiting }))
    → (result ≡ true) × (new ≡ record s { waiting = blocks_below (s.base + 16 * (i + 1)) xs })
replay_step m s now new xs i n result replay is now_is =
    subst (λ (h : HeapState). (n ≡ 0 → (result ≡ true) × (new ≡ h))
    → (0 < n → IsClaimable h (h.base + 16 * i) (h.base + 16 * i + n) → (result ≡ true) × (new ≡ record h { waiting = blocks_with (h.base + 16 * i, n) h.waiting }))
    → (result ≡ true) × (new ≡ record s { waiting = blocks_below (s.base + 16 * (i + 1)) xs }))
    (sym now_is) (replay_from m s new xs i n result replay is)

-- ---- the same of live blocks

IsClaimable-next_live : (m s : HeapState) (xs : List Span) (a n : ℕ) → IsReplay m s xs → starts_in xs a ≡ n → 0 < n → IsClaimable (record s { live = blocks_below a xs }) a (a + n)
IsClaimable-next_live m s xs a n replay is some =
    let here = All-start (IsInside m) a n xs replay.inside is some in
    IsClaimable-free (record s { live = blocks_below a xs }) a n some
    (record {
      start = here.start;
      whole = here.length;
      some = some;
      from = omega (arith, here.from, replay.base);
      end = omega (arith, here.end, replay.base, replay.size);
      live = upto_apart a n xs (IsEven-inside m xs replay.inside) replay.order is some;
      waiting = All-start (λ (b : Span). All (IsApart b) s.waiting) a n xs replay.waiting is some;
      painted = All-start (λ (b : Span). All (IsApart b) s.painted) a n xs replay.painted is some;
    })
    (All-start (λ (b : Span). IsExact (start_of b) (end_of b)) a n xs replay.exact is some)

live_replay_from : (m s new : HeapState) (xs : List Span) (i n : ℕ) (result : Bool) → IsReplay m s xs → n ≡ starts_in xs (s.base + 16 * i)
    → (n ≡ 0 → (result ≡ true) × (new ≡ record s { live = blocks_below (s.base + 16 * i) xs }))
    → (0 < n → IsClaimable (record s { live = blocks_below (s.base + 16 * i) xs }) (s.base + 16 * i) (s.base + 16 * i + n)
    → (result ≡ true) × (new ≡ record s { live = blocks_with (s.base + 16 * i, n) (blocks_below (s.base + 16 * i) xs) }))
    → (result ≡ true) × (new ≡ record s { live = blocks_below (s.base + 16 * (i + 1)) xs })
live_replay_from m s new xs i n result replay is none held =
    let a = s.base + 16 * i in
    let next : s.base + 16 * i + 16 ≡ s.base + 16 * (i + 1) = omega arith in
    let even : (s.base + 16 * i) % 16 ≡ 0 = omega (arith, replay.even) in
    elim (cases_lt 0 n) [
      | inl some ↦
          let done = held some (IsClaimable-next_live m s xs (s.base + 16 * i) n replay (sym is) some) in
          let more = sym (upto_more (s.base + 16 * i) n xs (IsEven-inside m xs replay.inside) replay.order (sym is) some) ∙ ap (λ (x : ℕ). blocks_below x xs) next in
          (done.0, done.1 ∙ (λ j. record s { live = more j }))
      | inr most ↦
          let done = none (omega (arith, most)) in
          let same = sym (upto_same (s.base + 16 * i) xs even (IsEven-inside m xs replay.inside) (sym is ∙ omega (arith, most))) ∙ ap (λ (x : ℕ). blocks_below x xs) next in
          (done.0, done.1 ∙ (λ j. record s { live = same j }))
    ]

pub live_replay_step : (m s now new : HeapState) (xs : List Span) (i n : ℕ) (result : Bool) → IsReplay m s xs → n ≡ starts_in xs (s.base + 16 * i)
    → now ≡ record s { live = blocks_below (s.base + 16 * i) xs }
    → (n ≡ 0 → (result ≡ true) × (new ≡ now))
    → (0 < n → IsClaimable now (now.base + 16 * i) (now.base + 16 * i + n)
    → (result ≡ true) × (new ≡ record now { live = blocks_with (now.base + 16 * i, n) now.live }))
    → (result ≡ true) × (new ≡ record s { live = blocks_below (s.base + 16 * (i + 1)) xs })
live_replay_step m s now new xs i n result replay is now_is =
    subst (λ (h : HeapState). (n ≡ 0 → (result ≡ true) × (new ≡ h))
    → (0 < n → IsClaimable h (h.base + 16 * i) (h.base + 16 * i + n) → (result ≡ true) × (new ≡ record h { live = blocks_with (h.base + 16 * i, n) h.live }))
    → (result ≡ true) × (new ≡ record s { live = blocks_below (s.base + 16 * (i + 1)) xs }))
    (sym now_is) (live_replay_from m s new xs i n result replay is)
