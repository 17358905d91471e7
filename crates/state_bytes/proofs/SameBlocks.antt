-- Blocks in order are told by which of them start where.
use Rattle.std.proofs.Common.{◌≡◌, ◌∙◌, ◌<◌, ◌≤◌, ◌+◌, ◌-◌, ◌*◌, ◌/◌, ◌%◌, inl, inr, ℕ, suc, List, [], ◌∷◌, refl, sym, ap, eq-eqb, arith}
use Rattle.std.specs.Prelude.{All, AllPairs}
use Rattle.std.proofs.lemmas.Bool.{cases_eq, cases_lt, ne_eqb}
use Rattle.std.proofs.lemmas.List.Elements.{All-head, All-tail}
use Rattle.heap_model.specs.Blocks.{IsBefore, Span, length_of, start_of}
use Rattle.heap_model.specs.Heap.{HeapState, IsInside}
use Rattle.state_bytes.proofs.StartsLaws.{starts_in-zero}
use Rattle.state_bytes.specs.Text.{starts_in}

starts_in-first : (b : Span) (blocks : List Span) → starts_in (b ∷ blocks) (start_of b) ≡ length_of b
starts_in-first b blocks = rw (eq-eqb (start_of b) (start_of b) refl) refl

starts_in-next : (b : Span) (blocks : List Span) (a : ℕ) → (start_of b ≡ a → ⊥) → starts_in (b ∷ blocks) a ≡ starts_in blocks a
starts_in-next b blocks a other = rw (ne_eqb (start_of b) a other) refl

later_zero : (x : Span) (xs : List Span) (a : ℕ) → AllPairs IsBefore (x ∷ xs) → 0 < length_of x → a ≤ start_of x → starts_in xs a ≡ 0
later_zero x xs a order some up =
    starts_in-zero xs a (λ k d lt is. let h = order 0 (suc k) d (omega arith) (omega (arith, lt)) in omega (arith, h, is, up, some))

rest_of : (x : Span) (xs : List Span) → AllPairs IsBefore (x ∷ xs) → AllPairs IsBefore xs
rest_of x xs order = λ j k d less lt. order (suc j) (suc k) d (omega (arith, less)) (omega (arith, lt))

first_first : (x y : Span) (xs ys : List Span) → 0 < length_of x → 0 < length_of y → AllPairs IsBefore (y ∷ ys) → ((a : ℕ) → starts_in (x ∷ xs) a ≡ starts_in (y ∷ ys) a) → start_of x < start_of y → ⊥
first_first x y xs ys some_x some_y order same less =
    let here = starts_in-first x xs in
    let there = starts_in-next y ys (start_of x) (λ e. omega (arith, e, less)) in
    let none = later_zero y ys (start_of x) order some_y (omega (arith, less)) in
    omega (arith, here, there, none, same (start_of x), some_x)

pub same_blocks : (xs ys : List Span) → All (λ b. 0 < length_of b) xs → All (λ b. 0 < length_of b) ys → AllPairs IsBefore xs → AllPairs IsBefore ys
    → ((a : ℕ) → starts_in xs a ≡ starts_in ys a) → xs ≡ ys
same_blocks [] [] some_xs some_ys order_xs order_ys same = refl
same_blocks [] (y ∷ ys) some_xs some_ys order_xs order_ys same =
    absurd (omega (arith, same (start_of y), starts_in-first y ys, All-head (λ (b : Span). 0 < length_of b) y ys some_ys))
same_blocks (x ∷ xs) [] some_xs some_ys order_xs order_ys same =
    absurd (omega (arith, same (start_of x), starts_in-first x xs, All-head (λ (b : Span). 0 < length_of b) x xs some_xs))
same_blocks (x ∷ xs) (y ∷ ys) some_xs some_ys order_xs order_ys same =
    let some_x = All-head (λ (b : Span). 0 < length_of b) x xs some_xs in
    let some_y = All-head (λ (b : Span). 0 < length_of b) y ys some_ys in
    elim (cases_lt (start_of x) (start_of y)) [
      | inl less ↦ absurd (first_first x y xs ys some_x some_y order_ys same less)
      | inr le ↦ elim (cases_lt (start_of y) (start_of x)) [
        | inl more ↦ absurd (first_first y x ys xs some_y some_x order_xs (λ a. sym (same a)) more)
        | inr ge ↦
            let first : start_of x ≡ start_of y = omega arith in
            let long : length_of x ≡ length_of y = sym (starts_in-first x xs) ∙ (same (start_of x) ∙ (ap (starts_in (y ∷ ys)) first ∙ starts_in-first y ys)) in
            let rest : xs ≡ ys = same_blocks xs ys (All-tail (λ (b : Span). 0 < length_of b) x xs some_xs) (All-tail (λ (b : Span). 0 < length_of b) y ys some_ys) (rest_of x xs order_xs) (rest_of y ys order_ys)
            (λ a. elim (cases_eq (start_of x) a) [
              | inl here ↦ later_zero x xs a order_xs some_x (omega (arith, here)) ∙ sym (later_zero y ys a order_ys some_y (omega (arith, here, first)))
              | inr other ↦ sym (starts_in-next x xs a other) ∙ (same a ∙ starts_in-next y ys a (λ e. other (first ∙ e)))
            ]) in
            (λ i. (first i, long i) ∷ rest i)
      ]
    ]

-- Where no block of a heap starts at a granule of it, none starts.
starts_nowhere : (s : HeapState) (n a : ℕ) (blocks : List Span) → s.base % 16 ≡ 0 → 16 * n ≡ s.size → All (IsInside s) blocks
    → ((a ≡ s.base + 16 * ((a - s.base) / 16)) → (a - s.base) / 16 < n → ⊥) → starts_in blocks a ≡ 0
starts_nowhere s n a blocks even whole inside out =
    starts_in-zero blocks a
    (λ k d lt is. let h = inside k d lt in out (omega (arith, is, h.start, h.from, even)) (omega (arith, is, h.start, h.from, h.end, h.some, even, whole)))

-- So the granules' blocks are all.
pub blocks_by_granules : (s t : HeapState) (n : ℕ) (xs ys : List Span) → s.base % 16 ≡ 0 → s.base ≡ t.base → 16 * n ≡ s.size → 16 * n ≡ t.size
    → All (IsInside s) xs → All (IsInside t) ys → AllPairs IsBefore xs → AllPairs IsBefore ys
    → ((i : ℕ) → i < n → starts_in xs (s.base + 16 * i) ≡ starts_in ys (t.base + 16 * i)) → xs ≡ ys
blocks_by_granules s t n xs ys even base whole_s whole_t inside_s inside_t order_s order_t same =
    same_blocks xs ys (λ k d lt. (inside_s k d lt).some) (λ k d lt. (inside_t k d lt).some) order_s order_t
    (λ a.
    let i = (a - s.base) / 16 in
    elim (cases_eq a (s.base + 16 * ((a - s.base) / 16))) [
      | inl at ↦ elim (cases_lt ((a - s.base) / 16) n) [
        | inl lt ↦
            let there : t.base + 16 * ((a - s.base) / 16) ≡ a = omega (arith, base, at) in
            ap (starts_in xs) at ∙ (same ((a - s.base) / 16) lt ∙ ap (starts_in ys) there)
        | inr out ↦
            starts_nowhere s n a xs even whole_s inside_s (λ e less. omega (arith, less, out))
            ∙ sym (starts_nowhere t n a ys (omega (arith, even, base)) whole_t inside_t (λ e less. omega (arith, less, out, base)))
      ]
      | inr odd ↦
          starts_nowhere s n a xs even whole_s inside_s (λ e less. odd e)
          ∙ sym (starts_nowhere t n a ys (omega (arith, even, base)) whole_t inside_t (λ e less. odd (omega (arith, e, base))))
    ])
