-- Lists of blocks: which have a block, what comes into one, and their order.
use Rattle.std.proofs.Common.{◌≡◌, ◌∙◌, ◌<◌, ◌≤◌, ◌||◌, ◌++◌, ℕ, suc, get_or, Bool, true, false, not, cond, if◌then◌else◌, nat_lt, inl, inr, All, AllPairs, List, [], ◌∷◌, refl, sym, ap, arith}
use Rattle.std.specs.List.{filter, sum_by}
use Rattle.std.specs.List.Sorted.{IsNonDecreasingBy, IsPermutation}
use Rattle.std.proofs.Math.Bool.{or-true}
use Rattle.std.proofs.Math.ListN.{get_or-map}
use Rattle.std.proofs.lemmas.Bool.{cases_Bool, cases_lt, eq-eqb, le-ltb, lt-ltb, ne_eqb, true≢false}
use Rattle.std.proofs.lemmas.List.{length-map}
use Rattle.std.proofs.lemmas.List.Elements.{All-cons, All-head, All-nil, All-tail, All-weaker}
use Rattle.std.proofs.lemmas.List.Sorted.{IsPermutation-cons, IsPermutation-refl, IsPermutation-to_front, sum_by-IsPermutation}
use Rattle.std.proofs.lemmas.List.Sums.{sum_by-cons, sum_by-le}
use Rattle.heap_model.specs.Blocks.{IsApart, IsBefore, Span, blocks_with, blocks_without, end_of, has_bounds, length_of, start_of}
use Rattle.heap_model.specs.Laws.{has_bounds-is}
use Rattle.data_tokens.specs.Blocks.{come_in, has_block}
use Rattle.data_tokens.specs.Spans.{span_of, spans_of}
use Rattle.data_tokens.specs.declared.blocks.HeldBlock.{HeldBlock}

-- ---- filters

pub filter-all : (test : Span → Bool) (blocks : List Span) → All (λ b. test b ≡ true) blocks → filter test blocks ≡ blocks
filter-all test [] all = refl
filter-all test (b ∷ blocks) all = rw (All-head (λ c. test c ≡ true) b blocks all) (ap (λ rest. b ∷ rest) (filter-all test blocks (All-tail (λ c. test c ≡ true) b blocks all)))

pub filter-none : (test : Span → Bool) (blocks : List Span) → All (λ b. test b ≡ false) blocks → filter test blocks ≡ []
filter-none test [] none = refl
filter-none test (b ∷ blocks) none = rw (All-head (λ c. test c ≡ false) b blocks none) (filter-none test blocks (All-tail (λ c. test c ≡ false) b blocks none))

pub filter-same : (test other : Span → Bool) (blocks : List Span) → All (λ b. test b ≡ other b) blocks → filter test blocks ≡ filter other blocks
filter-same test other [] same = refl
filter-same test other (b ∷ blocks) same =
    let here = All-head (λ c. test c ≡ other c) b blocks same in
    let rest = filter-same test other blocks (All-tail (λ c. test c ≡ other c) b blocks same) in
    λ i. cond (here i) (b ∷ rest i) (rest i)

-- ---- which blocks a list has

itself : (b : Span) → has_bounds (start_of b) (end_of b) b ≡ true
itself b = rw (eq-eqb (start_of b) (start_of b) refl, eq-eqb (end_of b) (end_of b) refl) refl

has_more : (b c : Span) (blocks : List Span) → has_block blocks c ≡ true → has_block (b ∷ blocks) c ≡ true
has_more b c blocks is = ap (λ t. has_bounds (start_of c) (end_of c) b || t) is ∙ or-true (has_bounds (start_of c) (end_of c) b)

-- A list has its own blocks.
pub all_has : (blocks : List Span) → All (λ b. has_block blocks b ≡ true) blocks
all_has [] = All-nil (λ b. has_block [] b ≡ true)
all_has (b ∷ blocks) =
    All-cons (λ c. has_block (b ∷ blocks) c ≡ true) b blocks (ap (λ t. t || has_block blocks b) (itself b))
    (All-weaker (λ c. has_block blocks c ≡ true) (λ c. has_block (b ∷ blocks) c ≡ true) (λ c is. has_more b c blocks is) blocks (all_has blocks))

-- With one block more it has that too.
pub has_with : (b c : Span) (blocks : List Span) → has_block (blocks_with b blocks) c ≡ (has_bounds (start_of c) (end_of c) b || has_block blocks c)
has_with b c [] = refl
has_with b c (x ∷ blocks) =
    elim (cases_Bool (nat_lt (start_of b) (start_of x))) [
      | inl first ↦ rw first refl
      | inr later ↦ rw later (ap (λ t. has_bounds (start_of c) (end_of c) x || t) (has_with b c blocks) ∙ swap (has_bounds (start_of c) (end_of c) x) (has_bounds (start_of c) (end_of c) b) (has_block blocks c))
    ] where
      swap : (p q r : Bool) → (p || (q || r)) ≡ (q || (p || r))
      swap true true r = refl
      swap true false r = refl
      swap false true r = refl
      swap false false r = refl

pub has_with-itself : (b : Span) (blocks : List Span) → has_block (blocks_with b blocks) b ≡ true
has_with-itself b blocks = has_with b b blocks ∙ ap (λ t. t || has_block blocks b) (itself b)

pub has_with-more : (b c : Span) (blocks : List Span) → has_block blocks c ≡ true → has_block (blocks_with b blocks) c ≡ true
has_with-more b c blocks is = has_with b c blocks ∙ (ap (λ t. has_bounds (start_of c) (end_of c) b || t) is ∙ or-true (has_bounds (start_of c) (end_of c) b))

-- Two tests for the same bounds.
pub same_bounds : (b c : Span) → has_bounds (start_of c) (end_of c) b ≡ true → has_bounds (start_of b) (end_of b) c ≡ true
same_bounds b c is =
    let both = has_bounds-is (start_of c) (end_of c) b is in
    rw (eq-eqb (start_of c) (start_of b) (sym both.0), eq-eqb (end_of c) (end_of b) (sym both.1)) refl

-- Without one it has the others.
pub has_without : (base top : ℕ) (c : Span) (blocks : List Span) → has_bounds base top c ≡ false → has_block blocks c ≡ true → has_block (blocks_without base top blocks) c ≡ true
has_without base top c [] other is = absurd (true≢false (sym is))
has_without base top c (x ∷ blocks) other is =
    elim (cases_Bool (has_bounds base top x)) [
      | inl gone ↦ rw gone (elim (cases_Bool (has_bounds (start_of c) (end_of c) x)) [
        | inl same ↦
            let x_is = has_bounds-is base top x gone in
            let c_is = has_bounds-is (start_of c) (end_of c) x same in
            let c_has : has_bounds base top c ≡ true = rw (eq-eqb (start_of c) base (sym c_is.0 ∙ x_is.0), eq-eqb (end_of c) top (sym c_is.1 ∙ x_is.1)) refl in
            absurd (true≢false (sym c_has ∙ other))
        | inr not_x ↦ has_without base top c blocks other (sym (ap (λ t. t || has_block blocks c) not_x) ∙ is)
      ])
      | inr stays ↦ rw stays (elim (cases_Bool (has_bounds (start_of c) (end_of c) x)) [
        | inl same ↦ ap (λ t. t || has_block (blocks_without base top blocks) c) same
        | inr not_x ↦ has_more x c (blocks_without base top blocks) (has_without base top c blocks other (sym (ap (λ t. t || has_block blocks c) not_x) ∙ is))
      ])
    ]

-- And no more.
pub all_without : (P : Span → Type 0) (base top : ℕ) (blocks : List Span) → All P blocks → All P (blocks_without base top blocks)
all_without P base top [] all = All-nil P
all_without P base top (x ∷ blocks) all =
    let rest = all_without P base top blocks (All-tail P x blocks all) in
    elim (cases_Bool (has_bounds base top x)) [
      | inl gone ↦ rw gone rest
      | inr stays ↦ rw stays (All-cons P x (blocks_without base top blocks) (All-head P x blocks all) rest)
    ]

-- A block apart from all of them is none of them.
pub apart_none : (b : Span) (blocks : List Span) → 0 < length_of b → All (IsApart b) blocks → has_block blocks b ≡ false
apart_none b [] some apart = refl
apart_none b (x ∷ blocks) some apart =
    elim (cases_Bool (has_bounds (start_of b) (end_of b) x)) [
      | inl same ↦
          let is = has_bounds-is (start_of b) (end_of b) x same in
          elim (All-head (IsApart b) x blocks apart) [ inl left ↦ absurd (omega (arith, some, is.0, is.1, left)) | inr right ↦ absurd (omega (arith, some, is.0, is.1, right)) ]
      | inr other ↦ rw other (apart_none b blocks some (All-tail (IsApart b) x blocks apart))
    ]

-- ---- what comes into a list

not_true : (t : Bool) → t ≡ true → not t ≡ false
not_true t is = ap not is

not_false : (t : Bool) → t ≡ false → not t ≡ true
not_false t is = ap not is

-- Nothing, where each was there.
pub come_none : (old new : List Span) → All (λ b. has_block old b ≡ true) new → come_in old new ≡ []
come_none old new all = filter-none (λ b. not (has_block old b)) new (All-weaker (λ b. has_block old b ≡ true) (λ b. not (has_block old b) ≡ false) (λ b is. not_true (has_block old b) is) new all)

pub come_itself : (blocks : List Span) → come_in blocks blocks ≡ []
come_itself blocks = come_none blocks blocks (all_has blocks)

-- All, where none was there.
pub come_all : (new : List Span) → come_in [] new ≡ new
come_all [] = refl
come_all (b ∷ new) = ap (λ rest. b ∷ rest) (come_all new)

-- One block.
filter_with : (test : Span → Bool) (b : Span) (blocks : List Span) → test b ≡ true → All (λ c. test c ≡ false) blocks → filter test (blocks_with b blocks) ≡ b ∷ []
filter_with test b [] is none = rw is refl
filter_with test b (x ∷ blocks) is none =
    let here = All-head (λ c. test c ≡ false) x blocks none in
    let rest = All-tail (λ c. test c ≡ false) x blocks none in
    elim (cases_Bool (nat_lt (start_of b) (start_of x))) [
      | inl first ↦ rw (first, is, here) (ap (λ more. b ∷ more) (filter-none test blocks rest))
      | inr later ↦ rw (later, here) (filter_with test b blocks is rest)
    ]

pub come_one : (b : Span) (blocks : List Span) → has_block blocks b ≡ false → come_in blocks (blocks_with b blocks) ≡ b ∷ []
come_one b blocks none =
    filter_with (λ c. not (has_block blocks c)) b blocks (not_false (has_block blocks b) none)
    (All-weaker (λ c. has_block blocks c ≡ true) (λ c. not (has_block blocks c) ≡ false) (λ c is. not_true (has_block blocks c) is) blocks (all_has blocks))

-- ---- the order of blocks

-- With one more put last they are the same blocks as with it at its place.
pub last-with : (b : Span) (blocks : List Span) → IsPermutation (blocks ++ b ∷ []) (blocks_with b blocks)
last-with b [] = IsPermutation-refl (b ∷ [])
last-with b (x ∷ blocks) =
    elim (cases_Bool (nat_lt (start_of b) (start_of x))) [
      | inl first ↦ rw first (IsPermutation-to_front (x ∷ blocks) b)
      | inr later ↦ rw later (IsPermutation-cons x (blocks ++ b ∷ []) (blocks_with b blocks) (last-with b blocks))
    ]

-- 1 for a block that passes the test.
abbrev one_if : (Span → Bool) → Span → ℕ
one_if test b = if test b then 1 else 0

none_passes : (test : Span → Bool) (blocks : List Span) → All (λ b. test b ≡ false) blocks → sum_by (one_if test) blocks ≡ 0
none_passes test blocks none =
    let low = sum_by-le (one_if test) 0 blocks (All-weaker (λ b. test b ≡ false) (λ b. one_if test b ≤ 0) (λ b is. rw is (omega arith)) blocks none) in
    omega (arith, low)

first_passes : (test : Span → Bool) (b : Span) (blocks : List Span) → test b ≡ true → 1 ≤ sum_by (one_if test) (b ∷ blocks)
first_passes test b blocks is = let one : one_if test b ≡ 1 = rw is refl in omega (arith, one, sum_by-cons (one_if test) b blocks)

-- The same blocks by rising starts: none of either list starts before the first of the other, so these are the same.
first_is : (x y : Span) (these those : List Span) → ((f : Span → ℕ) → sum_by f (x ∷ these) ≡ sum_by f (y ∷ those)) → IsNonDecreasingBy start_of (x ∷ these)
    → AllPairs IsBefore (y ∷ those) → 0 < length_of y → x ≡ y
first_is x y these those same rise order some =
    let before : Span → Bool = λ b. nat_lt (start_of b) (start_of x) in
    let bounds : Span → Bool = has_bounds (start_of x) (end_of x) in
    let low : start_of x ≤ start_of y =
    elim (cases_lt (start_of y) (start_of x)) [
      | inl lt ↦
          let none = none_passes before (x ∷ these) (λ k d within. le-ltb (start_of (get_or (x ∷ these) k d)) (start_of x) (rise 0 k d (omega arith) within)) in
          let one = first_passes before y those (lt-ltb (start_of y) (start_of x) lt) in
          absurd (omega (arith, none, one, same (one_if before)))
      | inr le ↦ le
    ] in
    elim (cases_Bool (has_bounds (start_of x) (end_of x) y)) [
      | inl is ↦ (let both = has_bounds-is (start_of x) (end_of x) y is in let long : length_of x ≡ length_of y = omega (arith, both.0, both.1) in λ i. (sym both.0 i, long i))
      | inr other ↦
          let rest : All (λ b. has_bounds (start_of x) (end_of x) b ≡ false) those =
          λ k d within.
          let later = order 0 (suc k) d (omega arith) (omega (arith, within)) in
          rw (ne_eqb (start_of (get_or those k d)) (start_of x) (λ e. omega (arith, e, low, some, later))) refl in
          let none = none_passes bounds (y ∷ those) (All-cons (λ b. has_bounds (start_of x) (end_of x) b ≡ false) y those other rest) in
          let one = first_passes bounds x these (itself x) in
          absurd (omega (arith, none, one, same (one_if bounds)))
    ]

rest_rises : (x : Span) (blocks : List Span) → IsNonDecreasingBy start_of (x ∷ blocks) → IsNonDecreasingBy start_of blocks
rest_rises x blocks rise i j d le lt = rise (suc i) (suc j) d (omega (arith, le)) (omega (arith, lt))

rest_ordered : (x : Span) (blocks : List Span) → AllPairs IsBefore (x ∷ blocks) → AllPairs IsBefore blocks
rest_ordered x blocks order i j d less lt = order (suc i) (suc j) d (omega (arith, less)) (omega (arith, lt))

one_order : (these those : List Span) → ((f : Span → ℕ) → sum_by f these ≡ sum_by f those) → IsNonDecreasingBy start_of these → AllPairs IsBefore those → All (λ b. 0 < length_of b) those
    → these ≡ those
one_order [] [] same rise order some = refl
one_order [] (y ∷ those) same rise order some = absurd (omega (arith, same (λ b. 1), sum_by-cons (λ (b : Span). 1) y those))
one_order (x ∷ these) [] same rise order some = absurd (omega (arith, same (λ b. 1), sum_by-cons (λ (b : Span). 1) x these))
one_order (x ∷ these) (y ∷ those) same rise order some =
    let first : x ≡ y = first_is x y these those same rise order (All-head (λ b. 0 < length_of b) y those some) in
    let rest : these ≡ those =
    one_order these those (λ f. omega (arith, same f, ap f first, sum_by-cons f x these, sum_by-cons f y those)) (rest_rises x these rise) (rest_ordered y those order) (All-tail (λ b. 0 < length_of b) y those some) in
    λ i. first i ∷ rest i

-- The same blocks, with some bytes each and none in another, have one order by rising starts.
pub in_order-is : (these those : List Span) → IsPermutation these those → IsNonDecreasingBy start_of these → AllPairs IsBefore those → All (λ b. 0 < length_of b) those → these ≡ those
in_order-is these those same = one_order these those (λ f. sym (sum_by-IsPermutation f these those same))

-- Blocks by rising bases are spans by rising starts.
pub spans_rise : (blocks : List HeldBlock) → IsNonDecreasingBy (λ block. block.base) blocks → IsNonDecreasingBy start_of (spans_of blocks)
spans_rise blocks rise i j d le lt =
    let none : HeldBlock = record { base = start_of d; length = length_of d } in
    omega (arith, rise i j none le (omega (arith, lt, length-map blocks span_of)), ap start_of (get_or-map span_of blocks i none), ap start_of (get_or-map span_of blocks j none))
