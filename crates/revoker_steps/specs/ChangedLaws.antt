-- What holds of a list in which the elements at some indices are changed, and of how many there pass a test.
use Rattle.std.proofs.Common.{◌≡◌, ◌≢◌, ◌+◌, ◌<◌, ◌≤◌, ◌||◌, ◌&&◌, ℕ, zero, suc, Bool, true, false, cond, All, List, [], ◌∷◌, length, drop, get_or, map, set, take, refl, sym, ap, arith}
use Rattle.std.specs.Prelude.{count_by}
use Rattle.std.proofs.lemmas.List.Elements.{All-cons, All-head, All-nil, All-tail}
use Rattle.std.proofs.lemmas.List.Sums.{sum_by-cons}
use Rattle.revoker_steps.specs.Changed.{changed_where, count_where}

pub either : {A : Type 0} (P : A → Type 0) (b : Bool) (x y : A) → P x → P y → P (cond b x y)
either P true x y p q = p
either P false x y p q = q

-- What holds of each element, and of f of each of which it holds, holds of each after.
pub All-changed : {X : Type 0} (P : X → Type 0) (f : X → X) → ((x : X) → P x → P (f x)) → (test : ℕ → Bool) (xs : List X) → All P xs → All P (changed_where test f xs)
All-changed P f keeps test [] all = All-nil P
All-changed P f keeps test (x ∷ xs) all =
    let here = All-head P x xs all in
    All-cons P (cond (test 0) (f x) x) (changed_where (λ k. test (suc k)) f xs) (either P (test 0) (f x) x (keeps x here) here)
    (All-changed P f keeps (λ k. test (suc k)) xs (All-tail P x xs all))

pub length-changed : {X : Type 0} (f : X → X) (test : ℕ → Bool) (xs : List X) → length (changed_where test f xs) ≡ length xs
length-changed f test [] = refl
length-changed f test (x ∷ xs) = ap suc (length-changed f (λ k. test (suc k)) xs)

-- Each element after.
pub get_or-changed : {X : Type 0} (f : X → X) (d : X) → f d ≡ d → (test : ℕ → Bool) (xs : List X) (i : ℕ)
    → get_or (changed_where test f xs) i d ≡ cond (test i) (f (get_or xs i d)) (get_or xs i d)
get_or-changed f d same test [] i = either (λ x. d ≡ x) (test i) (f d) d (sym same) refl
get_or-changed f d same test (x ∷ xs) zero = refl
get_or-changed f d same test (x ∷ xs) (suc i) = get_or-changed f d same (λ k. test (suc k)) xs i

-- Where each index passes, f is of each element.
pub changed-all : {X : Type 0} (f : X → X) (test : ℕ → Bool) (xs : List X) → ((i : ℕ) → i < length xs → test i ≡ true) → changed_where test f xs ≡ map f xs
changed-all f test [] each = refl
changed-all f test (x ∷ xs) each =
    let here : cond (test 0) (f x) x ≡ f x = ap (λ b. cond b (f x) x) (each 0 (omega arith)) in
    let rest = changed-all f (λ k. test (suc k)) xs (λ i lt. each (suc i) (omega (arith, lt))) in
    λ j. here j ∷ rest j

-- Where f changes nothing twice, two changes are one, of the indices that pass either test.
both : {X : Type 0} (f : X → X) → ((x : X) → f (f x) ≡ f x) → (a b : Bool) (x : X) → cond a (f (cond b (f x) x)) (cond b (f x) x) ≡ cond (a || b) (f x) x
both f twice true true x = twice x
both f twice true false x = refl
both f twice false b x = refl

pub changed-twice : {X : Type 0} (f : X → X) → ((x : X) → f (f x) ≡ f x) → (test other : ℕ → Bool) (xs : List X)
    → changed_where test f (changed_where other f xs) ≡ changed_where (λ k. test k || other k) f xs
changed-twice f twice test other [] = refl
changed-twice f twice test other (x ∷ xs) =
    λ j. both f twice (test 0) (other 0) x j ∷ changed-twice f twice (λ k. test (suc k)) (λ k. other (suc k)) xs j

-- Where no index passes, nothing is changed.
pub changed-none : {X : Type 0} (f : X → X) (xs : List X) → changed_where (λ _. false) f xs ≡ xs
changed-none f [] = refl
changed-none f (x ∷ xs) = λ j. x ∷ changed-none f xs j

pub changed-within : {X : Type 0} (f : X → X) (test : ℕ → Bool) (xs : List X) → ((i : ℕ) → i < length xs → test i ≡ false) → changed_where test f xs ≡ xs
changed-within f test [] none = refl
changed-within f test (x ∷ xs) none =
    let here : cond (test 0) (f x) x ≡ x = ap (λ b. cond b (f x) x) (none 0 (omega arith)) in
    let rest = changed-within f (λ k. test (suc k)) xs (λ i lt. none (suc i) (omega (arith, lt))) in
    λ j. here j ∷ rest j

-- Two tests that agree on the list's indices change the same.
pub changed-same : {X : Type 0} (f : X → X) (test other : ℕ → Bool) (xs : List X) → ((i : ℕ) → i < length xs → test i ≡ other i)
    → changed_where test f xs ≡ changed_where other f xs
changed-same f test other [] same = refl
changed-same f test other (x ∷ xs) same =
    let here : cond (test 0) (f x) x ≡ cond (other 0) (f x) x = ap (λ b. cond b (f x) x) (same 0 (omega arith)) in
    let rest = changed-same f (λ k. test (suc k)) (λ k. other (suc k)) xs (λ i lt. same (suc i) (omega (arith, lt))) in
    λ j. here j ∷ rest j

-- Where one index passes, its element alone is changed.
pub changed-one : {X : Type 0} (f : X → X) (d : X) (test : ℕ → Bool) (i : ℕ) (xs : List X) → i < length xs → test i ≡ true → ((k : ℕ) → k ≢ i → test k ≡ false)
    → changed_where test f xs ≡ set xs i (f (get_or xs i d))
changed-one f d test i [] lt is other = absurd (omega (arith, lt))
changed-one f d test zero (x ∷ xs) lt is other =
    let here : cond (test 0) (f x) x ≡ f x = ap (λ b. cond b (f x) x) is in
    let rest = changed-within f (λ k. test (suc k)) xs (λ k _. other (suc k) (λ same. absurd (omega (arith, same)))) in
    λ j. here j ∷ rest j
changed-one f d test (suc i) (x ∷ xs) lt is other =
    let here : cond (test 0) (f x) x ≡ x = ap (λ b. cond b (f x) x) (other 0 (λ same. absurd (omega (arith, same)))) in
    let rest = changed-one f d (λ k. test (suc k)) i xs (omega (arith, lt)) is (λ k apart. other (suc k) (λ same. apart (omega (arith, same)))) in
    λ j. here j ∷ rest j

-- Nothing is, where f leaves that as it is.
pub changed-still : {X : Type 0} (f : X → X) (d : X) (test : ℕ → Bool) (i : ℕ) (xs : List X) → f (get_or xs i d) ≡ get_or xs i d → ((k : ℕ) → k ≢ i → test k ≡ false)
    → changed_where test f xs ≡ xs
changed-still f d test i [] same other = refl
changed-still f d test zero (x ∷ xs) same other =
    let here : cond (test 0) (f x) x ≡ x = either (λ y. y ≡ x) (test 0) (f x) x same refl in
    let rest = changed-within f (λ k. test (suc k)) xs (λ k _. other (suc k) (λ e. absurd (omega (arith, e)))) in
    λ j. here j ∷ rest j
changed-still f d test (suc i) (x ∷ xs) same other =
    let here : cond (test 0) (f x) x ≡ x = ap (λ b. cond b (f x) x) (other 0 (λ e. absurd (omega (arith, e)))) in
    let rest = changed-still f d (λ k. test (suc k)) i xs same (λ k apart. other (suc k) (λ e. apart (omega (arith, e)))) in
    λ j. here j ∷ rest j

-- ---- counts

abbrev weight : Bool → ℕ
weight b = cond b 1 0

pub count-within : {X : Type 0} (p : X → Bool) (test : ℕ → Bool) (xs : List X) → ((i : ℕ) → i < length xs → test i ≡ false) → count_where test p xs ≡ 0
count-within p test [] none = refl
count-within p test (x ∷ xs) none =
    let here : weight (test 0 && p x) ≡ 0 = ap (λ b. weight (b && p x)) (none 0 (omega arith)) in
    let rest = count-within p (λ k. test (suc k)) xs (λ i lt. none (suc i) (omega (arith, lt))) in
    omega (arith, here, rest)

pub count-same : {X : Type 0} (p : X → Bool) (test other : ℕ → Bool) (xs : List X) → ((i : ℕ) → i < length xs → test i ≡ other i)
    → count_where test p xs ≡ count_where other p xs
count-same p test other [] same = refl
count-same p test other (x ∷ xs) same =
    let here : weight (test 0 && p x) ≡ weight (other 0 && p x) = ap (λ b. weight (b && p x)) (same 0 (omega arith)) in
    let rest = count-same p (λ k. test (suc k)) (λ k. other (suc k)) xs (λ i lt. same (suc i) (omega (arith, lt))) in
    omega (arith, here, rest)

-- Where each index passes, all are counted.
pub count-all : {X : Type 0} (p : X → Bool) (test : ℕ → Bool) (xs : List X) → ((i : ℕ) → i < length xs → test i ≡ true) → count_where test p xs ≡ count_by p xs
count-all p test [] each = refl
count-all p test (x ∷ xs) each =
    let here : weight (test 0 && p x) ≡ weight (p x) = ap (λ b. weight (b && p x)) (each 0 (omega arith)) in
    let rest = count-all p (λ k. test (suc k)) xs (λ i lt. each (suc i) (omega (arith, lt))) in
    omega (arith, here, rest, sum_by-cons (λ y. cond (p y) 1 0) x xs)

-- What f changed is counted no more.
pub count-changed : {X : Type 0} (f : X → X) (p : X → Bool) → ((x : X) → p (f x) ≡ false) → (test other : ℕ → Bool) (xs : List X)
    → count_where test p (changed_where other f xs) + count_where other p xs ≡ count_where (λ k. test k || other k) p xs
count-changed f p gone test other [] = refl
count-changed f p gone test other (x ∷ xs) =
    let rest = count-changed f p gone (λ k. test (suc k)) (λ k. other (suc k)) xs in
    omega (arith, rest, at (test 0) (other 0)) where
      at : (a b : Bool) → weight (a && p (cond b (f x) x)) + weight (b && p x) ≡ weight ((a || b) && p x)
      at true true = (let none : weight (p (f x)) ≡ 0 = ap weight (gone x) in omega (arith, none))
      at true false = omega arith
      at false true = omega arith
      at false false = refl

-- Of one index that passes, its element alone is counted.
pub count-one : {X : Type 0} (p : X → Bool) (d : X) (test : ℕ → Bool) (i : ℕ) (xs : List X) → i < length xs → test i ≡ true → ((k : ℕ) → k ≢ i → test k ≡ false)
    → count_where test p xs ≡ cond (p (get_or xs i d)) 1 0
count-one p d test i [] lt is other = absurd (omega (arith, lt))
count-one p d test zero (x ∷ xs) lt is other =
    let here : weight (test 0 && p x) ≡ weight (p x) = ap (λ b. weight (b && p x)) is in
    let rest = count-within p (λ k. test (suc k)) xs (λ k _. other (suc k) (λ same. absurd (omega (arith, same)))) in
    omega (arith, here, rest)
count-one p d test (suc i) (x ∷ xs) lt is other =
    let here : weight (test 0 && p x) ≡ 0 = ap (λ b. weight (b && p x)) (other 0 (λ same. absurd (omega (arith, same)))) in
    let rest = count-one p d (λ k. test (suc k)) i xs (omega (arith, lt)) is (λ k apart. other (suc k) (λ same. apart (omega (arith, same)))) in
    omega (arith, here, rest)

-- Where the indices that pass are those of a part of the list, the elements of that part are counted.
pub count-part : {X : Type 0} (p : X → Bool) (test : ℕ → Bool) (from n : ℕ) (xs : List X)
    → ((i : ℕ) → i < from → test i ≡ false) → ((i : ℕ) → from ≤ i → i < from + n → test i ≡ true) → ((i : ℕ) → from + n ≤ i → test i ≡ false)
    → count_where test p xs ≡ count_by p (take n (drop from xs))
count-part p test zero zero xs before here past = count-within p test xs (λ i _. past i (omega arith))
count-part p test zero (suc n) [] before here past = refl
count-part p test zero (suc n) (x ∷ xs) before here past =
    let first : weight (test 0 && p x) ≡ weight (p x) = ap (λ b. weight (b && p x)) (here 0 (omega arith) (omega arith)) in
    let rest : count_where (λ k. test (suc k)) p xs ≡ count_by p (take n xs) =
    count-part p (λ k. test (suc k)) zero n xs (λ i below. absurd (omega (arith, below))) (λ i from below. here (suc i) (omega arith) (omega (arith, below))) (λ i end. past (suc i) (omega (arith, end))) in
    omega (arith, first, rest, sum_by-cons (λ y. cond (p y) 1 0) x (take n xs))
count-part p test (suc from) zero [] before here past = refl
count-part p test (suc from) (suc n) [] before here past = refl
count-part p test (suc from) n (x ∷ xs) before here past =
    let first : weight (test 0 && p x) ≡ 0 = ap (λ b. weight (b && p x)) (before 0 (omega arith)) in
    let rest : count_where (λ k. test (suc k)) p xs ≡ count_by p (take n (drop from xs)) =
    count-part p (λ k. test (suc k)) from n xs (λ i below. before (suc i) (omega (arith, below))) (λ i start below. here (suc i) (omega (arith, start)) (omega (arith, below))) (λ i end. past (suc i) (omega (arith, end))) in
    omega (arith, first, rest)
