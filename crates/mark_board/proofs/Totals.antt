-- Sums over all views, each view by its number.
use Rattle.std.proofs.Common.{◌≡◌, ℕ, zero, suc, ◌+◌, ◌<◌, ◌≤◌, List, [], ◌∷◌, length, get_or, set, sym, refl, ap, arith}
use Rattle.std.proofs.lemmas.List.Sums.{get_or-le-sum_by, sum_by-cons, sum_by-set}
use Rattle.std.specs.List.{sum_by}
use mathlib.Core.Option.{some, some-injective, some-ne-none}
use lib.ListN.{get_elem?}
use Rattle.mark_board.specs.declared.rule.View.{View}

-- A number that has a view is one of the list's, and reads that view.
found-at : (views : List View) (id : ℕ) (v d : View) → get_elem? views id ≡ some v → (id < length views) × (get_or views id d ≡ v)
found-at [] id v d e = absurd (some-ne-none v (sym e))
found-at (x ∷ xs) zero v d e = (omega arith, some-injective x v e)
found-at (x ∷ xs) (suc id) v d e = let r = found-at xs id v d e in (omega arith, r.1)

pub total-set : (f : View → ℕ) (views : List View) (id : ℕ) (v w : View) → get_elem? views id ≡ some v → sum_by f (set views id w) + f v ≡ sum_by f views + f w
total-set f views id v w e =
    let at = found-at views id v v e in
    let is : f (get_or views id v) ≡ f v = ap f at.1 in
    let s = sum_by-set f views id w v at.0 in
    omega arith

pub total-at : (f : View → ℕ) (views : List View) (id : ℕ) (v : View) → get_elem? views id ≡ some v → f v ≤ sum_by f views
total-at f views id v e =
    let at = found-at views id v v e in
    let is : f (get_or views id v) ≡ f v = ap f at.1 in
    let s = get_or-le-sum_by f views id v at.0 in
    omega arith

-- Where each f is 0 with g, a total 0 of g gives a total 0 of f.
none_left : (f g : View → ℕ) (views : List View) → ((id : ℕ) (v : View) → get_elem? views id ≡ some v → g v ≡ 0 → f v ≡ 0) → sum_by g views ≡ 0 → sum_by f views ≡ 0
none_left f g [] h z = omega arith
none_left f g (x ∷ xs) h z =
    let p = sum_by-cons f x xs in
    let q = sum_by-cons g x xs in
    let a = h zero x refl (omega arith) in
    let b = none_left f g xs (λ id. h (suc id)) (omega arith) in
    omega arith

-- Where one view has all of g, it has all of f.
pub all_here : (f g : View → ℕ) (views : List View) (id : ℕ) (v : View) → ((id : ℕ) (v : View) → get_elem? views id ≡ some v → g v ≡ 0 → f v ≡ 0) → get_elem? views id ≡ some v
    → sum_by g views ≡ g v → sum_by f views ≡ f v
all_here f g [] id v h e z = absurd (some-ne-none v (sym e))
all_here f g (x ∷ xs) zero v h e z =
    let is = some-injective x v e in
    let a : f x ≡ f v = ap f is in
    let b : g x ≡ g v = ap g is in
    let p = sum_by-cons f x xs in
    let q = sum_by-cons g x xs in
    let c = none_left f g xs (λ k. h (suc k)) (omega arith) in
    omega arith
all_here f g (x ∷ xs) (suc id) v h e z =
    let p = sum_by-cons f x xs in
    let q = sum_by-cons g x xs in
    let t = total-at g xs id v e in
    let a = h zero x refl (omega arith) in
    let c = all_here f g xs id v (λ k. h (suc k)) e (omega arith) in
    omega arith
