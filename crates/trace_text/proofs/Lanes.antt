-- From the mask of one look at some bytes, 64 at most, to which of them pass a test.
use Rattle.std.proofs.Common.{◌≡◌, ℕ, ◌<◌, ◌≤◌, ◌%◌, ◌^◌, ◌==◌, Bool, true, false, cond, List, [], ◌∷◌, map, length, get_or, take, Fits, w8, refl, ap, ap₂, ◌∙◌, arith}
use Rattle.std.proofs.lemmas.Bool.{agree_below, agree_below_at}
use Rattle.std.proofs.lemmas.List.{get_or-map, get_or-take, get_or_past, length-map, length-take-le}
use Rattle.std.proofs.lemmas.Simd.{bit_mask_l, map-map, mask_l-mod}
use lib.Lanes.{zip2, mask_l, top}
use Rattle.tag_memory.specs.Tags.{is_set}

-- an operation on two vectors that were computed lane by lane from v
pub joined : (h : ℕ → ℕ → ℕ) (f g : ℕ → ℕ) (v : List ℕ) {a b : List ℕ} → a ≡ map f v → b ≡ map g v → zip2 h a b ≡ map (λ x. h (f x) (g x)) v
joined h f g v p q = ap₂ (zip2 h) p q ∙ zip2-map h f g v where
  zip2-map : (h : ℕ → ℕ → ℕ) (f g : ℕ → ℕ) (xs : List ℕ) → zip2 h (map f xs) (map g xs) ≡ map (λ x. h (f x) (g x)) xs
  zip2-map h f g [] = refl
  zip2-map h f g (x ∷ xs) = ap (λ r. h (f x) (g x) ∷ r) (zip2-map h f g xs)

is_one : (t : Bool) → (cond t 1 0 == 1) ≡ t
is_one true = refl
is_one false = refl

pub marks : (n : ℕ) (text z : List ℕ) (test : ℕ → Bool) → n ≤ 64 → n ≤ length text → ((k : ℕ) → Fits w8 (get_or text k 0))
    → (f : ℕ → ℕ) → z ≡ map f (take n text) → agree_below (λ x. top 7 (f x)) test 256 ≡ true
    → (j : ℕ) → j < n → is_set (mask_l (map (top 7) z) % 2 ^ 64) j ≡ test (get_or text j 0)
marks n text z test few room fits f lanes agree j lt =
    let v = take n text in
    let stops : ℕ → Bool = λ x. top 7 (f x) in
    let long : length v ≡ n = length-take-le n text room in
    let mask : mask_l (map (top 7) z) % 2 ^ 64 ≡ mask_l (map stops v) =
    ap (λ l. mask_l l % 2 ^ 64) (ap (map (top 7)) lanes ∙ map-map (top 7) f v) ∙ mask_l-mod (map stops v) 64 (omega (arith, length-map v stops, long, few)) in
    ap (λ m. is_set m j) mask ∙ ap (λ b. b == 1) (bit_mask_l (map stops v) j) ∙ is_one (get_or (map stops v) j false)
    ∙ get_or-map stops v j 0 false (omega (arith, lt, long)) ∙ ap stops (get_or-take n text j 0 lt) ∙ agree_below_at stops test 256 (get_or text j 0) agree (fits j).fits

-- No other bit is one.
pub no_more : (n : ℕ) (text z : List ℕ) → n ≤ 64 → n ≤ length text → (f : ℕ → ℕ) → z ≡ map f (take n text) → (j : ℕ) → n ≤ j → is_set (mask_l (map (top 7) z) % 2 ^ 64) j ≡ false
no_more n text z few room f lanes j le =
    let v = take n text in
    let stops : ℕ → Bool = λ x. top 7 (f x) in
    let long : length (map stops v) ≡ n = length-map v stops ∙ length-take-le n text room in
    let mask : mask_l (map (top 7) z) % 2 ^ 64 ≡ mask_l (map stops v) =
    ap (λ l. mask_l l % 2 ^ 64) (ap (map (top 7)) lanes ∙ map-map (top 7) f v) ∙ mask_l-mod (map stops v) 64 (omega (arith, long, few)) in
    ap (λ m. is_set m j) mask ∙ ap (λ b. b == 1) (bit_mask_l (map stops v) j) ∙ ap (λ (t : Bool). cond t 1 0 == 1) (get_or_past (map stops v) j false (omega (arith, long, le)))
