-- What is told of a cell that changed, and of one that didn't; and lists of what numbers have.
use Rattle.std.proofs.Common.{◌≡◌, ◌≢◌, ◌∙◌, ◌&&◌, ◌<◌, ◌+◌, ◌-◌, inl, inr, length, set, length-set, subst, sym, ◌++◌, ℕ, zero, suc, Bool, true, false, cond, if◌then◌else◌, not, List, [], ◌∷◌, append-nil, codes, get_or, refl, ap, arith}
use Rattle.std.proofs.lemmas.Bool.{cases_eq, eq-eqb, ne_eqb}
use Rattle.std.proofs.lemmas.List.{ext_get_or, get_or-set_other, get_or-set_same}
use Rattle.std.specs.Fmt.{decimal}
use Rattle.json.specs.Token.{Token, begin_object, end_object, key, number}
use Rattle.tag_memory.specs.Cells.{Cell, Granule, cell_of, null_cell, register_at}
use Rattle.tag_memory.specs.Tags.{is_set_for, is_tagged}
use Rattle.data_tokens.specs.Cells.{cell_tokens}
use Rattle.data_tokens.specs.Taken.{is_tag_gone, number_if}
use Rattle.data_tokens.specs.Changes.{StayBut, below, change_tokens, is_same, is_same_tag, register_change, registers_tokens, tag_change}

pub change_tokens-same : (name : List ℕ) (n : ℕ) (old new : Cell) → is_same old new ≡ true → change_tokens name n old new ≡ []
unfolding change_tokens
change_tokens-same name n old new is = rw is refl

pub change_tokens-other : (name : List ℕ) (n : ℕ) (old new : Cell) → is_same old new ≡ false
    → change_tokens name n old new ≡ begin_object ∷ key name ∷ number (decimal n) ∷ (cell_tokens new ++ end_object ∷ [])
unfolding change_tokens
change_tokens-other name n old new is = rw is refl

-- What a register but the first reads as is what stands there.
pub register_at-later : (registers : List Cell) (k : ℕ) → register_at registers (k + 1) ≡ get_or registers (k + 1) null_cell
register_at-later registers k = ap (λ b. cond b null_cell (get_or registers (k + 1) null_cell)) (ne_eqb (k + 1) 0 (λ e. absurd (omega (arith, e))))

pub register_at-some : (registers : List Cell) (r : ℕ) → r ≢ 0 → register_at registers r ≡ get_or registers r null_cell
register_at-some registers r some = ap (λ b. cond b null_cell (get_or registers r null_cell)) (ne_eqb r 0 some)

pub register_at-all : (registers : List Cell) (r : ℕ) → get_or registers 0 null_cell ≡ null_cell → register_at registers r ≡ get_or registers r null_cell
register_at-all registers r first =
    elim (cases_eq r 0) [
      | inl is ↦ subst (λ (n : ℕ). register_at registers n ≡ get_or registers n null_cell) (sym is) (sym first)
      | inr some ↦ register_at-some registers r some
    ]

-- ---- lists of what numbers have

-- Where none of the next m numbers has anything.
pub below_skip : (f : ℕ → List Token) (n m : ℕ) → ((k : ℕ) → k < m → f (n + k) ≡ []) → below f (n + m) ≡ below f n
below_skip f n zero none = (let same : n + 0 ≡ n = omega arith in ap (below f) same)
below_skip f n (suc m) none =
    let more : n + suc m ≡ suc (n + m) = omega arith in
    ap (below f) more
    ∙ (ap (λ (ts : List Token). below f (n + m) ++ ts) (none m (omega arith)) ∙ (append-nil (below f (n + m)) ∙ below_skip f n m (λ k lt. none k (omega (arith, lt)))))

same_tag : (b : Bool) → is_same_tag b b ≡ true
same_tag true = refl
same_tag false = refl

pub is_same-itself : (c : Cell) → is_same c c ≡ true
is_same-itself c = ap (λ (b : Bool). b && is_same_tag c.1 c.1) (eq-eqb c.0.bits c.0.bits refl) ∙ same_tag c.1

-- A granule whose tag is as the word of tags before says.
pub tag_change-none : (tags : List ℕ) (granules : List Granule) (i : ℕ) → is_set_for tags i ≡ is_tagged granules i → tag_change tags granules i ≡ []
tag_change-none tags granules i same =
    let cell = get_or granules i (0, false) in
    change_tokens-same (codes "i") i (cell_of (cell.0, is_set_for tags i)) (cell_of cell)
    (ap (λ (b : Bool). is_same (cell_of (cell.0, b)) (cell_of cell)) same ∙ is_same-itself (cell_of cell))

-- ---- numbers that pass a test

pub number_if-yes : (test : ℕ → Bool) (k : ℕ) → test k ≡ true → number_if test k ≡ number (decimal k) ∷ []
unfolding number_if
number_if-yes test k is = rw is refl

pub number_if-no : (test : ℕ → Bool) (k : ℕ) → test k ≡ false → number_if test k ≡ []
unfolding number_if
number_if-no test k is = rw is refl

-- A tag that is as the word before says isn't gone.
pub is_tag_gone-not : (tags : List ℕ) (granules : List Granule) (i : ℕ) → is_set_for tags i ≡ is_tagged granules i → is_tag_gone tags granules i ≡ false
is_tag_gone-not tags granules i same = ap (λ (b : Bool). b && not (is_tagged granules i)) same ∙ never (is_tagged granules i) where
  never : (b : Bool) → (b && not b) ≡ false
  never true = refl
  never false = refl

pub number_if-same : (f g : ℕ → Bool) (k : ℕ) → f k ≡ g k → number_if f k ≡ number_if g k
unfolding number_if
number_if-same f g k same = λ i. if same i then number (decimal k) ∷ [] else []

-- ---- one register alone

-- Where no number has anything, and where one alone has.
below_none : (f : ℕ → List Token) (n : ℕ) → ((k : ℕ) → f k ≡ []) → below f n ≡ []
below_none f zero none = refl
below_none f (suc n) none = λ i. below_none f n none i ++ none n i

below_less : (f : ℕ → List Token) (n : ℕ) → ((k : ℕ) → k < n → f k ≡ []) → below f n ≡ []
below_less f zero none = refl
below_less f (suc n) none = λ i. below_less f n (λ k lt. none k (omega (arith, lt))) i ++ none n (omega arith) i

below_one : (f : ℕ → List Token) (n k : ℕ) → k < n → ((j : ℕ) → j ≢ k → f j ≡ []) → below f n ≡ f k
below_one f zero k lt none = absurd (omega (arith, lt))
below_one f (suc n) k lt none =
    elim (cases_eq k n) [
      | inl last ↦ ap (λ (ts : List Token). ts ++ f n) (below_less f n (λ j less. none j (λ same. absurd (omega (arith, less, same, last))))) ∙ ap f (sym last)
      | inr other ↦
          ap (λ (ts : List Token). below f n ++ ts) (none n (λ same. other (sym same)))
          ∙ (append-nil (below f n) ∙ below_one f n k (omega (arith, lt, other)) none)
    ]

register_change-none : (old new : List Cell) (k : ℕ) → get_or new (k + 1) null_cell ≡ get_or old (k + 1) null_cell → register_change old new k ≡ []
register_change-none old new k same =
    let cell = get_or old (k + 1) null_cell in
    change_tokens-same (codes "r") (k + 1) cell (get_or new (k + 1) null_cell) (ap (λ (c : Cell). is_same cell c) same ∙ is_same-itself cell)

-- Where all registers but one are as before, that one is told where it changed, and none where that is register 0.
pub registers_tokens-none : (old new : List Cell) (r : ℕ) → r ≡ 0 → StayBut r old new → registers_tokens old new ≡ []
unfolding registers_tokens
registers_tokens-none old new r is stay = below_none (register_change old new) 31 (λ k. register_change-none old new k (stay (k + 1) (λ same. absurd (omega (arith, same, is)))))

pub registers_tokens-one : (old new : List Cell) (r : ℕ) → r ≢ 0 → r < 32 → StayBut r old new
    → registers_tokens old new ≡ change_tokens (codes "r") r (get_or old r null_cell) (get_or new r null_cell)
unfolding registers_tokens
registers_tokens-one old new r some within stay =
    let back : r - 1 + 1 ≡ r = omega (arith, some) in
    below_one (register_change old new) 31 (r - 1) (omega (arith, some, within)) (λ j other. register_change-none old new j (stay (j + 1) (λ same. other (omega (arith, same)))))
    ∙ ap (λ (n : ℕ). change_tokens (codes "r") n (get_or old n null_cell) (get_or new n null_cell)) back

-- And with that one as it is now they are all as they are now.
pub set_one : (old new : List Cell) (r : ℕ) (cell : Cell) → length old ≡ length new → r < length old → cell ≡ get_or new r null_cell → StayBut r old new → set old r cell ≡ new
set_one old new r cell count within is stay =
    ext_get_or null_cell (set old r cell) new (length-set old r cell ∙ count)
    (λ k lt. elim (cases_eq k r) [
      | inl same ↦ subst (λ (n : ℕ). get_or (set old r cell) n null_cell ≡ get_or new n null_cell) (sym same) (get_or-set_same old r cell null_cell within ∙ is)
      | inr other ↦ get_or-set_other old r k cell null_cell other ∙ sym (stay k other)
    ])
