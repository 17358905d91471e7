-- Texts of one length are told apart by their parts.
use Rattle.std.proofs.Common.{◌≡◌, ◌∙◌, ◌<◌, ◌+◌, ◌*◌, ◌^◌, inl, inr, ℕ, zero, suc, Bool, true, false, List, [], ◌∷◌, ◌++◌, length, get_or, refl, sym, ap, length-append, arith}
use Rattle.std.proofs.lemmas.Bool.{cases_lt}
use Rattle.byteorder.specs.Endian.{little_bytes, little_from}
use Rattle.byteorder.specs.Numbers.{length-bytes_low_first, little_number-reads_back}
use Rattle.heap_model.specs.Heap.{HeapState}
use Rattle.tag_memory.specs.Cells.{Cell, Granule, is_dirty_at, register_at}
use Rattle.state_bytes.specs.Text.{block_number, dirty_text, flag_byte, granule_text, head_text, register_text, texts_below}

pub append_both : (a b c d : List ℕ) → length a ≡ length b → a ++ c ≡ b ++ d → (a ≡ b) × (c ≡ d)
append_both [] [] c d same e = (refl, e)
append_both [] (y ∷ b) c d same e = absurd (omega arith)
append_both (x ∷ a) [] c d same e = absurd (omega arith)
append_both (x ∷ a) (y ∷ b) c d same e =
    let first : x ≡ y = cc in
    let later : a ++ c ≡ b ++ d = cc in
    let rest = append_both a b c d (omega (arith, same)) later in
    ((λ i. first i ∷ rest.0 i), rest.1)

pub little_same : (n x y : ℕ) → x < 256 ^ n → y < 256 ^ n → little_bytes n x ≡ little_bytes n y → x ≡ y
little_same n x y fx fy e =
    sym (little_number-reads_back n x [] fx) ∙ (ap (λ (l : List ℕ). little_from 0 n (l ++ [])) e ∙ little_number-reads_back n y [] fy)

pub length_little : (n x : ℕ) → length (little_bytes n x) ≡ n
length_little n x = length-bytes_low_first 0 n x

pub flag_same : (a b : Bool) → (flag_byte a ∷ []) ≡ (flag_byte b ∷ []) → a ≡ b
flag_same true true e = refl
flag_same false false e = refl
flag_same true false e = let h = ap (λ (l : List ℕ). get_or l 0 0) e in absurd (omega (arith, h))
flag_same false true e = let h = ap (λ (l : List ℕ). get_or l 0 0) e in absurd (omega (arith, h))

pub texts_length : (f g : ℕ → List ℕ) (n : ℕ) → ((i : ℕ) → length (f i) ≡ length (g i)) → length (texts_below f n) ≡ length (texts_below g n)
unfolding texts_below
texts_length f g zero same = refl
texts_length f g (suc n) same =
    omega (arith, length-append (texts_below f n) (f n), length-append (texts_below g n) (g n), texts_length f g n same, same n)

pub texts_same : (f g : ℕ → List ℕ) (n : ℕ) → ((i : ℕ) → length (f i) ≡ length (g i)) → texts_below f n ≡ texts_below g n → (i : ℕ) → i < n → f i ≡ g i
unfolding texts_below
texts_same f g zero same e i lt = absurd (omega arith)
texts_same f g (suc n) same e i lt =
    let both = append_both (texts_below f n) (texts_below g n) (f n) (g n) (texts_length f g n same) e in
    elim (cases_lt i n) [
      | inl less ↦ texts_same f g n same both.0 i less
      | inr le ↦ let is : i ≡ n = omega arith in ap f is ∙ (both.1 ∙ ap g (sym is))
    ]

-- ---- the parts

pub length_head : (base pages : ℕ) (is_open : Bool) → length (head_text base pages is_open) ≡ 13
unfolding head_text
length_head base pages is_open =
    omega (arith, length-append (little_bytes 8 base) (little_bytes 4 pages ++ (flag_byte is_open ∷ [])), length-append (little_bytes 4 pages) (flag_byte is_open ∷ []), length_little 8 base, length_little 4 pages)

pub head_same : (base pages b p : ℕ) (is_open o : Bool) → base < 256 ^ 8 → b < 256 ^ 8 → pages < 256 ^ 4 → p < 256 ^ 4 → head_text base pages is_open ≡ head_text b p o
    → (base ≡ b) × (pages ≡ p) × (is_open ≡ o)
unfolding head_text
head_same base pages b p is_open o fb fb2 fp fp2 e =
    let one = append_both (little_bytes 8 base) (little_bytes 8 b) _ _ (length_little 8 base ∙ sym (length_little 8 b)) e in
    let two = append_both (little_bytes 4 pages) (little_bytes 4 p) _ _ (length_little 4 pages ∙ sym (length_little 4 p)) one.1 in
    (little_same 8 base b fb fb2 one.0, little_same 4 pages p fp fp2 two.0, flag_same is_open o two.1)

pub length_register : (registers : List Cell) (r : ℕ) → length (register_text registers r) ≡ 17
unfolding register_text
length_register registers r =
    omega (arith, length-append (little_bytes 16 (register_at registers r).0.bits) (flag_byte (register_at registers r).1 ∷ []), length_little 16 (register_at registers r).0.bits)

pub register_same : (xs ys : List Cell) (r : ℕ) → (register_at xs r).0.bits < 256 ^ 16 → (register_at ys r).0.bits < 256 ^ 16 → register_text xs r ≡ register_text ys r → register_at xs r ≡ register_at ys r
unfolding register_text
register_same xs ys r fx fy e =
    let one = append_both (little_bytes 16 (register_at xs r).0.bits) (little_bytes 16 (register_at ys r).0.bits) _ _ (length_little 16 (register_at xs r).0.bits ∙ sym (length_little 16 (register_at ys r).0.bits)) e in
    let bits = little_same 16 (register_at xs r).0.bits (register_at ys r).0.bits fx fy one.0 in
    let tag = flag_same (register_at xs r).1 (register_at ys r).1 one.1 in
    (λ i. (record { bits = bits i }, tag i))

pub dirty_same : (xs ys : List Bool) (p : ℕ) → dirty_text xs p ≡ dirty_text ys p → is_dirty_at xs p ≡ is_dirty_at ys p
unfolding dirty_text
dirty_same xs ys p e = flag_same (is_dirty_at xs p) (is_dirty_at ys p) e

pub length_dirty : (xs : List Bool) (p : ℕ) → length (dirty_text xs p) ≡ 1
unfolding dirty_text
length_dirty xs p = refl

pub length_granule : (s : HeapState) (i : ℕ) (g : Granule) → length (granule_text s i g) ≡ 21
unfolding granule_text
length_granule s i g =
    let number = block_number s (s.base + 16 * i) in
    omega (
      arith,
      length-append (little_bytes 16 g.0) ((flag_byte g.1 ∷ []) ++ little_bytes 4 (block_number s (s.base + 16 * i))),
      length_little 16 g.0,
      length_little 4 (block_number s (s.base + 16 * i)),
    )

-- The numbers of blocks fit four bytes.
abbrev pub AreShort : HeapState → Type 0
AreShort s = (a : ℕ) → block_number s a < 256 ^ 4

-- What one granule tells.
pub record AreSameAt (s t : HeapState) (i : ℕ) (g h : Granule) : Type 0 where
  pub granule : g ≡ h
  pub number : block_number s (s.base + 16 * i) ≡ block_number t (t.base + 16 * i)

pub granule_same : (s t : HeapState) (i : ℕ) (g h : Granule) → AreShort s → AreShort t → g.0 < 256 ^ 16 → h.0 < 256 ^ 16 → granule_text s i g ≡ granule_text t i h → AreSameAt s t i g h
unfolding granule_text
granule_same s t i g h short_s short_t fg fh e =
    let a = s.base + 16 * i in
    let b = t.base + 16 * i in
    let one = append_both (little_bytes 16 g.0) (little_bytes 16 h.0) _ _ (length_little 16 g.0 ∙ sym (length_little 16 h.0)) e in
    let two = append_both (flag_byte g.1 ∷ []) (flag_byte h.1 ∷ []) _ _ refl one.1 in
    let bits = little_same 16 g.0 h.0 fg fh one.0 in
    let tag = flag_same g.1 h.1 two.0 in
    record {
      granule = λ j. (bits j, tag j);
      number = little_same 4 (block_number s (s.base + 16 * i)) (block_number t (t.base + 16 * i)) (short_s (s.base + 16 * i)) (short_t (t.base + 16 * i)) two.1;
    }
