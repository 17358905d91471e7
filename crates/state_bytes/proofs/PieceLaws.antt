-- The texts of one granule, register or page, which stand in bytes piece by piece.
use Rattle.std.proofs.Common.{◌≡◌, ◌∙◌, ◌+◌, ◌*◌, ℕ, zero, suc, Bool, false, Some, List, [], ◌∷◌, ◌++◌, get_or, length, sym, ap, arith}
use Rattle.std.specs.Prelude.{slice_get}
use Rattle.byteorder.specs.Endian.{little_bytes}
use Rattle.heap_model.specs.Heap.{HeapState}
use Rattle.tag_memory.specs.Cells.{Cell, Granule, is_dirty_at, register_at}
use Rattle.state_bytes.specs.Text.{block_number, dirty_text, flag_byte, granule_text, head_text, memory_text, register_text, texts_below}
use Rattle.state_bytes.specs.Writing.{StandsAt}
use Rattle.state_bytes.proofs.ReadLaws.{offset_is_1, offset_is_17, offset_is_21, texts_long}
use Rattle.state_bytes.proofs.SameTexts.{length_dirty, length_granule, length_little, length_register}
use Rattle.state_bytes.proofs.StandingLaws.{stands_first, stands_second, stands_two}

-- ---- how long many are

abbrev pub granule_at : HeapState → List Granule → ℕ → List ℕ
granule_at heap granules = λ i. granule_text heap i (get_or granules i (0, false))

pub granules_long : (heap : HeapState) (granules : List Granule) (n : ℕ) → length (texts_below (granule_at heap granules) n) ≡ 21 * n
granules_long heap granules n = texts_long (granule_at heap granules) 21 n (λ k. length_granule heap k _) ∙ offset_is_21 n

pub registers_long : (registers : List Cell) (n : ℕ) → length (texts_below (register_text registers) n) ≡ 17 * n
registers_long registers n = texts_long (register_text registers) 17 n (λ k. length_register registers k) ∙ offset_is_17 n

pub dirty_long : (dirty : List Bool) (n : ℕ) → length (texts_below (dirty_text dirty) n) ≡ n
dirty_long dirty n = texts_long (dirty_text dirty) 1 n (λ k. length_dirty dirty k) ∙ offset_is_1 n

-- ---- what stands

-- The pieces of a head, both ways.
pub record AreHead (bytes : List ℕ) (base pages : ℕ) (is_open : Bool) : Type 0 where
  pub base_stands : StandsAt bytes 0 (little_bytes 8 base)
  pub pages_stand : StandsAt bytes 8 (little_bytes 4 pages)
  pub flag_stands : StandsAt bytes 12 (flag_byte is_open ∷ [])

pub head_stands : (bytes : List ℕ) (base pages : ℕ) (is_open : Bool) → AreHead bytes base pages is_open → StandsAt bytes 0 (head_text base pages is_open)
unfolding head_text
head_stands bytes base pages is_open are =
    stands_two bytes (little_bytes 8 base) _ 0 8 (omega (arith, length_little 8 base)) are.base_stands
    (stands_two bytes (little_bytes 4 pages) _ 8 12 (omega (arith, length_little 4 pages)) are.pages_stand are.flag_stands)

pub pieces_of_head : (bytes : List ℕ) (base pages : ℕ) (is_open : Bool) → StandsAt bytes 0 (head_text base pages is_open) → AreHead bytes base pages is_open
unfolding head_text
pieces_of_head bytes base pages is_open stands =
    let rest = stands_second bytes (little_bytes 8 base) _ 0 8 (omega (arith, length_little 8 base)) stands in
    record {
      base_stands = stands_first bytes (little_bytes 8 base) _ 0 stands;
      pages_stand = stands_first bytes (little_bytes 4 pages) _ 8 rest;
      flag_stands = stands_second bytes (little_bytes 4 pages) _ 8 12 (omega (arith, length_little 4 pages)) rest;
    }

-- Those of a granule.
pub record AreGranule (bytes : List ℕ) (at bits number : ℕ) (tag : Bool) : Type 0 where
  pub bits_stand : StandsAt bytes at (little_bytes 16 bits)
  pub tag_stands : StandsAt bytes (at + 16) (flag_byte tag ∷ [])
  pub number_stands : StandsAt bytes (at + 17) (little_bytes 4 number)

pub granule_stands : (heap : HeapState) (i bits number : ℕ) (tag : Bool) (bytes : List ℕ) (at : ℕ) → number ≡ block_number heap (heap.base + 16 * i)
    → AreGranule bytes at bits number tag → StandsAt bytes at (granule_text heap i (bits, tag))
unfolding granule_text
granule_stands heap i bits number tag bytes at is are =
    rw (sym is) (stands_two bytes (little_bytes 16 bits) _ at (at + 16) (omega (arith, length_little 16 bits)) are.bits_stand
    (stands_two bytes (flag_byte tag ∷ []) _ (at + 16) (at + 17) (omega arith) are.tag_stands are.number_stands))

pub pieces_of_granule : (heap : HeapState) (i bits number : ℕ) (tag : Bool) (bytes : List ℕ) (at : ℕ) → number ≡ block_number heap (heap.base + 16 * i)
    → StandsAt bytes at (granule_text heap i (bits, tag)) → AreGranule bytes at bits number tag
unfolding granule_text
pieces_of_granule heap i bits number tag bytes at is stands =
    let told : StandsAt bytes at (little_bytes 16 bits ++ ((flag_byte tag ∷ []) ++ little_bytes 4 number)) = rw is stands in
    let rest = stands_second bytes (little_bytes 16 bits) _ at (at + 16) (omega (arith, length_little 16 bits)) told in
    record {
      bits_stand = stands_first bytes (little_bytes 16 bits) _ at told;
      tag_stands = stands_first bytes (flag_byte tag ∷ []) _ (at + 16) rest;
      number_stands = stands_second bytes (flag_byte tag ∷ []) _ (at + 16) (at + 17) (omega arith) rest;
    }

-- Those of a register.
pub record AreRegister (bytes : List ℕ) (at : ℕ) (cell : Cell) : Type 0 where
  pub bits_stand : StandsAt bytes at (little_bytes 16 cell.0.bits)
  pub tag_stands : StandsAt bytes (at + 16) (flag_byte cell.1 ∷ [])

pub register_stands_by : (registers : List Cell) (r : ℕ) (cell : Cell) (bytes : List ℕ) (at : ℕ) → cell ≡ register_at registers r → AreRegister bytes at cell → StandsAt bytes at (register_text registers r)
unfolding register_text
register_stands_by registers r cell bytes at is are =
    rw (sym is) (stands_two bytes (little_bytes 16 cell.0.bits) _ at (at + 16) (omega (arith, length_little 16 cell.0.bits)) are.bits_stand are.tag_stands)

pub pieces_of_register : (registers : List Cell) (r : ℕ) (cell : Cell) (bytes : List ℕ) (at : ℕ) → cell ≡ register_at registers r → StandsAt bytes at (register_text registers r) → AreRegister bytes at cell
unfolding register_text
pieces_of_register registers r cell bytes at is stands =
    let told : StandsAt bytes at (little_bytes 16 cell.0.bits ++ (flag_byte cell.1 ∷ [])) = rw is stands in
    record {
      bits_stand = stands_first bytes (little_bytes 16 cell.0.bits) _ at told;
      tag_stands = stands_second bytes (little_bytes 16 cell.0.bits) _ at (at + 16) (omega (arith, length_little 16 cell.0.bits)) told;
    }

-- ---- all granules

pub memory_as_texts : (heap : HeapState) (granules : List Granule) (n : ℕ) → n ≡ length granules → memory_text heap granules ≡ texts_below (granule_at heap granules) n
unfolding memory_text
memory_as_texts heap granules n is = ap (texts_below (granule_at heap granules)) (sym is)

-- ---- one of many

pub dirty_is : (dirty : List Bool) (page : ℕ) (flag : Bool) → flag ≡ is_dirty_at dirty page → (flag_byte flag ∷ []) ≡ dirty_text dirty page
unfolding dirty_text
dirty_is dirty page flag is = ap (λ (b : Bool). flag_byte b ∷ []) is

pub cell_is : (granules : List Granule) (i : ℕ) (cell d : Granule) → slice_get granules i ≡ Some cell → cell ≡ get_or granules i d
cell_is [] i cell d is = absurd cc
cell_is (x ∷ granules) zero cell d is = cc
cell_is (x ∷ granules) (suc i) cell d is = cell_is granules i cell d is
