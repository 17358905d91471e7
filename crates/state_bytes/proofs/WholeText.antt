-- The whole text of a machine, written and compared in four pieces.
use Rattle.std.proofs.Common.{◌≡◌, ◌∙◌, ◌+◌, ◌*◌, ℕ, Bool, List, ◌++◌, append_assoc, drop, length, length-append, take, refl, sym, ap, subst, arith}
use Rattle.std.proofs.lemmas.List.{drop_at, take_at}
use Rattle.heap_model.specs.Heap.{HeapState}
use Rattle.heap_machine.specs.Storage.{MachineState}
use Rattle.tag_memory.specs.Cells.{Cell, Granule}
use Rattle.state_bytes.specs.State.{HasInvariant, HasMemoryOf}
use Rattle.state_bytes.specs.Text.{dirty_text, head_text, memory_text, register_text, text_length, text_of, texts_below}
use Rattle.state_bytes.specs.Writing.{IsWritten, StandsAt}
use Rattle.state_bytes.proofs.PieceLaws.{dirty_long, granules_long, memory_as_texts, registers_long}
use Rattle.state_bytes.proofs.ReadLaws.{text_long}
use Rattle.state_bytes.proofs.SameTexts.{length_head}
use Rattle.state_bytes.proofs.StandingLaws.{stands_first, stands_second, stands_self, stands_two, stands_whole}
use Rattle.state_bytes.proofs.WritingLaws.{written_long, written_two, written_whole}

-- The pieces of a machine's text, and where the last two of them begin.
pub record ArePieces (m : MachineState) (head granules registers pages : List ℕ) (at last : ℕ) : Type 0 where
  pub head_is : head ≡ head_text m.state.heap.base (length m.dirty) m.state.heap.is_open
  pub granules_are : granules ≡ memory_text m.state.heap m.state.granules
  pub registers_are : registers ≡ texts_below (register_text m.state.registers) 32
  pub pages_are : pages ≡ texts_below (dirty_text m.dirty) (length m.dirty)
  pub at_is : at ≡ 13 + 21 * length m.state.granules
  pub last_is : last ≡ at + 17 * 32

-- How long they are.
record AreLong (m : MachineState) (h g r p : List ℕ) : Type 0 where
  head : length h ≡ 13
  granules : length g ≡ 21 * length m.state.granules
  registers : length r ≡ 17 * 32
  pages : length p ≡ length m.dirty

long_of : (m : MachineState) (h g r p : List ℕ) (at last : ℕ) → ArePieces m h g r p at last → AreLong m h g r p
long_of m h g r p at last are = record {
  head = ap (λ (l : List ℕ). length l) are.head_is ∙ length_head m.state.heap.base (length m.dirty) m.state.heap.is_open;
  granules = ap (λ (l : List ℕ). length l) (are.granules_are ∙ memory_as_texts m.state.heap m.state.granules (length m.state.granules) refl) ∙ granules_long m.state.heap m.state.granules (length m.state.granules);
  registers = ap (λ (l : List ℕ). length l) are.registers_are ∙ registers_long m.state.registers 32;
  pages = ap (λ (l : List ℕ). length l) are.pages_are ∙ dirty_long m.dirty (length m.dirty);
}

whole_is : (m : MachineState) (h g r p : List ℕ) (at last : ℕ) → ArePieces m h g r p at last → h ++ (g ++ (r ++ p)) ≡ text_of m
whole_is m h g r p at last are = λ j. are.head_is j ++ (are.granules_are j ++ (are.registers_are j ++ are.pages_are j))

pub all_written : (m : MachineState) (h g r p a b c d e : List ℕ) (at last : ℕ) → HasInvariant m → ArePieces m h g r p at last → length a ≡ text_length (length m.dirty)
    → IsWritten a 0 h b → IsWritten b 13 g c → IsWritten c at r d → IsWritten d last p e → e ≡ text_of m
all_written m h g r p a b c d e at last whole are room first second third fourth =
    let long = long_of m h g r p at last are in
    let count = whole.pages in
    let b_long = written_long a b h 0 (omega (arith, long.head, room)) first in
    let c_long = written_long b c g 13 (omega (arith, long.granules, room, b_long, count)) second in
    let two = written_two c d e r p at last (omega (arith, long.registers, are.at_is, room, b_long, c_long, count)) (omega (arith, are.last_is, long.registers)) third fourth in
    let three = written_two b c e g (r ++ p) 13 at (omega (arith, long.granules, room, b_long, count)) (omega (arith, are.at_is, long.granules)) second two in
    let four = written_two a b e h (g ++ (r ++ p)) 0 13 (omega (arith, long.head, room)) (omega (arith, long.head)) first three in
    let is = whole_is m h g r p at last are in
    written_whole a e (h ++ (g ++ (r ++ p))) (room ∙ sym (ap (λ (l : List ℕ). length l) is ∙ text_long m whole)) four ∙ is

-- All of them stand in bytes.
pub record AllStand (bytes h g r p : List ℕ) (at last : ℕ) : Type 0 where
  pub head : StandsAt bytes 0 h
  pub granules : StandsAt bytes 13 g
  pub registers : StandsAt bytes at r
  pub pages : StandsAt bytes last p

pub text_of_pieces : (m : MachineState) (bytes h g r p : List ℕ) (at last : ℕ) → HasInvariant m → ArePieces m h g r p at last → length bytes ≡ text_length (length m.dirty)
    → AllStand bytes h g r p at last → text_of m ≡ bytes
text_of_pieces m bytes h g r p at last whole are room all =
    let long = long_of m h g r p at last are in
    let is = whole_is m h g r p at last are in
    let two = stands_two bytes r p at last (omega (arith, are.last_is, long.registers)) all.registers all.pages in
    let three = stands_two bytes g (r ++ p) 13 at (omega (arith, are.at_is, long.granules)) all.granules two in
    let four = stands_two bytes h (g ++ (r ++ p)) 0 13 (omega (arith, long.head)) all.head three in
    stands_whole bytes (text_of m) (room ∙ sym (text_long m whole)) (subst (StandsAt bytes 0) is four)

pub pieces_of_text : (m : MachineState) (bytes h g r p : List ℕ) (at last : ℕ) → ArePieces m h g r p at last → text_of m ≡ bytes → AllStand bytes h g r p at last
pieces_of_text m bytes h g r p at last are text =
    let long = long_of m h g r p at last are in
    let whole : StandsAt bytes 0 (h ++ (g ++ (r ++ p))) = stands_self bytes (h ++ (g ++ (r ++ p))) (whole_is m h g r p at last are ∙ text) in
    let three = stands_second bytes h (g ++ (r ++ p)) 0 13 (omega (arith, long.head)) whole in
    let two = stands_second bytes g (r ++ p) 13 at (omega (arith, are.at_is, long.granules)) three in
    record {
      head = stands_first bytes h (g ++ (r ++ p)) 0 whole;
      granules = stands_first bytes g (r ++ p) 13 three;
      registers = stands_first bytes r p at two;
      pages = stands_second bytes r p at last (omega (arith, are.last_is, long.registers)) two;
    }

-- ---- registers alone

-- Registers that are written over those of a machine with the same memory.
pub registers_written : (m n : MachineState) (q old new : List ℕ) (at : ℕ) → HasMemoryOf m n → text_of m ≡ old → at ≡ 13 + 21 * length m.state.granules
    → q ≡ texts_below (register_text n.state.registers) 32 → IsWritten old at q new → new ≡ text_of n
registers_written m n q old new at same text place piece is =
    let h : List ℕ = head_text m.state.heap.base (length m.dirty) m.state.heap.is_open in
    let g : List ℕ = memory_text m.state.heap m.state.granules in
    let r : List ℕ = texts_below (register_text m.state.registers) 32 in
    let p : List ℕ = texts_below (dirty_text m.dirty) (length m.dirty) in
    let long = long_of m h g r p at (at + 17 * 32) (record { head_is = refl; granules_are = refl; registers_are = refl; pages_are = refl; at_is = place; last_is = refl }) in
    let front : length (h ++ g) ≡ at = omega (arith, length-append h g, long.head, long.granules, place) in
    let size : length q ≡ 17 * 32 = ap (λ (l : List ℕ). length l) piece ∙ registers_long n.state.registers 32 in
    let whole : old ≡ (h ++ g) ++ (r ++ p) = sym text ∙ sym (append_assoc h g (r ++ p)) in
    let before : take at old ≡ h ++ g = ap (take at) whole ∙ take_at (h ++ g) (r ++ p) at front in
    let behind : drop (at + length q) old ≡ p =
    ap (drop (at + length q)) (whole ∙ sym (append_assoc (h ++ g) r p))
    ∙ drop_at ((h ++ g) ++ r) p (at + length q) (omega (arith, length-append (h ++ g) r, front, long.registers, size)) in
    is ∙ ((λ j. before j ++ (piece j ++ behind j)) ∙ (append_assoc h g (texts_below (register_text n.state.registers) 32 ++ p)
    ∙ (λ j. head_text (sym same.heap j).base (length (sym same.dirty j)) (sym same.heap j).is_open
    ++ (memory_text (sym same.heap j) (sym same.granules j)
    ++ (texts_below (register_text n.state.registers) 32
    ++ texts_below (dirty_text (sym same.dirty j)) (length (sym same.dirty j)))))))

-- ---- what the code tells of a machine

pub own_pieces : (m : MachineState)
    → ArePieces m (head_text m.state.heap.base (length m.dirty) m.state.heap.is_open) (memory_text m.state.heap m.state.granules) (texts_below (register_text m.state.registers) 32)
    (texts_below (dirty_text m.dirty) (length m.dirty)) (13 + 21 * length m.state.granules) (13 + 21 * length m.state.granules + 17 * 32)
own_pieces m = record { head_is = refl; granules_are = refl; registers_are = refl; pages_are = refl; at_is = refl; last_is = refl }

pub head_same_as : (m : MachineState) (heap : HeapState) (granules : List Granule) (base pages : ℕ) (is_open : Bool) → HasInvariant m → heap ≡ m.state.heap → granules ≡ m.state.granules → base ≡ heap.base
    → 256 * pages ≡ length granules → is_open ≡ heap.is_open → head_text base pages is_open ≡ head_text m.state.heap.base (length m.dirty) m.state.heap.is_open
head_same_as m heap granules base pages is_open whole heap_is granules_are base_is count open_is =
    let counted : pages ≡ length m.dirty = omega (arith, count, ap (λ (xs : List Granule). length xs) granules_are, whole.pages) in
    λ j. head_text ((base_is ∙ ap (λ (s : HeapState). s.base) heap_is) j) (counted j) ((open_is ∙ ap (λ (s : HeapState). s.is_open) heap_is) j)

pub granules_same_as : (m : MachineState) (heap : HeapState) (granules : List Granule) → heap ≡ m.state.heap → granules ≡ m.state.granules → memory_text heap granules ≡ memory_text m.state.heap m.state.granules
granules_same_as m heap granules heap_is granules_are = λ j. memory_text (heap_is j) (granules_are j)

pub registers_same_as : (m : MachineState) (registers : List Cell) → registers ≡ m.state.registers → texts_below (register_text registers) 32 ≡ texts_below (register_text m.state.registers) 32
registers_same_as m registers are = λ j. texts_below (register_text (are j)) 32

pub pages_same_as : (m : MachineState) (dirty : List Bool) → dirty ≡ m.dirty → texts_below (dirty_text dirty) (length dirty) ≡ texts_below (dirty_text m.dirty) (length m.dirty)
pages_same_as m dirty are = λ j. texts_below (dirty_text (are j)) (length (are j))

pub stands_as : (bytes p q : List ℕ) (a b : ℕ) → a ≡ b → p ≡ q → StandsAt bytes b q → StandsAt bytes a p
stands_as bytes p q a b places pieces stands = subst (λ (k : ℕ). StandsAt bytes k p) (sym places) (subst (StandsAt bytes b) (sym pieces) stands)

pub place_of : (m : MachineState) (granules : List Granule) (n : ℕ) → granules ≡ m.state.granules → n ≡ length granules → 13 + 21 * n ≡ 13 + 21 * length m.state.granules
place_of m granules n are count = omega (arith, count, ap (λ (xs : List Granule). length xs) are)

-- The length of a room for as many pages.
pub room_of : (m : MachineState) (granules : List Granule) (pages long : ℕ) → HasInvariant m → granules ≡ m.state.granules → 256 * pages ≡ length granules → long ≡ text_length pages → long ≡ text_length (length m.dirty)
room_of m granules pages long whole are count is = omega (arith, is, count, ap (λ (xs : List Granule). length xs) are, whole.pages)
