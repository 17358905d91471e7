-- Two machines with one text have one state.
use Rattle.std.proofs.Common.{◌≡◌, ◌∙◌, ◌<◌, ◌≤◌, ◌+◌, ◌*◌, ◌%◌, ◌^◌, ◌==◌, inl, inr, ℕ, Bool, false, List, [], ◌∷◌, length, get_or, refl, sym, ap, eq-eqb, arith}
use Rattle.std.specs.Prelude.{All, nat_le}
use Rattle.std.proofs.lemmas.Bool.{and_parts, cases_eq, ne_eqb}
use Rattle.std.proofs.lemmas.Bool.Decides.{nat_tests}
use Rattle.std.proofs.lemmas.List.{ext_get_or}
use Rattle.std.proofs.lemmas.List.Elements.{All-head, All-tail}
use Rattle.heap_model.specs.Blocks.{Span, start_of}
use Rattle.heap_model.specs.Heap.{HeapState, IsInside}
use Rattle.heap_machine.specs.Storage.{MachineState}
use Rattle.tag_memory.specs.Cells.{Cell, null_cell, register_at}
use Rattle.heap_model.specs.Found.{blocks_in}
use Rattle.heap_model.specs.declared.block.Kind.{Kind}
use Rattle.heap_model.specs.declared.block.Kind.TheVariants.{Live, Painted, Waiting}
use Rattle.state_bytes.specs.State.{IsSameState, HasInvariant}
use Rattle.state_bytes.specs.Text.{dirty_text, granule_text, head_text, kind_number, length_told, memory_text, register_text, starts_in, text_of, texts_below}
use Rattle.state_bytes.proofs.NumberLaws.{length_of_number, number_limit}
use Rattle.state_bytes.proofs.SameBlocks.{blocks_by_granules}
use Rattle.state_bytes.proofs.SameTexts.{AreSameAt, AreShort, append_both, dirty_same, granule_same, head_same, length_dirty, length_granule, length_head, length_register, register_same, texts_length, texts_same}

starts_limit : (s : HeapState) (blocks : List Span) (a : ℕ) → All (IsInside s) blocks → starts_in blocks a ≤ s.size
starts_limit s [] a inside = omega arith
starts_limit s (b ∷ blocks) a inside =
    let here = All-head (IsInside s) b blocks inside in
    elim (cases_eq (start_of b) a) [
      | inl same ↦ rw (eq-eqb (start_of b) a same) (omega (arith, here.from, here.end))
      | inr other ↦ rw (ne_eqb (start_of b) a other) (starts_limit s blocks a (All-tail (IsInside s) b blocks inside))
    ]

-- How large a machine is.
pub record AreSizes (m : MachineState) : Type 0 where
  pub base : m.state.heap.base < 256 ^ 8
  pub even : m.state.heap.base % 16 ≡ 0
  pub size : m.state.heap.size ≤ 2 ^ 22
  pub pages : length m.dirty < 256 ^ 4
  pub granules : 16 * length m.state.granules ≡ m.state.heap.size
  pub count : length m.state.granules ≡ 256 * length m.dirty

pub sizes_of : (m : MachineState) → HasInvariant m → AreSizes m
sizes_of m e =
    let sound = e.sound.safe.heap in
    let size = and_parts (nat_le 1 sound.pages) (nat_le sound.pages 1024) sound.size in
    let least : 1 ≤ sound.pages = grind (arith, nat_tests, size.0) in
    let most : sound.pages ≤ 1024 = grind (arith, nat_tests, size.1) in
    let place = and_parts (m.state.heap.base % 4096 == 0) (nat_le (m.state.heap.base + 4096 * sound.pages) (2 ^ 64)) sound.place in
    let whole : m.state.heap.base % 4096 ≡ 0 = grind (arith, nat_tests, place.0) in
    let end : m.state.heap.base + 4096 * sound.pages ≤ 2 ^ 64 = grind (arith, nat_tests, place.1) in
    record {
      base = omega (arith, end, least);
      even = omega (arith, whole);
      size = omega (arith, most, sound.bytes);
      pages = omega (arith, most, sound.bytes, e.sound.granules, e.pages);
      granules = e.sound.granules;
      count = e.pages;
    }

pub short_of : (m : MachineState) → HasInvariant m → AreShort m.state.heap
short_of m e =
    let sound = e.sound.safe.heap in
    let size = (sizes_of m e).size in
    λ a. omega (
      arith,
      number_limit m.state.heap a m.state.heap.size (starts_limit m.state.heap m.state.heap.live a sound.live_inside) (starts_limit m.state.heap m.state.heap.waiting a sound.waiting_inside)
          (starts_limit m.state.heap m.state.heap.painted a sound.painted_inside),
      size,
    )

pub register_other : (xs : List Cell) (r : ℕ) → (r ≡ 0 → ⊥) → register_at xs r ≡ get_or xs r null_cell
register_other xs r other = rw (ne_eqb r 0 other) refl

pub register_fits : (xs : List Cell) (r : ℕ) → r < length xs → All (λ cell. cell.0.bits < 2 ^ 128) xs → (register_at xs r).0.bits < 256 ^ 16
register_fits xs r lt fits =
    elim (cases_eq r 0) [
      | inl is ↦ rw (eq-eqb r 0 is) (omega arith)
      | inr other ↦ rw (ne_eqb r 0 other) (fits r null_cell lt)
    ]

-- ---- the parts

length_memory : (m n : MachineState) → length m.state.granules ≡ length n.state.granules → length (memory_text m.state.heap m.state.granules) ≡ length (memory_text n.state.heap n.state.granules)
unfolding memory_text
length_memory m n count =
    texts_length (λ i. granule_text m.state.heap i (get_or m.state.granules i (0, false))) (λ i. granule_text n.state.heap i (get_or n.state.granules i (0, false))) (length m.state.granules)
    (λ i. length_granule m.state.heap i _ ∙ sym (length_granule n.state.heap i _))
    ∙ ap (λ (k : ℕ). length (texts_below (λ i. granule_text n.state.heap i (get_or n.state.granules i (0, false))) k)) count

memory_same : (m n : MachineState) → HasInvariant m → HasInvariant n → length m.state.granules ≡ length n.state.granules
    → memory_text m.state.heap m.state.granules ≡ memory_text n.state.heap n.state.granules
    → (i : ℕ) → i < length m.state.granules → AreSameAt m.state.heap n.state.heap i (get_or m.state.granules i (0, false)) (get_or n.state.granules i (0, false))
unfolding memory_text
memory_same m n em en count e i lt =
    let f = λ (i : ℕ). granule_text m.state.heap i (get_or m.state.granules i (0, false)) in
    let g = λ (i : ℕ). granule_text n.state.heap i (get_or n.state.granules i (0, false)) in
    granule_same m.state.heap n.state.heap i (get_or m.state.granules i (0, false)) (get_or n.state.granules i (0, false)) (short_of m em) (short_of n en)
    (em.granules i (0, false) lt) (en.granules i (0, false) (omega (arith, lt, count)))
    (texts_same f g (length m.state.granules) (λ i. length_granule m.state.heap i _ ∙ sym (length_granule n.state.heap i _)) (e ∙ ap (texts_below g) (sym count)) i lt)

registers_same : (m n : MachineState) → HasInvariant m → HasInvariant n → texts_below (register_text m.state.registers) 32 ≡ texts_below (register_text n.state.registers) 32
    → m.state.registers ≡ n.state.registers
registers_same m n em en e =
    let xs = m.state.registers in
    let ys = n.state.registers in
    ext_get_or null_cell m.state.registers n.state.registers (em.sound.count ∙ sym en.sound.count)
    (λ k lt.
    let in_x : k < 32 = omega (arith, lt, em.sound.count) in
    let in_y : k < length n.state.registers = omega (arith, in_x, en.sound.count) in
    elim (cases_eq k 0) [
      | inl is ↦ ap (λ (i : ℕ). get_or m.state.registers i null_cell) is ∙ (em.sound.zero ∙ (sym en.sound.zero ∙ ap (λ (i : ℕ). get_or n.state.registers i null_cell) (sym is)))
      | inr other ↦
          let texts = texts_same (register_text m.state.registers) (register_text n.state.registers) 32 (λ r. length_register m.state.registers r ∙ sym (length_register n.state.registers r)) e k in_x in
          let granules = register_same m.state.registers n.state.registers k (register_fits m.state.registers k lt em.registers) (register_fits n.state.registers k in_y en.registers) texts in
          sym (register_other m.state.registers k other) ∙ (granules ∙ register_other n.state.registers k other)
    ])

dirty_all : (xs ys : List Bool) → length xs ≡ length ys → texts_below (dirty_text xs) (length xs) ≡ texts_below (dirty_text ys) (length ys) → xs ≡ ys
dirty_all xs ys count e =
    ext_get_or false xs ys count
    (λ k lt. dirty_same xs ys k (texts_same (dirty_text xs) (dirty_text ys) (length xs) (λ p. length_dirty xs p ∙ sym (length_dirty ys p)) (e ∙ ap (texts_below (dirty_text ys)) (sym count)) k lt))

-- Blocks of one kind, where the granules have the same numbers.
kind_same : (m n : MachineState) (kind : Kind) (i : ℕ) → HasInvariant m → HasInvariant n
    → AreSameAt m.state.heap n.state.heap i (get_or m.state.granules i (0, false)) (get_or n.state.granules i (0, false))
    → starts_in (blocks_in m.state.heap kind) (m.state.heap.base + 16 * i) ≡ starts_in (blocks_in n.state.heap kind) (n.state.heap.base + 16 * i)
kind_same m n kind i em en same =
    sym (length_of_number m.state.heap (m.state.heap.base + 16 * i) kind em.sound.safe.heap)
    ∙ (ap (length_told (kind_number kind)) same.number ∙ length_of_number n.state.heap (n.state.heap.base + 16 * i) kind en.sound.safe.heap)

pub one_text : (m n : MachineState) → HasInvariant m → HasInvariant n → text_of m ≡ text_of n → IsSameState m n
one_text m n em en e =
    let sm = sizes_of m em in
    let sn = sizes_of n en in
    let hm = m.state.heap in
    let hn = n.state.heap in
    let om = em.sound.safe.heap in
    let on = en.sound.safe.heap in
    let one = append_both (head_text m.state.heap.base (length m.dirty) m.state.heap.is_open) (head_text n.state.heap.base (length n.dirty) n.state.heap.is_open) _ _
    (length_head m.state.heap.base (length m.dirty) m.state.heap.is_open ∙ sym (length_head n.state.heap.base (length n.dirty) n.state.heap.is_open)) e in
    let head = head_same m.state.heap.base (length m.dirty) n.state.heap.base (length n.dirty) m.state.heap.is_open n.state.heap.is_open sm.base sn.base sm.pages sn.pages one.0 in
    let count : length m.state.granules ≡ length n.state.granules = omega (arith, sm.count, sn.count, head.1) in
    let two = append_both (memory_text m.state.heap m.state.granules) (memory_text n.state.heap n.state.granules) _ _ (length_memory m n count) one.1 in
    let three = append_both (texts_below (register_text m.state.registers) 32) (texts_below (register_text n.state.registers) 32) _ _
    (texts_length (register_text m.state.registers) (register_text n.state.registers) 32 (λ r. length_register m.state.registers r ∙ sym (length_register n.state.registers r))) two.1 in
    let same = memory_same m n em en count two.0 in
    let k = length m.state.granules in
    let whole : 16 * length m.state.granules ≡ n.state.heap.size = omega (arith, count, sn.granules) in
    let size : m.state.heap.size ≡ n.state.heap.size = omega (arith, sm.granules, whole) in
    let live : m.state.heap.live ≡ n.state.heap.live = blocks_by_granules m.state.heap n.state.heap (length m.state.granules) _ _ sm.even head.0 sm.granules whole om.live_inside on.live_inside om.live_order on.live_order (λ i lt. kind_same m n Live i em en (same i lt)) in
    let waiting : m.state.heap.waiting ≡ n.state.heap.waiting = blocks_by_granules m.state.heap n.state.heap (length m.state.granules) _ _ sm.even head.0 sm.granules whole om.waiting_inside on.waiting_inside om.waiting_order on.waiting_order (λ i lt. kind_same m n Waiting i em en (same i lt)) in
    let painted : m.state.heap.painted ≡ n.state.heap.painted = blocks_by_granules m.state.heap n.state.heap (length m.state.granules) _ _ sm.even head.0 sm.granules whole om.painted_inside on.painted_inside om.painted_order on.painted_order (λ i lt. kind_same m n Painted i em en (same i lt)) in
    let granules : m.state.granules ≡ n.state.granules = ext_get_or (0, false) m.state.granules n.state.granules count (λ i lt. (same i lt).granule) in
    let registers = registers_same m n em en three.0 in
    let dirty = dirty_all m.dirty n.dirty head.1 three.1 in (
      λ i. record {
        heap = record { base = head.0 i; size = size i; live = live i; waiting = waiting i; painted = painted i; is_open = head.2 i };
        granules = granules i;
        registers = registers i;
      },
      dirty,
    )

pub same_text : (m n : MachineState) → IsSameState m n → text_of m ≡ text_of n
same_text m n same = λ i. text_of (record { state = same.0 i; dirty = same.1 i; cutting = m.cutting })
