-- What stands where in the text of a machine.
use Rattle.std.proofs.Common.{◌≡◌, ◌∙◌, ◌<◌, ◌≤◌, ◌+◌, ◌*◌, ◌^◌, ◌==◌, inl, inr, ℕ, zero, suc, Bool, true, false, List, [], ◌∷◌, ◌++◌, length, get_or, set, drop, if◌then◌else◌, refl, sym, ap, eq-eqb, append_assoc, length-append, length-set, arith}
use Rattle.std.proofs.lemmas.Bool.{cases_eq, cases_lt, ne_eqb}
use Rattle.std.proofs.lemmas.List.{drop-drop, append-nil, drop_at, ext_get_or, get_or-set_other}
use Rattle.std.proofs.lemmas.Grind.{get_or-set_at}
use Rattle.byteorder.specs.Endian.{little_bytes, little_number}
use Rattle.byteorder.specs.Numbers.{little_number-reads_back}
use Rattle.heap_machine.specs.Storage.{MachineState}
use Rattle.tag_memory.specs.Cells.{Cell, Granule, AreRegisters, is_dirty_at, null_cell, register_at, registers_with}
use Rattle.state_bytes.specs.Reading.{IsReadAt}
use Rattle.state_bytes.specs.State.{HasInvariant}
use Rattle.state_bytes.specs.Writing.{StandsAt}
use Rattle.state_bytes.specs.Text.{block_number, dirty_text, flag_byte, granule_text, head_text, kind_number, length_told, memory_text, register_text, starts_in, text_length, text_of, texts_below}
use Rattle.state_bytes.proofs.NumberLaws.{length_of_number}
use Rattle.state_bytes.proofs.StandingLaws.{flag_standing}
use Rattle.heap_model.specs.Found.{blocks_in}
use Rattle.heap_model.specs.declared.block.Kind.{Kind}
use Rattle.state_bytes.proofs.OneText.{register_fits, register_other, short_of, sizes_of}
use Rattle.state_bytes.proofs.SameTexts.{length_dirty, length_granule, length_head, length_little, length_register}

abbrev pub offset : ℕ → ℕ → ℕ
offset w zero = 0
offset w (suc n) = offset w n + w

pub texts_long : (f : ℕ → List ℕ) (w n : ℕ) → ((k : ℕ) → length (f k) ≡ w) → length (texts_below f n) ≡ offset w n
unfolding texts_below
texts_long f w zero each = refl
texts_long f w (suc n) each = omega (arith, length-append (texts_below f n) (f n), texts_long f w n each, each n)

texts_at : (f : ℕ → List ℕ) (w n i : ℕ) (tail : List ℕ) → ((k : ℕ) → length (f k) ≡ w) → i < n → StandsAt (texts_below f n ++ tail) (offset w i) (f i)
unfolding texts_below
texts_at f w zero i tail each lt = absurd (omega arith)
texts_at f w (suc n) i tail each lt =
    elim (cases_lt i n) [
      | inl less ↦
          let x = texts_at f w n i (f n ++ tail) each less in
          record { rest = x.rest; is = ap (drop (offset w i)) (append_assoc (texts_below f n) (f n) tail) ∙ x.is }
      | inr le ↦
          let is : i ≡ n = omega arith in
          record {
            rest = tail;
            is = ap (λ (k : ℕ). drop (offset w k) ((texts_below f n ++ f n) ++ tail)) is
                ∙ (ap (drop (offset w n)) (append_assoc (texts_below f n) (f n) tail)
                ∙ (drop_at (texts_below f n) (f n ++ tail) (offset w n) (texts_long f w n each) ∙ ap (λ (k : ℕ). f k ++ tail) (sym is)));
          }
    ]

pub offset_is_21 : (i : ℕ) → offset 21 i ≡ 21 * i
offset_is_21 zero = refl
offset_is_21 (suc i) = omega (arith, offset_is_21 i)

pub offset_is_17 : (i : ℕ) → offset 17 i ≡ 17 * i
offset_is_17 zero = refl
offset_is_17 (suc i) = omega (arith, offset_is_17 i)

pub offset_is_1 : (i : ℕ) → offset 1 i ≡ i
offset_is_1 zero = refl
offset_is_1 (suc i) = omega (arith, offset_is_1 i)

-- What stands behind a part.
behind : (part rest piece : List ℕ) (n at : ℕ) → length part ≡ n → StandsAt rest at piece → StandsAt (part ++ rest) (n + at) piece
behind part rest piece n at long stands = record {
  rest = stands.rest;
  is = sym (drop-drop at n (part ++ rest)) ∙ (ap (drop at) (drop_at part rest n long) ∙ stands.is);
}

-- A granule stands in the text.
pub granule_at : (m : MachineState) (i : ℕ) → i < length m.state.granules → StandsAt (text_of m) (13 + 21 * i) (granule_text m.state.heap i (get_or m.state.granules i (0, false)))
unfolding memory_text
granule_at m i lt =
    let f = λ (k : ℕ). granule_text m.state.heap k (get_or m.state.granules k (0, false)) in
    let inner = texts_at f 21 (length m.state.granules) i (texts_below (register_text m.state.registers) 32 ++ texts_below (dirty_text m.dirty) (length m.dirty)) (λ k. length_granule m.state.heap k _) lt in
    let here = behind (head_text m.state.heap.base (length m.dirty) m.state.heap.is_open) _ _ 13 (offset 21 i) (length_head m.state.heap.base (length m.dirty) m.state.heap.is_open) inner in
    record { rest = here.rest; is = ap (λ (k : ℕ). drop (13 + k) (text_of m)) (sym (offset_is_21 i)) ∙ here.is }

-- A number that stands at a place is read there.
pub number_at : (bytes tail : List ℕ) (at n x : ℕ) → x < 256 ^ n → StandsAt bytes at (little_bytes n x ++ tail) → little_number n (drop at bytes) ≡ x
number_at bytes tail at n x fits stands =
    ap (little_number n) (stands.is ∙ append_assoc (little_bytes n x) tail stands.rest) ∙ little_number-reads_back n x (tail ++ stands.rest) fits

-- A flag behind a part that stands at a place is read there.
pub flag_at : (bytes part tail : List ℕ) (at n : ℕ) (flag : Bool) → length part ≡ n → StandsAt bytes at (part ++ ((flag_byte flag ∷ []) ++ tail)) → (get_or bytes (at + n) 0 == 1) ≡ flag
flag_at bytes part tail at n flag long stands =
    let next : drop n (drop at bytes) ≡ flag_byte flag ∷ (tail ++ stands.rest) =
    ap (drop n) (stands.is ∙ append_assoc part ((flag_byte flag ∷ []) ++ tail) stands.rest) ∙ drop_at part (((flag_byte flag ∷ []) ++ tail) ++ stands.rest) n long in
    let here = flag_standing bytes (at + n) flag (record { rest = tail ++ stands.rest; is = sym (drop-drop n at bytes) ∙ next }) in
    ap (λ (x : ℕ). x == 1) here ∙ byte_flag flag where
      byte_flag : (b : Bool) → (flag_byte b == 1) ≡ b
      byte_flag true = refl
      byte_flag false = refl

-- So a granule's bytes and its tag are read.
pub granule_read : (m : MachineState) (bytes : List ℕ) (i : ℕ) → HasInvariant m → text_of m ≡ bytes → i < length m.state.granules → IsReadAt bytes i (get_or m.state.granules i (0, false))
unfolding granule_text
granule_read m bytes i e text lt =
    let g = get_or m.state.granules i (0, false) in
    let stands = granule_at m i lt in
    let here = λ (b : ℕ). stands in
    record {
      bits = ap (λ (l : List ℕ). little_number 16 (drop (13 + 21 * i) l)) (sym text) ∙ number_at (text_of m) _ (13 + 21 * i) 16 (get_or m.state.granules i (0, false)).0 (e.granules i (0, false) lt) stands;
      tag = ap (λ (l : List ℕ). get_or l (13 + 21 * i + 16) 0 == 1) (sym text)
          ∙ flag_at (text_of m) (little_bytes 16 (get_or m.state.granules i (0, false)).0) _ (13 + 21 * i) 16 (get_or m.state.granules i (0, false)).1 (length_little 16 (get_or m.state.granules i (0, false)).0) stands;
    }

-- One granule is read there.
pub read_same : (bytes : List ℕ) (i : ℕ) (g h : Granule) → IsReadAt bytes i g → IsReadAt bytes i h → g ≡ h
read_same bytes i g h one other =
    let bits = sym one.bits ∙ other.bits in
    let tag = sym one.tag ∙ other.tag in
    λ j. (bits j, tag j)

-- One granule more is read.
pub reads_more : (bytes : List ℕ) (granules : List Granule) (i bits : ℕ) (tag : Bool) → i < length granules → IsReadAt bytes i (bits, tag)
    → ((k : ℕ) → k < i → IsReadAt bytes k (get_or granules k (0, false)))
    → (k : ℕ) → k < i + 1 → IsReadAt bytes k (get_or (set granules i (bits, tag)) k (0, false))
reads_more bytes granules i bits tag lt read before k less =
    elim (cases_eq k i) [
      | inl same ↦ rw (get_or-set_at granules i k (bits, tag) (0, false) same lt) (rw same read)
      | inr other ↦ rw (get_or-set_other granules i k (bits, tag) (0, false) other) (before k (omega (arith, less, other)))
    ]

later : (bytes part piece : List ℕ) (at n : ℕ) → length part ≡ n → StandsAt bytes at (part ++ piece) → StandsAt bytes (at + n) piece
later bytes part piece at n long stands = record {
  rest = stands.rest;
  is = sym (drop-drop n at bytes) ∙ (ap (drop n) (stands.is ∙ append_assoc part piece stands.rest) ∙ drop_at part (piece ++ stands.rest) n long);
}

-- The number of a block is read.
number_read : (m : MachineState) (i : ℕ) → HasInvariant m → i < length m.state.granules
    → little_number 4 (drop (13 + 21 * i + 17) (text_of m)) ≡ block_number m.state.heap (m.state.heap.base + 16 * i)
unfolding granule_text
number_read m i e lt =
    let stands = granule_at m i lt in
    let one = later (text_of m) (little_bytes 16 (get_or m.state.granules i (0, false)).0) _ (13 + 21 * i) 16 (length_little 16 (get_or m.state.granules i (0, false)).0) stands in
    let two = later (text_of m) (flag_byte (get_or m.state.granules i (0, false)).1 ∷ []) _ (13 + 21 * i + 16) 1 refl one in
    ap (λ (p : ℕ). little_number 4 (drop p (text_of m))) (omega arith)
    ∙ (ap (λ (l : List ℕ). little_number 4 l) two.is
    ∙ little_number-reads_back 4 (block_number m.state.heap (m.state.heap.base + 16 * i)) two.rest (short_of m e (m.state.heap.base + 16 * i)))

-- So the length of a block is.
pub length_read : (m : MachineState) (bytes : List ℕ) (i : ℕ) (kind : Kind) → HasInvariant m → text_of m ≡ bytes → i < length m.state.granules
    → length_told (kind_number kind) (little_number 4 (drop (13 + 21 * i + 17) bytes)) ≡ starts_in (blocks_in m.state.heap kind) (m.state.heap.base + 16 * i)
length_read m bytes i kind e text lt =
    ap (λ (l : List ℕ). length_told (kind_number kind) (little_number 4 (drop (13 + 21 * i + 17) l))) (sym text)
    ∙ (ap (length_told (kind_number kind)) (number_read m i e lt) ∙ length_of_number m.state.heap (m.state.heap.base + 16 * i) kind e.sound.safe.heap)

-- ---- registers

memory_long : (m : MachineState) → length (memory_text m.state.heap m.state.granules) ≡ 21 * length m.state.granules
unfolding memory_text
memory_long m =
    texts_long (λ k. granule_text m.state.heap k (get_or m.state.granules k (0, false))) 21 (length m.state.granules) (λ k. length_granule m.state.heap k _) ∙ offset_is_21 (length m.state.granules)

pub register_stands : (m : MachineState) (r : ℕ) → r < 32 → StandsAt (text_of m) (13 + (21 * length m.state.granules + 17 * r)) (register_text m.state.registers r)
register_stands m r lt =
    let inner = texts_at (register_text m.state.registers) 17 32 r (texts_below (dirty_text m.dirty) (length m.dirty)) (λ k. length_register m.state.registers k) lt in
    let memory = behind (memory_text m.state.heap m.state.granules) _ _ (21 * length m.state.granules) (offset 17 r) (memory_long m) inner in
    let here = behind (head_text m.state.heap.base (length m.dirty) m.state.heap.is_open) _ _ 13 (21 * length m.state.granules + offset 17 r) (length_head m.state.heap.base (length m.dirty) m.state.heap.is_open) memory in
    record { rest = here.rest; is = ap (λ (k : ℕ). drop (13 + (21 * length m.state.granules + k)) (text_of m)) (sym (offset_is_17 r)) ∙ here.is }

pub record IsRegisterAt (bytes : List ℕ) (at : ℕ) (cell : Cell) : Type 0 where
  pub bits : little_number 16 (drop at bytes) ≡ cell.0.bits
  pub tag : (get_or bytes (at + 16) 0 == 1) ≡ cell.1

pub register_read : (m : MachineState) (bytes : List ℕ) (r at : ℕ) → HasInvariant m → text_of m ≡ bytes → r < 32 → at ≡ 13 + (21 * length m.state.granules + 17 * r)
    → IsRegisterAt bytes at (register_at m.state.registers r)
unfolding register_text
register_read m bytes r at e text lt at_is =
    let stands = register_stands m r lt in
    let p = 13 + (21 * length m.state.granules + 17 * r) in
    let fits = register_fits m.state.registers r (omega (arith, lt, e.sound.count)) e.registers in
    record {
      bits = (λ i. little_number 16 (drop (at_is i) (sym text i))) ∙ number_at (text_of m) _ (13 + (21 * length m.state.granules + 17 * r)) 16 (register_at m.state.registers r).0.bits fits stands;
      tag = (λ i. get_or (sym text i) (at_is i + 16) 0 == 1)
          ∙ flag_at (text_of m) (little_bytes 16 (register_at m.state.registers r).0.bits) [] (13 + (21 * length m.state.granules + 17 * r)) 16 (register_at m.state.registers r).1 (length_little 16 (register_at m.state.registers r).0.bits) stands;
    }

-- One register more is the machine's.
pub registers_more : (m : MachineState) (bytes : List ℕ) (xs : List Cell) (r rows bits : ℕ) (tag : Bool) → HasInvariant m → text_of m ≡ bytes → r < 32 → length xs ≡ 32
    → rows ≡ 13 + 21 * length m.state.granules → bits ≡ little_number 16 (drop (rows + 17 * r) bytes) → tag ≡ (get_or bytes (rows + 17 * r + 16) 0 == 1)
    → ((k : ℕ) → k < r → register_at xs k ≡ register_at m.state.registers k)
    → (k : ℕ) → k < r + 1 → register_at (registers_with xs r (record { bits = bits }, tag)) k ≡ register_at m.state.registers k
registers_more m bytes xs r rows bits tag e text lt count rows_is bits_is tag_is before k less =
    let read = register_read m bytes r (rows + 17 * r) e text lt (omega (arith, rows_is)) in
    elim (cases_eq k 0) [
      | inl first ↦ rw (eq-eqb k 0 first) refl
      | inr other ↦ elim (cases_eq k r) [
        | inl same ↦
            let nonzero : r ≡ 0 → ⊥ = λ z. other (same ∙ z) in
            let one = bits_is ∙ read.bits in
            let two = tag_is ∙ read.tag in
            let cell : (record { bits = bits }, tag) ≡ register_at m.state.registers r = λ j. (record { bits = one j }, two j) in
            rw (ne_eqb r 0 nonzero) (register_other (set xs r (record { bits = bits }, tag)) k other ∙ (get_or-set_at xs r k (record { bits = bits }, tag) null_cell same (omega (arith, lt, count)) ∙ (cell ∙ ap (register_at m.state.registers) (sym same))))
        | inr apart ↦
            let old = before k (omega (arith, less, apart)) in
            elim (cases_eq r 0) [
              | inl z ↦ rw (eq-eqb r 0 z) old
              | inr nonzero ↦ rw (ne_eqb r 0 nonzero) (register_other (set xs r (record { bits = bits }, tag)) k other ∙ (get_or-set_other xs r k (record { bits = bits }, tag) null_cell apart ∙ (sym (register_other xs k other) ∙ old)))
            ]
      ]
    ]

pub length-registers_with : (xs : List Cell) (r : ℕ) (cell : Cell) → length (registers_with xs r cell) ≡ length xs
length-registers_with xs r cell =
    elim (cases_eq r 0) [
      | inl z ↦ rw (eq-eqb r 0 z) refl
      | inr nonzero ↦ rw (ne_eqb r 0 nonzero) (length-set xs r cell)
    ]

pub registers_all : (m : MachineState) (xs : List Cell) → HasInvariant m → AreRegisters xs → ((k : ℕ) → k < 32 → register_at xs k ≡ register_at m.state.registers k) → xs ≡ m.state.registers
registers_all m xs e are each =
    ext_get_or null_cell xs m.state.registers (are.count ∙ sym e.sound.count)
    (λ k lt.
    elim (cases_eq k 0) [
      | inl z ↦ ap (λ (i : ℕ). get_or xs i null_cell) z ∙ (are.zero ∙ (sym e.sound.zero ∙ ap (λ (i : ℕ). get_or m.state.registers i null_cell) (sym z)))
      | inr other ↦ sym (register_other xs k other) ∙ (each k (omega (arith, lt, are.count)) ∙ register_other m.state.registers k other)
    ])

-- ---- dirty pages

dirty_stands : (m : MachineState) (page : ℕ) → page < length m.dirty → StandsAt (text_of m) (13 + (21 * length m.state.granules + (17 * 32 + page))) (dirty_text m.dirty page)
dirty_stands m page lt =
    let stands = texts_at (dirty_text m.dirty) 1 (length m.dirty) page [] (λ k. length_dirty m.dirty k) lt in
    let inner : StandsAt (texts_below (dirty_text m.dirty) (length m.dirty)) (offset 1 page) (dirty_text m.dirty page) =
    record { rest = stands.rest; is = ap (drop (offset 1 page)) (sym (append-nil (texts_below (dirty_text m.dirty) (length m.dirty)))) ∙ stands.is } in
    let long : length (texts_below (register_text m.state.registers) 32) ≡ 17 * 32 = texts_long (register_text m.state.registers) 17 32 (λ k. length_register m.state.registers k) ∙ offset_is_17 32 in
    let registers = behind (texts_below (register_text m.state.registers) 32) _ _ (17 * 32) (offset 1 page) long inner in
    let memory = behind (memory_text m.state.heap m.state.granules) _ _ (21 * length m.state.granules) (17 * 32 + offset 1 page) (memory_long m) registers in
    let here = behind (head_text m.state.heap.base (length m.dirty) m.state.heap.is_open) _ _ 13 (21 * length m.state.granules + (17 * 32 + offset 1 page)) (length_head m.state.heap.base (length m.dirty) m.state.heap.is_open) memory in
    record { rest = here.rest; is = ap (λ (k : ℕ). drop (13 + (21 * length m.state.granules + (17 * 32 + k))) (text_of m)) (sym (offset_is_1 page)) ∙ here.is }

-- A page's mark is read.
dirty_read : (m : MachineState) (bytes : List ℕ) (page at : ℕ) → HasInvariant m → text_of m ≡ bytes → page < length m.dirty → at ≡ 557 + 5376 * length m.dirty + page
    → (get_or bytes at 0 == 1) ≡ is_dirty_at m.dirty page
unfolding dirty_text
dirty_read m bytes page at e text lt at_is =
    let same : at ≡ 13 + (21 * length m.state.granules + (17 * 32 + page)) + 0 = omega (arith, at_is, e.pages) in
    (λ i. get_or (sym text i) (same i) 0 == 1)
    ∙ flag_at (text_of m) [] [] (13 + (21 * length m.state.granules + (17 * 32 + page))) 0 (is_dirty_at m.dirty page) refl (dirty_stands m page lt)

-- One page more is the machine's.
pub marks_more : (m : MachineState) (bytes : List ℕ) (now new : List Bool) (page start : ℕ) (flag : Bool) → HasInvariant m → text_of m ≡ bytes → length m.dirty ≡ length now → page < length now
    → start ≡ 557 + 5376 * length m.dirty → flag ≡ (get_or bytes (start + page) 0 == 1)
    → new ≡ (if flag then set now page true else now)
    → ((k : ℕ) → k < page → is_dirty_at now k ≡ is_dirty_at m.dirty k) → ((k : ℕ) → page ≤ k → is_dirty_at now k ≡ false)
    → (k : ℕ) → k < page + 1 → is_dirty_at new k ≡ is_dirty_at m.dirty k
marks_more m bytes now new page start flag e text count lt start_is flag_is new_is before after k less =
    let mark : flag ≡ is_dirty_at m.dirty page = flag_is ∙ dirty_read m bytes page (start + page) e text (omega (arith, lt, count)) (omega (arith, start_is)) in
    ap (λ (l : List Bool). is_dirty_at l k) new_is ∙ here flag mark where
      here : (b : Bool) → b ≡ is_dirty_at m.dirty page → is_dirty_at (if b then set now page true else now) k ≡ is_dirty_at m.dirty k
      here true is =
          elim (cases_eq k page) [
            | inl same ↦ get_or-set_at now page k true false same lt ∙ (is ∙ ap (is_dirty_at m.dirty) (sym same))
            | inr other ↦ get_or-set_other now page k true false other ∙ before k (omega (arith, less, other))
          ]
      here false is =
          elim (cases_eq k page) [
            | inl same ↦ after k (omega (arith, same)) ∙ (is ∙ ap (is_dirty_at m.dirty) (sym same))
            | inr other ↦ before k (omega (arith, less, other))
          ]

-- The pages behind it are clean still.
pub marks_rest : (now new : List Bool) (page : ℕ) (flag : Bool) → new ≡ (if flag then set now page true else now) → ((k : ℕ) → page ≤ k → is_dirty_at now k ≡ false)
    → (k : ℕ) → page + 1 ≤ k → is_dirty_at new k ≡ false
marks_rest now new page flag new_is after k past = ap (λ (l : List Bool). is_dirty_at l k) new_is ∙ here flag where
  here : (b : Bool) → is_dirty_at (if b then set now page true else now) k ≡ false
  here true = get_or-set_other now page k true false (λ e. omega (arith, e, past)) ∙ after k (omega (arith, past))
  here false = after k (omega (arith, past))

pub marks_count : (now new : List Bool) (page : ℕ) (flag : Bool) → new ≡ (if flag then set now page true else now) → length new ≡ length now
marks_count now new page flag new_is = ap (λ (l : List Bool). length l) new_is ∙ here flag where
  here : (b : Bool) → length (if b then set now page true else now) ≡ length now
  here true = length-set now page true
  here false = refl

-- ---- the head, and how long all is

pub text_long : (m : MachineState) → HasInvariant m → length (text_of m) ≡ text_length (length m.dirty)
text_long m e =
    let registers : length (texts_below (register_text m.state.registers) 32) ≡ 17 * 32 = texts_long (register_text m.state.registers) 17 32 (λ k. length_register m.state.registers k) ∙ offset_is_17 32 in
    let dirty : length (texts_below (dirty_text m.dirty) (length m.dirty)) ≡ length m.dirty = texts_long (dirty_text m.dirty) 1 (length m.dirty) (λ k. length_dirty m.dirty k) ∙ offset_is_1 (length m.dirty) in
    let head = length_head m.state.heap.base (length m.dirty) m.state.heap.is_open in
    let one = length-append (head_text m.state.heap.base (length m.dirty) m.state.heap.is_open) (memory_text m.state.heap m.state.granules ++ (texts_below (register_text m.state.registers) 32 ++ texts_below (dirty_text m.dirty) (length m.dirty))) in
    let two = length-append (memory_text m.state.heap m.state.granules) (texts_below (register_text m.state.registers) 32 ++ texts_below (dirty_text m.dirty) (length m.dirty)) in
    let three = length-append (texts_below (register_text m.state.registers) 32) (texts_below (dirty_text m.dirty) (length m.dirty)) in
    omega (arith, one, two, three, head, memory_long m, registers, dirty, e.pages)

-- What the head's bytes are.
pub record HasHeadBytes (m : MachineState) (bytes : List ℕ) : Type 0 where
  pub base : little_number 8 bytes ≡ m.state.heap.base
  pub pages : little_number 4 (drop 8 bytes) ≡ length m.dirty
  pub open_is : (get_or bytes 12 0 == 1) ≡ m.state.heap.is_open

pub head_read : (m : MachineState) (bytes : List ℕ) → HasInvariant m → text_of m ≡ bytes → HasHeadBytes m bytes
unfolding head_text
head_read m bytes e text =
    let sizes = sizes_of m e in
    let rest = memory_text m.state.heap m.state.granules ++ (texts_below (register_text m.state.registers) 32 ++ texts_below (dirty_text m.dirty) (length m.dirty)) in
    let base = little_bytes 8 m.state.heap.base in
    let pages = little_bytes 4 (length m.dirty) in
    let flag = flag_byte m.state.heap.is_open ∷ [] in
    let whole : StandsAt (text_of m) 0 (little_bytes 8 m.state.heap.base ++ (little_bytes 4 (length m.dirty) ++ (flag_byte m.state.heap.is_open ∷ []))) =
    record { rest = memory_text m.state.heap m.state.granules ++ (texts_below (register_text m.state.registers) 32 ++ texts_below (dirty_text m.dirty) (length m.dirty)); is = refl } in
    let after = later (text_of m) (little_bytes 8 m.state.heap.base) (little_bytes 4 (length m.dirty) ++ (flag_byte m.state.heap.is_open ∷ [])) 0 8 (length_little 8 m.state.heap.base) whole in
    record {
      base = ap (little_number 8) (sym text) ∙ number_at (text_of m) _ 0 8 m.state.heap.base sizes.base whole;
      pages = ap (λ (l : List ℕ). little_number 4 (drop 8 l)) (sym text) ∙ number_at (text_of m) _ 8 4 (length m.dirty) sizes.pages after;
      open_is = ap (λ (l : List ℕ). get_or l 12 0 == 1) (sym text)
          ∙ flag_at (text_of m) (little_bytes 4 (length m.dirty)) [] 8 4 m.state.heap.is_open (length_little 4 (length m.dirty)) after;
    }
