-- What was read of a machine: its parts have no flaw, and a heap without blocks begins its replay.
use Rattle.std.proofs.Common.{◌≡◌, ◌∙◌, ◌<◌, ◌*◌, ◌/◌, ◌==◌, inl, inr, ℕ, Bool, true, false, List, [], length, drop, get_or, sym, ap, subst, eq-eqb, arith}
use Rattle.std.specs.Prelude.{All}
use Rattle.std.proofs.lemmas.Bool.{cases_eq, ne_eqb, true≢false}
use Rattle.heap_model.specs.Heap.{HeapState, empty_heap}
use Rattle.heap_machine.specs.Making.{HasGuarded, IsFlaw, machine_of_fields}
use Rattle.heap_machine.specs.Storage.{MachineState}
use Rattle.machine_steps.specs.Safety.{IsGuarded}
use Rattle.heap_machine.specs.declared.machine.making.Flaw.{Flaw}
use Rattle.heap_machine.specs.declared.machine.making.Flaw.TheVariants.{Clean, Elsewhere, Granule, Register}
use Rattle.heap_model.specs.Sweep.{takes_tag}
use Rattle.sweep_masks.specs.Tasks.{Cut}
use Rattle.tag_memory.specs.Cells.{Cell, MemoryState, cell_of, is_dirty_at, null_cell}
use Rattle.state_bytes.specs.Reading.{HasHead, HasParts}
use Rattle.state_bytes.specs.Replay.{IsStart}
use Rattle.state_bytes.specs.State.{IsSameState, IsState, HasInvariant}
use Rattle.state_bytes.specs.declared.decoding.Head.{Head}
use Rattle.byteorder.specs.Endian.{little_number}
use Rattle.tag_memory.specs.Extent.{is_base, is_size}
use Rattle.state_bytes.specs.Text.{text_length, text_of}
use Rattle.state_bytes.proofs.ReadLaws.{head_read, text_long}

-- ---- parts without a flaw

guarded_at : (heap : HeapState) (registers : List Cell) (r : ℕ) → r < length registers → All (IsGuarded heap) registers → HasGuarded heap registers r
guarded_at heap registers r lt all =
    elim (cases_eq r 0) [
      | inl zero ↦ rw (eq-eqb r 0 zero) (record { within = λ tagged. absurd (true≢false (sym tagged)) })
      | inr other ↦ rw (ne_eqb r 0 other) (all r null_cell lt)
    ]

own_flaw : (m : MachineState) (memory : MemoryState) (flaw : Flaw) → HasInvariant m → memory.base ≡ m.state.heap.base → memory.granules ≡ m.state.granules → memory.dirty ≡ m.dirty
    → IsFlaw m.state.heap memory m.state.registers flaw → ⊥
own_flaw m memory Elsewhere whole base granules dirty lacks =
    lacks (record { base = base; granules = ap (λ (xs : List (ℕ × Bool)). 16 * length xs) granules ∙ whole.sound.granules })
own_flaw m memory (Register r) whole base granules dirty lacks =
    lacks.2.lacks (guarded_at m.state.heap m.state.registers r (let count = whole.sound.count in omega (arith, lacks.1, count)) whole.sound.safe.registers)
own_flaw m memory (Granule i) whole base granules dirty lacks =
    let same : length memory.granules ≡ length m.state.granules = ap (λ (xs : List (ℕ × Bool)). length xs) granules in
    lacks.3.lacks (subst (λ (xs : List (ℕ × Bool)). IsGuarded m.state.heap (cell_of (get_or xs i (0, false)))) (sym granules)
    (whole.sound.safe.granules i (0, false) (omega (arith, lacks.2, same))))
own_flaw m memory (Clean i) whole base granules dirty lacks =
    lacks.4.lacks (subst (λ (xs : List (ℕ × Bool)). takes_tag m.state.heap.painted (cell_of (get_or xs i (0, false))) ≡ true → is_dirty_at memory.dirty (i / 256) ≡ true) (sym granules)
    (subst (λ (marks : List Bool). takes_tag m.state.heap.painted (cell_of (get_or m.state.granules i (0, false))) ≡ true → is_dirty_at marks (i / 256) ≡ true) (sym dirty) (whole.dirtied i)))

pub no_flaw : (m : MachineState) (heap : HeapState) (memory : MemoryState) (registers : List Cell) (flaw : Flaw) → HasInvariant m → HasParts m heap memory registers → IsFlaw heap memory registers flaw → ⊥
no_flaw m heap memory registers flaw whole has is =
    own_flaw m memory flaw whole has.base has.granules has.dirty
    (subst (λ (s : HeapState). IsFlaw s memory m.state.registers flaw) has.heap_is (subst (λ (xs : List Cell). IsFlaw heap memory xs flaw) has.registers_are is))

-- A machine of such parts has the state.
pub same_made : (m made_one : MachineState) (heap : HeapState) (memory : MemoryState) (registers : List Cell) (cutting : Cut) → HasParts m heap memory registers
    → made_one ≡ machine_of_fields heap memory registers cutting → IsSameState made_one m
same_made m made_one heap memory registers cutting has is = (
  ap (λ (x : MachineState). x.state) is ∙ (λ j. record { heap = has.heap_is j; granules = has.granules j; registers = has.registers_are j }),
  ap (λ (x : MachineState). x.dirty) is ∙ has.dirty,
)

-- ---- the beginning

-- The empty heap where the head says.
pub start_of_head : (m : MachineState) (heap : HeapState) (head : Head) → IsState m → HasHead m head → heap ≡ empty_heap head.base head.pages → IsStart m.state.heap heap head.is_open
start_of_head m heap head state has is =
    let sound = state.invariant.sound in
    let size : 4096 * head.pages ≡ m.state.heap.size = omega (arith, has.pages, sound.granules, state.invariant.pages) in
    record {
      empty = is ∙ (λ j. record { base = has.base j; size = size j; live = []; waiting = []; painted = []; is_open = false });
      open_is = has.open_is;
    }

-- ---- the head

pub head_of : (m : MachineState) (bytes : List ℕ) (head : Head) → HasInvariant m → text_of m ≡ bytes → head.base ≡ little_number 8 bytes → head.pages ≡ little_number 4 (drop 8 bytes)
    → head.is_open ≡ (get_or bytes 12 0 == 1) → HasHead m head
head_of m bytes head whole text base pages open_is =
    let read = head_read m bytes whole text in
    record { base = base ∙ read.base; pages = pages ∙ read.pages; open_is = open_is ∙ read.open_is }

-- A machine's bytes are more than a head.
pub long_text : (m : MachineState) (bytes : List ℕ) → HasInvariant m → text_of m ≡ bytes → length bytes < 13 → ⊥
long_text m bytes whole text short = omega (arith, short, ap (λ (l : List ℕ). length l) (sym text) ∙ text_long m whole)

-- And as many as its pages take.
pub long_head : (m : MachineState) (bytes : List ℕ) (head : Head) (long : ℕ) → HasInvariant m → text_of m ≡ bytes → HasHead m head → long ≡ text_length head.pages → (length bytes ≡ long → ⊥) → ⊥
long_head m bytes head long whole text has is other =
    other (ap (λ (l : List ℕ). length l) (sym text) ∙ (text_long m whole ∙ (ap text_length (sym has.pages) ∙ sym is)))

pages_of : (m : MachineState) → HasInvariant m → m.state.heap.size ≡ 4096 * length m.dirty
pages_of m whole = let granules = whole.sound.granules in omega (arith, granules, whole.pages)

-- A heap can lie there.
pub head_size : (m : MachineState) (head : Head) (pages : ℕ) → HasInvariant m → HasHead m head → pages ≡ head.pages → is_size pages ≡ true
head_size m head pages whole has is =
    let sound = whole.sound.safe.heap in
    let same : sound.pages ≡ pages = let bytes = sound.bytes in omega (arith, bytes, pages_of m whole, is, has.pages) in
    subst (λ (n : ℕ). is_size n ≡ true) same sound.size

pub head_place : (m : MachineState) (head : Head) (pages : ℕ) → HasInvariant m → HasHead m head → pages ≡ head.pages → is_base head.base pages ≡ true
head_place m head pages whole has is =
    let sound = whole.sound.safe.heap in
    let same : sound.pages ≡ pages = let bytes = sound.bytes in omega (arith, bytes, pages_of m whole, is, has.pages) in
    (λ j. is_base (has.base j) (sym same j)) ∙ sound.place
