use Rattle.std.proofs.Common.{◌∙◌, ◌+◌, ◌*◌, ℕ, length, refl, sym, ap}
use Rattle.state_bytes.proofs.ReadLaws.{text_long}
use Rattle.state_bytes.proofs.WholeText.{granules_same_as, head_same_as, own_pieces, pages_same_as, pieces_of_text, place_of, registers_same_as, room_of, stands_as, text_of_pieces}
use Rattle.state_bytes.proofs.comparing.is_text.Goals as goal
use Rattle.std.proofs.Common.{List}

pub returns-then-bytes-text_length-clause-no : goal.returns-then-bytes-text_length-clause-no
returns-then-bytes-text_length-clause-no c = λ text.
    let m = c.args.machine.now in
    let room = room_of m c.memory-memory.result.now.granules c.pages.result c.text_length.result c.tell_all.ensures c.memory-memory.ensures.granules c.pages.ensures c.text_length.ensures in
    absurd (c.if-bytes-text_length.true (ap (λ (l : List ℕ). length l) (sym text) ∙ (text_long m c.tell_all.ensures ∙ sym room)))

pub returns-then-not-is_head-clause-no : goal.returns-then-not-is_head-clause-no
returns-then-not-is_head-clause-no c = λ text.
    let m = c.args.machine.now in
    let memory = c.memory-memory.ensures in
    let all = pieces_of_text m c.args.bytes.now _ _ _ _ _ _ (own_pieces m) text in
    sym c.if-not-is_head.true ∙ c.is_head.ensures.no (stands_as c.args.bytes.now _ _ 0 0 refl (head_same_as m c.heap-heap.result.now c.memory-memory.result.now.granules c.base.result c.pages-2.result c.is_open.result c.tell_all.ensures c.heap-heap.ensures memory.granules c.base.ensures c.pages-2.ensures c.is_open.ensures) all.head)

pub returns-then-not-are_granules-clause-no : goal.returns-then-not-are_granules-clause-no
returns-then-not-are_granules-clause-no c = λ text.
    let m = c.args.machine.now in
    let memory = c.memory-memory.ensures in
    let all = pieces_of_text m c.args.bytes.now _ _ _ _ _ _ (own_pieces m) text in
    sym c.if-not-are_granules.true ∙ c.are_granules.ensures.no (stands_as c.args.bytes.now _ _ 13 13 refl (granules_same_as m c.heap-heap.result.now c.memory-memory.result.now.granules c.heap-heap.ensures memory.granules) all.granules)

pub returns-then-not-are_registers-clause-no : goal.returns-then-not-are_registers-clause-no
returns-then-not-are_registers-clause-no c = λ text.
    let m = c.args.machine.now in
    let memory = c.memory-memory.ensures in
    let all = pieces_of_text m c.args.bytes.now _ _ _ _ _ _ (own_pieces m) text in
    sym c.if-not-are_registers.true ∙ c.are_registers.ensures.no (stands_as c.args.bytes.now _ _ _ _ (place_of m c.memory-memory.result.now.granules c.granules.result memory.granules c.granules.ensures) (registers_same_as m c.registers.result.now c.registers.ensures) all.registers)

pub returns-clause-yes : goal.returns-clause-yes
returns-clause-yes c = λ yes.
    let m = c.args.machine.now in
    let memory = c.memory-memory.ensures in
    let room = room_of m c.memory-memory.result.now.granules c.pages.result c.text_length.result c.tell_all.ensures memory.granules c.pages.ensures c.text_length.ensures in
    text_of_pieces m c.args.bytes.now _ _ _ _ (13 + 21 * c.granules.result) (13 + 21 * c.granules.result + 17 * 32) c.tell_all.ensures
    (record {
      head_is = head_same_as m c.heap-heap.result.now c.memory-memory.result.now.granules c.base.result c.pages-2.result c.is_open.result c.tell_all.ensures c.heap-heap.ensures memory.granules c.base.ensures c.pages-2.ensures c.is_open.ensures;
      granules_are = granules_same_as m c.heap-heap.result.now c.memory-memory.result.now.granules c.heap-heap.ensures memory.granules;
      registers_are = registers_same_as m c.registers.result.now c.registers.ensures;
      pages_are = pages_same_as m c.memory-memory.result.now.dirty memory.dirty;
      at_is = place_of m c.memory-memory.result.now.granules c.granules.result memory.granules c.granules.ensures;
      last_is = refl;
    })
    (c.if-bytes-text_length.false ∙ room)
    (record {
      head = c.is_head.ensures.yes c.if-not-is_head.false;
      granules = c.are_granules.ensures.yes c.if-not-are_granules.false;
      registers = c.are_registers.ensures.yes c.if-not-are_registers.false;
      pages = c.are_dirty.ensures.yes yes;
    })

pub returns-clause-no : goal.returns-clause-no
returns-clause-no c = λ text.
    let m = c.args.machine.now in
    let memory = c.memory-memory.ensures in
    let all = pieces_of_text m c.args.bytes.now _ _ _ _ _ _ (own_pieces m) text in
    c.are_dirty.ensures.no (stands_as c.args.bytes.now _ _ _ _ (ap (λ (k : ℕ). k + 17 * 32) (place_of m c.memory-memory.result.now.granules c.granules.result memory.granules c.granules.ensures)) (pages_same_as m c.memory-memory.result.now.dirty memory.dirty) all.pages)
