use Rattle.std.proofs.Common.{◌+◌, ◌*◌, refl}
use Rattle.state_bytes.proofs.WholeText.{all_written, granules_same_as, head_same_as, pages_same_as, place_of, registers_same_as}
use Rattle.state_bytes.proofs.encoding.encode_into.Goals as goal

pub returns-clause-text : goal.returns-clause-text
returns-clause-text c =
    let m = c.args.machine.now in
    let memory = c.memory-memory.ensures in
    all_written m _ _ _ _ c.args.out.now _ _ _ c.put_dirty.new.out (13 + 21 * c.granules.result) (13 + 21 * c.granules.result + 17 * 32) c.tell_all.ensures
    (record {
      head_is = head_same_as m c.heap-heap.result.now c.memory-memory.result.now.granules c.base.result c.pages.result c.is_open.result c.tell_all.ensures c.heap-heap.ensures memory.granules c.base.ensures
          c.pages.ensures c.is_open.ensures;
      granules_are = granules_same_as m c.heap-heap.result.now c.memory-memory.result.now.granules c.heap-heap.ensures memory.granules;
      registers_are = registers_same_as m c.registers.result.now c.registers.ensures;
      pages_are = pages_same_as m c.memory-memory.result.now.dirty memory.dirty;
      at_is = place_of m c.memory-memory.result.now.granules c.granules.result memory.granules c.granules.ensures;
      last_is = refl;
    })
    c.requires.room c.put_head.ensures c.put_memory.ensures c.put_registers.ensures c.put_dirty.ensures
