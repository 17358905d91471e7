use Rattle.std.proofs.Common.{◌∙◌, ◌*◌, true, set, ap}
use Rattle.tag_memory.specs.Cells.{MemoryState, marks_after}
use Rattle.state_bytes.proofs.DirtyPut.{two_marks, two_puts}
use Rattle.state_bytes.proofs.words.mark_dirty.Goals as goal

pub returns-clause-granules : goal.returns-clause-granules
returns-clause-granules c =
    ap (λ (s : MemoryState). s.granules) c.put-2.ensures
    ∙ (ap (λ (s : MemoryState). set s.granules (256 * c.args.page) c.cell-bits.result) c.put.ensures
    ∙ two_puts c.args.memory.now.granules (256 * c.args.page) (c.cell-bits.result.0, true) c.cell-bits.result c.cell-bits.ensures)

pub returns-clause-dirty : goal.returns-clause-dirty
returns-clause-dirty c =
    ap (λ (s : MemoryState). s.dirty) c.put-2.ensures
    ∙ (ap (λ (s : MemoryState). marks_after s.dirty (256 * c.args.page) c.cell-bits.result.1) c.put.ensures
    ∙ two_marks c.args.memory.now.dirty c.args.page c.cell-bits.result.1)
