use Rattle.std.proofs.Common.{◌≡◌, ◌∙◌, ◌≤◌, ◌*◌, List, ap, drop, length, sym, arith}
use Rattle.std.proofs.lemmas.Bool.{and_parts, leb-true}
use Rattle.std.proofs.lemmas.List.{length-drop}
use Rattle.std.proofs.lemmas.List.Sums.{count_by-le-length}
use Rattle.std.specs.Prelude.{nat_le}
use Rattle.tag_memory.specs.Cells.{Cell, Granule}
use Rattle.state_data.proofs.recording.count_tags.Goals as goal

pub overflow_add-result : goal.overflow_add-result
overflow_add-result c =
    let memory = c.invariant.ensures in
    let granules = c.memory-2.result.now.granules in
    let registers : List Cell = c.registers-2.result.now in
    let count : length c.memory-2.result.now.granules ≡ 256 * memory.pages = ap length (c.memory-2.ensures.granules ∙ sym c.memory.ensures.granules) ∙ memory.count in
    let long : length registers ≡ 32 = ap length (c.registers-2.ensures ∙ sym c.registers.ensures) ∙ c.invariant-2.ensures.count in
    let limit : memory.pages ≤ 1024 = leb-true memory.pages 1024 (and_parts (nat_le 1 memory.pages) (nat_le memory.pages 1024) memory.size).1 in
    omega (
      arith,
      c.tagged.ensures,
      count_by-le-length (λ (cell : Granule). cell.1) granules,
      count,
      limit,
      c.tagged-2.ensures,
      count_by-le-length (λ (cell : Cell). cell.1) (drop 1 registers),
      length-drop 1 registers,
      long,
    )
