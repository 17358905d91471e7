use Rattle.std.proofs.Common.{◌≡◌, ℕ, ◌∙◌, ap, List, arith, count_by, drop, length, rules, take}
use Rattle.std.proofs.lemmas.List.{length-drop, take_all}
use Rattle.tag_memory.specs.Cells.{Cell}
use Rattle.tag_memory.proofs.registers.Registers.tagged.Goals as goal

pub returns : goal.returns
returns c =
    let cells : List Cell = c.self.inside.cells in
    let count : length cells ≡ 32 = search rules in
    let rest : take 31 (drop 1 cells) ≡ drop 1 cells = take_all 31 (drop 1 cells) (omega (arith, length-drop 1 cells)) in
    let tagged : List Cell → ℕ = count_by (λ (cell : Cell). cell.1) in
    c.count_tagged.ensures ∙ (ap tagged rest ∙ ap (λ (cells : List Cell). tagged (drop 1 cells)) c.self.view_is)
