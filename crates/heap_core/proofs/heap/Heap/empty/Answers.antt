use Rattle.std.proofs.Common.{◌≡◌, ◌*◌, ◌/◌, ◌∙◌, ap, false, replicate, refl, arith}
use Rattle.std.proofs.lemmas.Grind.{common_steps}
use Rattle.heap_model.specs.Shadow.{bits_of}
use Rattle.heap_core.proofs.EmptyLaws.{AreLate-zeros, IsTable-zeros, bits_of-zeros, blocks_of-zeros, heap_state-zeros, zeros}
use Rattle.heap_core.proofs.LateLaws.{either-none_left}
use Rattle.std.proofs.lemmas.List.{length-replicate}
use Rattle.heap_core.proofs.heap.Heap.empty.Goals as goal

pub invariant_of-result : goal.invariant_of-result
invariant_of-result c =
    let made = c.in_ok-table.ensures in
    let n = 256 * c.args.pages in
    let words : c.in_ok-late.late.items ≡ zeros (n / 64) = grind (arith, common_steps) in
    let lates : bits_of c.in_ok-late.late.items ≡ replicate n false = ap bits_of words ∙ bits_of-zeros (n / 64) n (omega arith) in
    record {
      table = rw (made.lengths, made.marks) (IsTable-zeros c.args.base n c.args.pages refl c.requires.size c.requires.place);
      lates = rw (made.lengths, made.marks, lates) (AreLate-zeros n);
      live = rw (made.lengths, made.marks, lates, either-none_left n (replicate n false) (length-replicate n false), blocks_of-zeros) refl;
      due = rw (made.lengths, made.marks, blocks_of-zeros) refl;
      late = rw (made.lengths, lates, blocks_of-zeros) refl;
    }

pub returns-clause-empty : goal.returns-clause-empty
returns-clause-empty c =
    let made = c.in_ok-table.ensures in
    let n = 256 * c.args.pages in
    let words : c.in_ok-late.late.items ≡ zeros (n / 64) = grind (arith, common_steps) in
    let lates : bits_of c.in_ok-late.late.items ≡ replicate n false = ap bits_of words ∙ bits_of-zeros (n / 64) n (omega arith) in
    rw (made.lengths, made.marks, lates) (heap_state-zeros c.args.base n c.args.pages refl)
