use Rattle.std.proofs.Common.{◌∙◌, ap, arith}
use Rattle.std.proofs.lemmas.List.{length-set}
use Rattle.std.specs.Prelude.{false, slice_set}
use Rattle.tag_memory.specs.Cells.{MemoryState}
use Rattle.tag_memory.proofs.PackedLaws.{Packs, count}
use Rattle.tag_memory.proofs.memory.Memory.mark_page_clean.Goals as goal

pub index_mut-requires : goal.index_mut-requires
index_mut-requires c =
    let p : Packs c.self.inside c.args.self.now = record { view = c.self.view_is; invariant = c.self.invariant } in
    omega (arith, count p, c.self.invariant, c.requires)

pub invariant_of-self : goal.invariant_of-self
invariant_of-self c =
    let kept = c.self.invariant in
    record {
      granules = kept.granules;
      words = kept.words;
      size = kept.size;
      place = kept.place;
      numbers = kept.numbers;
      bases = kept.bases;
      marks = kept.marks;
      blank = kept.blank;
      dirty_marks = length-set _ _ _ ∙ kept.dirty_marks;
    }

pub returns : goal.returns
returns c = ap (λ (m : MemoryState). record m { dirty = slice_set m.dirty c.args.page false }) c.self.view_is
