use Rattle.std.proofs.Common.{◌∙◌, ◌+◌, ◌==◌, false, get_or, length, refl, sym, ap, rules, arith}
use Rattle.std.proofs.lemmas.List.{ext_get_or, length-replicate}
use Rattle.tag_memory.specs.Cells.{MemoryState, is_dirty_at}
use Rattle.state_bytes.proofs.DirtyPut.{clean_at}
use Rattle.state_bytes.proofs.ReadLaws.{marks_count, marks_more, marks_rest}
use Rattle.state_bytes.proofs.words.read_dirty.Goals as goal

pub loop-page-init : goal.loop-page-init
loop-page-init c = record {
  granules = ap (λ (s : MemoryState). s.granules) c.mark_clean.ensures;
  base = ap (λ (s : MemoryState). s.base) c.mark_clean.ensures;
  count = ap (λ (s : MemoryState). length s.dirty) c.mark_clean.ensures ∙ length-replicate (length c.args.memory.now.dirty) false;
  rest = λ k from. ap (λ (s : MemoryState). is_dirty_at s.dirty k) c.mark_clean.ensures ∙ clean_at (length c.args.memory.now.dirty) k;
  marks = λ m state text pages start k lt. absurd (omega (arith, lt));
}

pub loop-page-preserved : goal.loop-page-preserved
loop-page-preserved c =
    let flag = get_or c.args.bytes.now (c.args.start + c.loop-page.page) 0 == 1 in
    record {
      granules = c.mark_if.ensures.granules ∙ c.loop-page.invariant.granules;
      base = c.mark_if.ensures.base ∙ c.loop-page.invariant.base;
      count = marks_count c.loop-page.memory.dirty _ c.loop-page.page (get_or c.args.bytes.now (c.args.start + c.loop-page.page) 0 == 1) c.mark_if.ensures.dirty ∙ c.loop-page.invariant.count;
      rest = marks_rest c.loop-page.memory.dirty _ c.loop-page.page (get_or c.args.bytes.now (c.args.start + c.loop-page.page) 0 == 1) c.mark_if.ensures.dirty c.loop-page.invariant.rest;
      marks = λ m state text pages start.
          marks_more m c.args.bytes.now c.loop-page.memory.dirty _ c.loop-page.page c.args.start (get_or c.args.bytes.now (c.args.start + c.loop-page.page) 0 == 1) state.invariant text
          (pages ∙ sym c.loop-page.invariant.count) (search rules) start refl c.mark_if.ensures.dirty (c.loop-page.invariant.marks m state text pages start) c.loop-page.invariant.rest;
    }

pub returns-clause-dirty : goal.returns-clause-dirty
returns-clause-dirty c m state text pages start =
    ext_get_or false c.loop-page.memory.dirty m.dirty (c.loop-page.invariant.count ∙ sym pages)
    (λ k lt. c.loop-page.invariant.marks m state text pages start k (search rules))
