use Rattle.std.proofs.Common.{refl, ap, ◌∙◌, ◌+◌, ◌||◌, arith}
use Rattle.granule_rows.specs.Runs.{is_within}
use Rattle.heap_core.proofs.StoredLaws.{AreStored-hold, length-lengths_of, marks_hold}
use Rattle.tag_memory.specs.Tags.{is_set_for}
use Rattle.heap_core.proofs.table.Table.make_due.Goals as goal

pub make_due-requires-clause-end : goal.make_due-requires-clause-end
make_due-requires-clause-end c =
    let end = c.requires.end c.args.granule c.requires.inside in
    let there = rw (← c.self.view_is) at end in
    let long = c.length_at-granules.ensures in
    let granules = rw (← c.self.view_is) at long in
    omega (arith, there, granules, c.self.invariant.count, length-lengths_of c.self.inside.rows.starts.items c.self.inside.lengths.items)

pub invariant_of-self : goal.invariant_of-self
invariant_of-self c =
    let r = c.requires in
    let inside = r.inside in
    let block = r.block in
    let live = r.live in
    let apart = r.apart in
    let long = c.length_at-granules.ensures in
    let granules = rw (← c.self.view_is) at long in
    let due = c.make_due.ensures in
    AreStored-hold c.self.invariant c.make_due.new.self c.args.granule (rw (← c.self.view_is) at inside) (rw (← c.self.view_is) at block) (rw (← c.self.view_is) at apart)
    due.starts (λ k. due.due k ∙ ap (λ n. is_within c.args.granule (c.args.granule + n) k || is_set_for c.self.inside.rows.due.items k) granules)
    (rw (← c.self.view_is) at live) refl refl due.rows due.count due.free

pub returns-clause-marks : goal.returns-clause-marks
returns-clause-marks c =
    let r = c.requires in
    let inside = r.inside in
    let block = r.block in
    let apart = r.apart in
    let long = c.length_at-granules.ensures in
    let granules = rw (← c.self.view_is) at long in
    let due = c.make_due.ensures in
    rw (← c.self.view_is) (marks_hold c.self.invariant c.make_due.new.self c.args.granule (rw (← c.self.view_is) at inside) (rw (← c.self.view_is) at block) (rw (← c.self.view_is) at apart)
    due.starts (λ k. due.due k ∙ ap (λ n. is_within c.args.granule (c.args.granule + n) k || is_set_for c.self.inside.rows.due.items k) granules))
