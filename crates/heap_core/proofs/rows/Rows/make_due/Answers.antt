use Rattle.std.proofs.Common.{◌/◌, ◌+◌, ◌||◌, refl, arith}
use Rattle.granule_rows.specs.Runs.{is_within}
use Rattle.heap_core.proofs.RowLaws.{AreRows-due, bits-written, length-written}
use Rattle.heap_core.proofs.rows.Rows.make_due.Goals as goal

pub returns-clause-due : goal.returns-clause-due
returns-clause-due c =
    bits-written _ c.deref_mut.ensures.value c.deref_mut.ensures.len c.set_run.auto.words
    (λ k b. is_within c.args.start (c.args.start + c.args.n) k || b) c.set_run.ensures.bits

pub returns-clause-rows : goal.returns-clause-rows
returns-clause-rows c =
    let value = c.deref_mut-2.ensures.value in
    let len = c.deref_mut-2.ensures.len in
    let page_bits = bits-written _ value len c.set_run-2.auto.words
    (λ k b. is_within (c.args.start / 256) c.div_ceil.result k || b) c.set_run-2.ensures.bits in
    AreRows-due c.args.self.now _ c.args.start (c.args.start + c.args.n) _ c.requires.rows (omega (arith, c.div_ceil.ensures)) c.requires.end refl refl
    (length-written _ c.deref_mut.ensures.value c.deref_mut.ensures.len c.set_run.auto.words)
    (length-written _ value len c.set_run-2.auto.words)
    (returns-clause-due c) page_bits
