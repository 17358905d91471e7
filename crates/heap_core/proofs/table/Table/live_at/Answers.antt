use Rattle.std.proofs.Common.{◌∙◌, sym}
use Rattle.heap_core.proofs.table.Table.live_at.Goals as goal

pub is_held-requires-clause-inside : goal.is_held-requires-clause-inside
is_held-requires-clause-inside c = (c.block_at.ensures.some c.in-Some.granule c.in-Some.is).within

pub returns-then-is_held-clause-other : goal.returns-then-is_held-clause-other
returns-then-is_held-clause-other c =
    (c.in-Some.granule, c.block_at.ensures.some c.in-Some.granule c.in-Some.is, sym c.is_held.ensures ∙ c.if-is_held.true)

pub returns-clause-live : goal.returns-clause-live
returns-clause-live c = record {
  at = c.block_at.ensures.some c.in-Some.granule c.in-Some.is;
  unmarked = sym c.is_held.ensures ∙ c.if-is_held.false;
}
