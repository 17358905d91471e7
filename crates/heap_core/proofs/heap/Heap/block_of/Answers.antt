use Rattle.std.proofs.Common.{◌≡◌, ◌≤◌, ◌+◌, ◌-◌, ◌*◌, ◌/◌, inl, inr, length, get_or, ap, arith}
use Rattle.std.proofs.lemmas.Bool.{cases_lt}
use Rattle.heap_core.proofs.FoundLaws.{IsFound-kind, IsInNoBlock-ends, IsInNoBlock-outside, LiesAt}
use Rattle.heap_model.specs.ShadowLaws.{length-bits_of}
use Rattle.heap_core.proofs.heap.Heap.block_of.Goals as goal

pub returns-then-address-self-clause-none : goal.returns-then-address-self-clause-none
returns-then-address-self-clause-none c _ =
    rw (← c.self.view_is) (IsInNoBlock-outside c.self.inside c.args.address c.self.invariant.table (inl c.if-address-self.true))

pub returns-then-granule-granules-clause-none : goal.returns-then-granule-granules-clause-none
returns-then-granule-granules-clause-none c _ =
    let above : c.self.inside.base + 16 * length c.self.inside.table.lengths ≤ c.args.address = omega (arith, c.if-address-self.false, c.if-granule-granules.true, c.granules.ensures) in
    rw (← c.self.view_is) (IsInNoBlock-outside c.self.inside c.args.address c.self.invariant.table (inr above))

pub returns-then-start-length_at-clause-none : goal.returns-then-start-length_at-clause-none
returns-then-start-length_at-clause-none c _ =
    let g = (c.args.address - c.self.inside.base) / 16 in
    let p = c.reaching_start-start.result in
    let lengths = c.self.inside.table.lengths in
    rw (← c.self.view_is) (IsInNoBlock-ends c.self.inside c.args.address g (omega (arith, c.if-address-self.false)) (omega (arith, c.if-address-self.false))
    (λ k le. elim (cases_lt k p) [
      | inl less ↦ c.reaching_start-start.ensures.before k less
      | inr from ↦ elim (cases_lt p k) [
        | inl more ↦ omega (arith, c.reaching_start-start.ensures.last k more le)
        | inr up ↦ (let same : k ≡ p = omega arith in let n = ap (λ i. get_or lengths i 0) same in omega (arith, n, same, c.if-start-length_at.true, c.length_at.ensures))
      ]
    ]))

pub kind_at-kind-requires-clause-bits : goal.kind_at-kind-requires-clause-bits
kind_at-kind-requires-clause-bits c = omega (arith, c.self.invariant.lates.same, length-bits_of c.self.inside.late.items, ap length c.deref.ensures.value)

pub returns-clause-some : goal.returns-clause-some
returns-clause-some c =
    let h = c.self.invariant in
    let block = c.block_from-block in
    let late = c.kind_at-kind.ensures.late in
    let live = c.kind_at-kind.ensures.live in
    let lies : LiesAt c.self.inside.base c.self.inside.table.lengths c.args.address c.block_from-block.result.base c.block_from-block.result.top c.reaching_start-start.result = record {
      at = record {
        within = omega (arith, c.reaching_start-start.ensures.within, c.if-granule-granules.false, c.granules.ensures);
        some = omega (arith, c.reaching_start-start.ensures.within, c.if-start-length_at.false, c.length_at.ensures);
        start_is = block.ensures.base;
        top_is = omega (arith, block.ensures.base, block.ensures.top);
      };
      from = omega (arith, block.ensures.base, c.reaching_start-start.ensures.within, c.if-address-self.false);
      before = omega (arith, block.ensures.top, c.if-start-length_at.false, c.length_at.ensures, c.if-address-self.false);
    } in
    rw (← c.self.view_is) (IsFound-kind h.table h.lates lies c.kind_at-kind.ensures.due (rw c.deref.ensures.value at late) (rw c.deref.ensures.value at live))
