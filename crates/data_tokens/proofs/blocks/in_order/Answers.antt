use Rattle.std.proofs.Common.{◌+◌, length, slice_index_or, ap, arith}
use Rattle.std.proofs.lemmas.Bool.Decides.{nat_tests}
use Rattle.std.proofs.lemmas.List.Sorted.{IsNonDecreasingBy-from_all_adjacent, IsNonDecreasingBy-from_sort, IsPermutation-map, IsPermutation-sym, IsPermutation-trans}
use Rattle.data_tokens.specs.Spans.{span_of}
use Rattle.data_tokens.specs.declared.blocks.HeldBlock.{HeldBlock}
use Rattle.data_tokens.specs.ListedBlocks.{spans_rise}
use Rattle.data_tokens.proofs.blocks.in_order.Goals as goal

pub returns-then-is_sorted-clause-rise : goal.returns-then-is_sorted-clause-rise
returns-then-is_sorted-clause-rise c =
    let blocks = c.args.blocks.items in
    let said = c.deref.ensures.value in
    spans_rise blocks (IsNonDecreasingBy-from_all_adjacent (λ (block : HeldBlock). block.base) blocks (λ k d lt.
    grind (arith, nat_tests, c.if-is_sorted.ensures.cases k d (omega (arith, lt, ap length said)), ap (λ blocks. slice_index_or blocks k d) said, ap (λ blocks. slice_index_or blocks (k + 1) d) said)))

pub returns-clause-same : goal.returns-clause-same
returns-clause-same c =
    let moved = IsPermutation-trans _ _ _ c.from.ensures.1 c.into_sorted_vec.ensures.permutation in
    IsPermutation-sym _ _ (IsPermutation-map span_of c.args.blocks.items c.into_sorted_vec.result.items moved)

pub returns-clause-rise : goal.returns-clause-rise
returns-clause-rise c =
    let blocks = c.into_sorted_vec.result.items in
    let sorted = c.into_sorted_vec.ensures.sorted c.from.ensures.2 in
    spans_rise blocks (IsNonDecreasingBy-from_sort (λ (block : HeldBlock). block.base) blocks (λ k d low lt. grind (arith, nat_tests, sorted k d low lt)))
