use Rattle.std.proofs.Common.{◌≡◌, ◌∙◌, ◌<◌, ◌+◌, ◌*◌, ◌&&◌, not, ℕ, [], ap, sym, arith}
use Rattle.tag_memory.specs.Laws.{is_set_for-at}
use Rattle.tag_memory.specs.Tags.{is_set}
use Rattle.data_tokens.specs.Changes.{below}
use Rattle.data_tokens.specs.Line.{with_tokens}
use Rattle.data_tokens.specs.Taken.{is_tag_gone, number_if}
use Rattle.data_tokens.specs.ChangeLaws.{below_skip, is_tag_gone-not, number_if-no}
use Rattle.data_tokens.specs.LineLaws.{added_below}
use Rattle.data_tokens.proofs.taken.put_gone_of_word.Goals as goal

pub returns-then-tags-w : goal.returns-then-tags-w
returns-then-tags-w c start before =
    let tags = c.args.tags.now in
    let granules = c.args.memory.now.granules in
    let w = c.args.w in
    let none : (k : ℕ) → k < 64 → number_if (is_tag_gone c.args.tags.now c.args.memory.now.granules) (64 * c.args.w + k) ≡ [] =
    λ k lt. number_if-no (is_tag_gone tags granules) (64 * w + k) (is_tag_gone-not tags granules (64 * w + k) (is_set_for-at tags w k lt ∙ (ap (λ (word : ℕ). is_set word k) c.if-tags-w.true ∙ c.tag_word-now.ensures.bits k lt))) in
    before ∙ ap (with_tokens start) (sym (below_skip (number_if (is_tag_gone tags granules)) (64 * w) 64 none))

pub loop-j-preserved : goal.loop-j-preserved
loop-j-preserved c start before =
    let tags = c.args.tags.now in
    let granules = c.args.memory.now.granules in
    let i = 64 * c.args.w + c.loop-j.j in
    let j : c.loop-j.j < 64 = omega (arith, c.loop-j-test.true) in
    let next : 64 * c.args.w + c.loop-j.j + 1 ≡ 64 * c.args.w + (c.loop-j.j + 1) = omega arith in
    let gone : is_tag_gone c.args.tags.now c.args.memory.now.granules (64 * c.args.w + c.loop-j.j) ≡ _ =
    λ k. is_set_for-at tags c.args.w c.loop-j.j j k && not (sym (c.tag_word-now.ensures.bits c.loop-j.j j) k) in
    added_below (number_if (is_tag_gone tags granules)) start _ _ i _ (c.loop-j.invariant start before) (c.in_ok-put_if.ensures (is_tag_gone tags granules) ((λ k. c.bit.ensures k && not (c.bit-in-loop-j.ensures k)) ∙ sym gone)) (λ k. number_if (is_tag_gone tags granules) i)
    ∙ ap (λ (n : ℕ). with_tokens start (below (number_if (is_tag_gone c.args.tags.now c.args.memory.now.granules)) n)) next
