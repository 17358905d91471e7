use Rattle.std.proofs.Common.{◌≡◌, ◌∙◌, ◌<◌, ◌+◌, ◌*◌, ℕ, ap, sym, arith}
use Rattle.tag_memory.specs.Laws.{is_set_for-at}
use Rattle.tag_memory.specs.Tags.{is_set}
use Rattle.data_tokens.specs.Changes.{below, tag_change}
use Rattle.data_tokens.specs.Line.{with_tokens}
use Rattle.data_tokens.specs.ChangeLaws.{below_skip, tag_change-none}
use Rattle.data_tokens.specs.LineLaws.{added_below}
use Rattle.data_tokens.proofs.granules.put_tags_of_word.Goals as goal

pub returns-then-tags-w : goal.returns-then-tags-w
returns-then-tags-w c start before =
    let tags = c.args.tags.now in
    let granules = c.args.memory.now.granules in
    let w = c.args.w in
    let none : (k : ℕ) → k < 64 → tag_change c.args.tags.now c.args.memory.now.granules (64 * c.args.w + k) ≡ _ =
    λ k lt. tag_change-none tags granules (64 * w + k) (is_set_for-at tags w k lt ∙ (ap (λ (word : ℕ). is_set word k) c.if-tags-w.true ∙ c.tag_word.ensures.bits k lt)) in
    before ∙ ap (with_tokens start) (sym (below_skip (tag_change tags granules) (64 * w) 64 none))

pub loop-j-preserved : goal.loop-j-preserved
loop-j-preserved c start before =
    let next : 64 * c.args.w + c.loop-j.j + 1 ≡ 64 * c.args.w + (c.loop-j.j + 1) = omega arith in
    added_below (tag_change c.args.tags.now c.args.memory.now.granules) start _ _ (64 * c.args.w + c.loop-j.j) _ (c.loop-j.invariant start before) c.in_ok-put_tag.ensures (λ i. tag_change c.args.tags.now c.args.memory.now.granules (64 * c.args.w + c.loop-j.j))
    ∙ ap (λ (n : ℕ). with_tokens start (below (tag_change c.args.tags.now c.args.memory.now.granules) n)) next
