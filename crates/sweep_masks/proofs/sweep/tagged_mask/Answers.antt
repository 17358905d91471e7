use Rattle.std.proofs.Common.{◌≡◌, ◌+◌, ◌*◌, ◌&&◌, ◌∙◌, ℕ, Bool, ap, false, get_or, sym, true}
use Rattle.cap_codec.specs.Words.{base_of}
use Rattle.sweep_masks.specs.Masks.{is_hit_at, is_painted}
use Rattle.tag_memory.specs.Cells.{cell_of}
use Rattle.tag_memory.specs.Tags.{is_tagged}
use Rattle.sweep_masks.specs.MaskLaws.{AreTagsLeft-less, is_set-joined}
use Rattle.sweep_masks.proofs.sweep.tagged_mask.Goals as goal

pub loop-rest-preserved : goal.loop-rest-preserved
loop-rest-preserved c =
    let memory = c.args.memory.now in
    let shadow = c.args.shadow.now in
    let j = c.lowest_bit-j.result in
    let one = c.lowest_bit-j.ensures.one in
    let i : ℕ = 64 * c.args.w + j in
    let painted : Bool = is_painted shadow memory.base (base_of (cell_of (get_or memory.granules i (0, false))).0) in
    let is : is_tagged memory.granules i ≡ true → c.is_base_painted-is_hit.result ≡ is_hit_at memory shadow i =
    λ tagged. c.is_base_painted-is_hit.ensures ∙ ap (λ (tag : Bool). tag && painted) (sym tagged) in
    AreTagsLeft-less (λ k. is_tagged memory.granules (64 * c.args.w + k)) (λ k. is_hit_at memory shadow (64 * c.args.w + k))
    c.loop-rest.rest c.loop-rest.mask c.without_lowest-rest.result _ j c.is_base_painted-is_hit.result
    c.loop-rest.invariant c.lowest_bit-j.ensures.within one
    (c.without_lowest-rest.ensures.bits j one c.lowest_bit-j.ensures.below)
    (λ k lt. rw c.from.ensures (is_set-joined c.loop-rest.mask j k c.is_base_painted-is_hit.result c.lowest_bit-j.ensures.within lt (c.loop-rest.invariant.unset j c.lowest_bit-j.ensures.within one)))
    is
