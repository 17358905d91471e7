use Rattle.std.proofs.Common.{◌≡◌, ◌+◌, ◌*◌, ◌&&◌, ◌∙◌, ℕ, Bool, ap, false, get_or, sym, true}
use Rattle.cap_codec.specs.Words.{base_of}
use Rattle.heap_model.specs.Blocks.{lies_in}
use Rattle.heap_model.specs.Heap.{due}
use Rattle.sweep_masks.specs.Masks.{takes_tag_at}
use Rattle.tag_memory.specs.Cells.{cell_of}
use Rattle.tag_memory.specs.Tags.{is_tagged}
use Rattle.sweep_masks.specs.MaskLaws.{AreTagsLeft-less, is_set-joined}
use Rattle.machine_storage.proofs.storage.Storage.due_mask.Goals as goal

pub loop-rest-preserved : goal.loop-rest-preserved
loop-rest-preserved c =
    let memory = c.args.self.now.memory in
    let held = due c.args.self.now.heap in
    let j = c.lowest_bit-j.result in
    let one = c.lowest_bit-j.ensures.one in
    let i : ℕ = 64 * c.args.w + j in
    let lies : Bool = lies_in held (base_of (cell_of (get_or memory.granules i (0, false))).0) in
    let is : is_tagged memory.granules i ≡ true → c.is_base_due-is_due.result ≡ takes_tag_at memory held i =
    λ tagged. c.is_base_due-is_due.ensures ∙ ap (λ (tag : Bool). tag && lies) (sym tagged) in
    AreTagsLeft-less (λ k. is_tagged memory.granules (64 * c.args.w + k)) (λ k. takes_tag_at memory held (64 * c.args.w + k))
    c.loop-rest.rest c.loop-rest.mask c.without_lowest-rest.result _ j c.is_base_due-is_due.result
    c.loop-rest.invariant c.lowest_bit-j.ensures.within one
    (c.without_lowest-rest.ensures.bits j one c.lowest_bit-j.ensures.below)
    (λ k lt. rw c.from.ensures (is_set-joined c.loop-rest.mask j k c.is_base_due-is_due.result c.lowest_bit-j.ensures.within lt (c.loop-rest.invariant.unset j c.lowest_bit-j.ensures.within one)))
    is
