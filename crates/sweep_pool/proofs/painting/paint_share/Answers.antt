use Rattle.std.proofs.Common.{◌∙◌, length, subst}
use Rattle.heap_model.specs.Heap.{due}
use Rattle.sweep_pool.specs.Painting.{HasPainted, share_start}
use Rattle.sweep_pool.proofs.PaintLaws.{painted-share}
use Rattle.sweep_pool.proofs.painting.paint_share.Goals as goal

pub returns : goal.returns
returns g c =
    let s = c.args.painting.now.heap.now in
    let board = c.args.painting.now.board.now in
    let blank = c.requires.blank in
    let share = rw c.held_blocks.ensures.count at c.share_of-blocks.ensures in
    let all = painted-share s board c.share_of-blocks.result.start c.share_of-blocks.result.end c.args.share.seat c.paint.new.seat blank.none blank.sound c.paint.ensures in
    let from_start = subst (λ n. HasPainted s board n c.share_of-blocks.result.end c.paint.new.seat) share.start all in
    record {
      painted = subst (λ n. HasPainted s board (share_start (length (due s)) c.args.painting.now.workers c.args.share.number) n c.paint.new.seat) share.end from_start;
      part = c.paint.ensures.parts ∙ blank.part;
    }
