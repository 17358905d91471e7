use Rattle.std.proofs.Common.{◌<◌, ◌+◌, length, rules, arith}
use Rattle.state_bytes.specs.Text.{dirty_text}
use Rattle.state_bytes.proofs.PieceLaws.{dirty_long}
use Rattle.state_bytes.proofs.PieceLaws.{dirty_is}
use Rattle.state_bytes.proofs.WritingLaws.{written_begin, written_more}
use Rattle.state_bytes.proofs.encoding.put_dirty.Goals as goal

pub loop-page-init : goal.loop-page-init
loop-page-init c = written_begin (dirty_text c.args.memory.now.dirty) c.args.out.now c.args.start

pub loop-page-preserved : goal.loop-page-preserved
loop-page-preserved c =
    let long = dirty_long c.args.memory.now.dirty c.loop-page.page in
    let lt : c.loop-page.page < length c.args.memory.now.dirty = search rules in
    written_more c.args.out.now c.loop-page.out c.put_flag.new.out (dirty_text c.args.memory.now.dirty) _ c.args.start (c.args.start + c.loop-page.page) c.loop-page.page
    (omega (arith, long, c.requires.inside, lt)) (omega (arith, long)) (dirty_is c.args.memory.now.dirty c.loop-page.page c.dirty.result c.dirty.ensures) c.loop-page.invariant c.put_flag.ensures
