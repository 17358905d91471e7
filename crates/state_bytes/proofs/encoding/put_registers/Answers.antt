use Rattle.std.proofs.Common.{◌+◌, ◌*◌, refl, arith}
use Rattle.state_bytes.specs.Text.{register_text}
use Rattle.state_bytes.proofs.PieceLaws.{registers_long}
use Rattle.state_bytes.proofs.WritingLaws.{register_written, written_begin, written_more}
use Rattle.state_bytes.proofs.encoding.put_registers.Goals as goal

pub loop-r-init : goal.loop-r-init
loop-r-init c = written_begin (register_text c.args.registers.now) c.args.out.now c.args.start

pub loop-r-preserved : goal.loop-r-preserved
loop-r-preserved c =
    let long = registers_long c.args.registers.now c.loop-r.r in
    written_more c.args.out.now c.loop-r.out c.put_flag.new.out (register_text c.args.registers.now) _ c.args.start (c.args.start + 17 * c.loop-r.r) c.loop-r.r
    (omega (arith, long, c.requires.inside, c.loop-r-test.true)) (omega (arith, long)) refl c.loop-r.invariant
    (register_written c.args.registers.now c.loop-r.r c.get-tag.result c.loop-r.out _ _ (c.args.start + 17 * c.loop-r.r) (omega (arith, c.requires.inside, c.loop-r-test.true, c.loop-r.auto.out)) c.get-tag.ensures.value
    c.put_16.ensures c.put_flag.ensures)
