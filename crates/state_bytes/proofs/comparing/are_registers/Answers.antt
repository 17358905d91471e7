use Rattle.std.proofs.Common.{◌∙◌, ◌+◌, ◌*◌, refl, sym, arith}
use Rattle.state_bytes.specs.Text.{register_text}
use Rattle.state_bytes.proofs.PieceLaws.{registers_long}
use Rattle.state_bytes.proofs.StandingLaws.{stands_begin, stands_each, stands_more}
use Rattle.state_bytes.proofs.comparing.are_registers.Goals as goal

pub loop-r-init : goal.loop-r-init
loop-r-init c = stands_begin (register_text c.args.registers.now) c.args.bytes.now c.args.start

pub loop-r-preserved : goal.loop-r-preserved
loop-r-preserved c =
    let long = registers_long c.args.registers.now c.loop-r.r in
    stands_more c.args.bytes.now (register_text c.args.registers.now) _ c.args.start (c.args.start + 17 * c.loop-r.r) c.loop-r.r (omega (arith, long)) refl c.loop-r.invariant
    (c.is_register.ensures.yes c.if-not-is_register.false)

pub returns-then-not-is_register-clause-no : goal.returns-then-not-is_register-clause-no
returns-then-not-is_register-clause-no c = λ stands.
    let long = registers_long c.args.registers.now c.loop-r.r in
    sym c.if-not-is_register.true
    ∙ c.is_register.ensures.no (stands_each c.args.bytes.now (register_text c.args.registers.now) c.args.start (c.args.start + 17 * c.loop-r.r) c.loop-r.r 32 c.loop-r-test.true (omega (arith, long)) stands)
