use Rattle.std.proofs.Common.{◌≡◌, ◌+◌, ◌-◌, arith, append_assoc}
use Rattle.heap_reply.proofs.DigitLaws.{hex_pair, length_hex_pair}
use Rattle.heap_reply.proofs.digits.write_hexadecimal.Goals as goal

pub overflow_sub-at : goal.overflow_sub-at
overflow_sub-at c = omega (arith, length_hex_pair c.loop-rest.rest c.loop-rest-test.true c.loop-rest.auto.rest-fits.fits, c.loop-rest.invariant)

pub write_pair-requires : goal.write_pair-requires
write_pair-requires c = omega (arith, length_hex_pair c.loop-rest.rest c.loop-rest-test.true c.loop-rest.auto.rest-fits.fits, c.loop-rest.invariant, c.loop-rest.auto.room, c.requires)

pub overflow_sub-at-in-loop-rest : goal.overflow_sub-at-in-loop-rest
overflow_sub-at-in-loop-rest c = omega (arith, length_hex_pair c.loop-rest.rest c.loop-rest-test.true c.loop-rest.auto.rest-fits.fits, c.loop-rest.invariant)

pub loop-rest-preserved : goal.loop-rest-preserved
loop-rest-preserved c =
    let l = c.loop-rest in
    let long = length_hex_pair l.rest c.loop-rest-test.true l.auto.rest-fits.fits in
    let e : l.at - 2 + 2 ≡ l.at = omega (arith, l.invariant) in (
      omega (arith, l.invariant),
      omega (arith, l.invariant),
      omega (arith, l.invariant),
      rw (c.write_pair.ensures, e)
          (rw (hex_pair l.rest c.loop-rest-test.true l.auto.rest-fits.fits, append_assoc) at l.invariant.3),
    )
