use Rattle.std.proofs.Common.{◌≡◌, ◌<◌, ◌^◌, ◌+◌, ◌-◌, arith, append_assoc}
use Rattle.std.proofs.lemmas.List.{drop-set}
use Rattle.heap_reply.proofs.DigitLaws.{hex_step, length_hex_step}
use Rattle.heap_reply.proofs.digits.write_wide_hexadecimal.Goals as goal

pub overflow_sub-at : goal.overflow_sub-at
overflow_sub-at c = omega (arith, length_hex_step c.loop-rest.rest (omega (arith, c.loop-rest-test.true)) (omega (arith, c.loop-rest.auto.rest-fits.fits)), c.loop-rest.invariant)

pub bounds-room-at : goal.bounds-room-at
bounds-room-at c = omega (arith, length_hex_step c.loop-rest.rest (omega (arith, c.loop-rest-test.true)) (omega (arith, c.loop-rest.auto.rest-fits.fits)), c.loop-rest.invariant, c.loop-rest.auto.room, c.requires)

pub loop-rest-preserved : goal.loop-rest-preserved
loop-rest-preserved c =
    let l = c.loop-rest in
    let small : l.rest < 2 ^ 128 = omega (arith, l.auto.rest-fits.fits) in
    let long = length_hex_step l.rest (omega (arith, c.loop-rest-test.true)) small in
    let e : l.at - 1 + 1 ≡ l.at = omega (arith, l.invariant) in (
      omega (arith, l.invariant),
      omega (arith, l.invariant),
      omega (arith, l.invariant),
      rw (drop-set l.room (l.at - 1) _ (omega (arith, l.invariant, l.auto.room, c.requires)), e, c.digit.ensures)
          (rw (hex_step l.rest (omega (arith, c.loop-rest-test.true)) small, append_assoc) at l.invariant.3),
    )
