use Rattle.std.proofs.Common.{arith, false}
use Rattle.std.specs.Fmt.{digits}
use Rattle.heap_reply.proofs.DigitLaws.{length_hex_16}
use Rattle.heap_reply.proofs.ShortTextLaws.{fits, longer, put_is, utf8_hexadecimal}
use Rattle.heap_reply.proofs.short_text.ShortText.put_hexadecimal.Goals as goal

pub write_hexadecimal-self-inside-requires : goal.write_hexadecimal-self-inside-requires
write_hexadecimal-self-inside-requires c =
    fits 16 (digits 16 false c.args.number) c.args.self.now c.self.inside.room c.self.inside.start (length_hex_16 c.args.number c.ranges.number.fits) (omega (arith, c.requires.room)) (omega (arith, c.self.ranges)) c.self.invariant.within c.self.view_is

pub put-requires : goal.put-requires
put-requires c =
    let put = longer 16 (digits 16 false c.args.number) c.args.self.now _ _ (length_hex_16 c.args.number c.ranges.number.fits) c.self.view_is c.write_hexadecimal-self-inside.ensures.written in
    record { room = omega (arith, put, c.requires.room) }

pub returns-clause-length : goal.returns-clause-length
returns-clause-length c =
    let put = longer 16 (digits 16 false c.args.number) c.args.self.now _ _ (length_hex_16 c.args.number c.ranges.number.fits) c.self.view_is c.write_hexadecimal-self-inside.ensures.written in
    omega (arith, put, c.put.ensures.length)

pub invariant_of-self : goal.invariant_of-self
invariant_of-self c = put_is (digits 16 false c.args.number) _ _ _ _ (utf8_hexadecimal c.args.number) c.self.invariant c.write_hexadecimal-self-inside.ensures.start c.write_hexadecimal-self-inside.ensures.written
