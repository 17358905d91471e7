use Rattle.std.proofs.Common.{arith}
use Rattle.std.specs.Fmt.{decimal}
use Rattle.heap_reply.proofs.DigitLaws.{length_decimal_20}
use Rattle.heap_reply.proofs.ShortTextLaws.{fits, longer, put_is, utf8_decimal}
use Rattle.heap_reply.proofs.short_text.ShortText.put_decimal.Goals as goal

pub write_digits-self-inside-requires : goal.write_digits-self-inside-requires
write_digits-self-inside-requires c =
    fits 20 (decimal c.args.number) c.args.self.now c.self.inside.room c.self.inside.start (length_decimal_20 c.args.number c.ranges.number.fits) (omega (arith, c.requires.room)) (omega (arith, c.self.ranges)) c.self.invariant.within c.self.view_is

pub returns-clause-length : goal.returns-clause-length
returns-clause-length c =
    longer 20 (decimal c.args.number) c.args.self.now _ _ (length_decimal_20 c.args.number c.ranges.number.fits) c.self.view_is c.write_digits-self-inside.ensures.written

pub invariant_of-self : goal.invariant_of-self
invariant_of-self c = put_is (decimal c.args.number) _ _ _ _ (utf8_decimal c.args.number c.ranges.number.fits) c.self.invariant c.write_digits-self-inside.ensures.start c.write_digits-self-inside.ensures.written
