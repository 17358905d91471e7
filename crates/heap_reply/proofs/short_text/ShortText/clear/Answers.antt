use Rattle.std.proofs.Common.{◌≡◌, [], arith, drop, subst, sym}
use Rattle.std.proofs.Math.ListN.{drop_of_length-le}
use Rattle.std.proofs.lemmas.Str.{IsUtf8-from_ascii}
use Rattle.std.proofs.lemmas.Str.Ascii.{IsAscii-nil}
use Rattle.std.specs.Str.{IsUtf8}
use Rattle.heap_reply.proofs.short_text.ShortText.clear.Goals as goal

pub invariant_of-self : goal.invariant_of-self
invariant_of-self c =
    let none : drop 256 c.self.inside.room ≡ [] = drop_of_length-le c.self.inside.room {i = 256} (omega (arith, c.self.ranges)) in
    record { within = omega arith; utf8 = subst IsUtf8 (sym none) (IsUtf8-from_ascii [] IsAscii-nil) }

pub returns : goal.returns
returns c = drop_of_length-le c.self.inside.room {i = 256} (omega (arith, c.self.ranges))
