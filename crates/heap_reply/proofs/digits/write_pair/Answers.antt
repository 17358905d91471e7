use Rattle.std.proofs.Common.{◌≡◌, ◌+◌, set, arith, length-set}
use Rattle.std.specs.Fmt.{digit_glyph}
use Rattle.std.proofs.Common.{◌%◌, false}
use Rattle.std.proofs.lemmas.List.{set_comm, drop-set}
use Rattle.heap_reply.proofs.DigitLaws.{PAIRS_at}
use Rattle.heap_reply.proofs.digits.write_pair.Goals as goal

pub returns : goal.returns
returns c =
    let p = PAIRS_at c.args.pair c.requires.0 in
    let at = c.args.at in
    let room = c.args.room.now in
    let second = digit_glyph false (c.args.pair % 16) in
    let e : at + 1 + 1 ≡ at + 2 = omega arith in
    rw (p.0, p.1, set_comm room at (at + 1) _ _ (λ x. omega arith), drop-set (set room (at + 1) second) at _ (omega (arith, length-set room (at + 1) second)), drop-set room (at + 1) _ (omega arith), e)
