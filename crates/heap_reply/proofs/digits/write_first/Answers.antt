use Rattle.std.proofs.Common.{◌≡◌, ◌+◌, ◌-◌, arith, false}
use Rattle.std.proofs.lemmas.Fmt.{hex_one_digit}
use Rattle.std.proofs.lemmas.List.{drop-set}
use Rattle.heap_reply.proofs.DigitLaws.{hex_two, length_hex_one, length_hex_two}
use Rattle.heap_reply.proofs.digits.write_first.Goals as goal

pub overflow_sub-room : goal.overflow_sub-room
overflow_sub-room c = omega (arith, length_hex_one c.args.n c.if-n-lt16.true)

pub bounds-room-end : goal.bounds-room-end
bounds-room-end c = omega (arith, length_hex_one c.args.n c.if-n-lt16.true)

pub overflow_sub-result : goal.overflow_sub-result
overflow_sub-result c = omega (arith, length_hex_one c.args.n c.if-n-lt16.true)

pub returns-then-n-lt16-clause-start : goal.returns-then-n-lt16-clause-start
returns-then-n-lt16-clause-start c = omega (arith, length_hex_one c.args.n c.if-n-lt16.true)

pub returns-then-n-lt16-clause-written : goal.returns-then-n-lt16-clause-written
returns-then-n-lt16-clause-written c =
    let long = length_hex_one c.args.n c.if-n-lt16.true in
    let e : c.args.end - 1 + 1 ≡ c.args.end = omega arith in
    rw (drop-set c.args.room.now (c.args.end - 1) _ (omega arith), e, c.digit.ensures, hex_one_digit false c.args.n c.if-n-lt16.true)

pub overflow_sub-end : goal.overflow_sub-end
overflow_sub-end c = omega (arith, length_hex_two c.args.n c.if-n-lt16.false c.requires.0)

pub write_pair-requires : goal.write_pair-requires
write_pair-requires c = omega (arith, length_hex_two c.args.n c.if-n-lt16.false c.requires.0)

pub overflow_sub-result-2 : goal.overflow_sub-result-2
overflow_sub-result-2 c = omega (arith, length_hex_two c.args.n c.if-n-lt16.false c.requires.0)

pub returns-clause-start : goal.returns-clause-start
returns-clause-start c = omega (arith, length_hex_two c.args.n c.if-n-lt16.false c.requires.0)

pub returns-clause-written : goal.returns-clause-written
returns-clause-written c =
    let long = length_hex_two c.args.n c.if-n-lt16.false c.requires.0 in
    let e : c.args.end - 2 + 2 ≡ c.args.end = omega arith in
    rw (c.write_pair.ensures, e, hex_two c.args.n c.if-n-lt16.false c.requires.0)
