use Rattle.std.proofs.Common.{◌≡◌, ◌-◌, ◌/◌, ◌^◌, arith, ⊎_elim}
use Rattle.std.proofs.lemmas.Bool.{cases_lt}
use Rattle.std.proofs.lemmas.Bool.Decides.{nat_tests}
use Rattle.std.proofs.lemmas.Nat.{and_mask}
use Rattle.cap_codec.proofs.CorrectedBounds.{bit_64-is, no_bit_64}
use Rattle.cap_codec.proofs.corrected.top_bit.Goals as goal

pub returns-clause-small : goal.returns-clause-small
returns-clause-small c = λ l.
    let none = no_bit_64 c.args.exponent c.args.mantissa l c.requires.mantissa in
    let mask = and_mask (c.args.mantissa / 2 / 2 ^ (63 - c.args.exponent)) 1 in
    grind (arith, nat_tests)

pub returns-clause-large : goal.returns-clause-large
returns-clause-large c = λ l.
    let same = bit_64-is c.args.exponent c.args.mantissa c.requires.exponent in
    let mask = and_mask (c.args.mantissa / 2 / 2 ^ (63 - c.args.exponent)) 1 in
    let zero : c.bit.result ≡ 0 = grind (arith, nat_tests) in
    omega arith

pub returns-clause-limit : goal.returns-clause-limit
returns-clause-limit c =
    let mask = and_mask (c.args.mantissa / 2 / 2 ^ (63 - c.args.exponent)) 1 in
    ⊎_elim (λ l. let none = no_bit_64 c.args.exponent c.args.mantissa l c.requires.mantissa in grind (arith, nat_tests))
    (λ l. let zero : c.bit.result ≡ 0 = grind (arith, nat_tests) in omega arith) (cases_lt c.args.exponent 51)
