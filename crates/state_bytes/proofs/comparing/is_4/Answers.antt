use Rattle.std.proofs.Common.{◌≡◌, ◌∙◌, refl, sym, rules, eq-eqb, arith}
use Rattle.std.proofs.lemmas.Bool.Decides.{nat_tests}
use Rattle.state_bytes.proofs.ReplayLaws.{from_place}
use Rattle.state_bytes.proofs.StandingLaws.{reads_standing, stands_read}
use Rattle.state_bytes.proofs.comparing.is_4.Goals as goal

pub returns-clause-yes : goal.returns-clause-yes
returns-clause-yes c = λ yes.
    let read = from_place 4 c.args.at c.args.at c.args.bytes.now c.read_u32.result c.read_u32.ensures refl in
    let same : c.read_u32.result ≡ c.args.number = grind (arith, nat_tests, yes) in
    stands_read c.args.bytes.now c.args.at 4 c.args.number c.requires.inside (search rules) (sym read ∙ same)

pub returns-clause-no : goal.returns-clause-no
returns-clause-no c = λ stands.
    let read = from_place 4 c.args.at c.args.at c.args.bytes.now c.read_u32.result c.read_u32.ensures refl in
    eq-eqb c.read_u32.result c.args.number (read ∙ reads_standing c.args.bytes.now c.args.at 4 c.args.number (search rules) stands)
