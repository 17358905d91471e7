use Rattle.std.proofs.Common.{◌≡◌, ◌∙◌, ℕ, ap, length, set, sym, arith, rules}
use Rattle.data_tokens.specs.ChangeLaws.{register_at-all, set_one}
use Rattle.state_data.proofs.snapshot.Snapshot.follow_register.Goals as goal

pub returns-clause-registers : goal.returns-clause-registers
returns-clause-registers c =
    let old = c.args.self.now.registers in
    let now = c.args.registers.now in
    let count : length c.args.self.now.registers ≡ 32 = search rules in
    let value = c.get.ensures.value ∙ register_at-all now c.args.r c.invariant.ensures.zero in
    ap (λ (r : ℕ). set c.args.self.now.registers r c.get.result) c.from.ensures
    ∙ set_one old now c.args.r c.get.result (count ∙ sym c.invariant.ensures.count) (omega (arith, count, c.requires.within)) value c.requires.stay
