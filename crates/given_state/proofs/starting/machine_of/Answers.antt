use Rattle.given_state.proofs.FitLaws.{IsOk-made}
use Rattle.given_state.proofs.starting.machine_of.Goals as goal

pub unwrap-requires : goal.unwrap-requires
unwrap-requires c = IsOk-made c.args.heap c.args.memory c.args.registers c.of.result c.requires c.of.ensures.flaw
