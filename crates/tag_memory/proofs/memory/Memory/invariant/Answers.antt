use Rattle.tag_memory.proofs.PackedLaws.{Packs, whole}
use Rattle.tag_memory.proofs.memory.Memory.invariant.Goals as goal

pub returns : goal.returns
returns c =
    let p : Packs c.self.inside c.args.self.now = record { view = c.self.view_is; invariant = c.self.invariant } in
    whole p
