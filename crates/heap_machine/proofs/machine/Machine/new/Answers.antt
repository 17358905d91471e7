use Rattle.std.proofs.Common.{rules}
use Rattle.machine_steps.specs.DirtyLaws.{InDirtyPages-first}
use Rattle.machine_steps.specs.SoundLaws.{IsMachine-first}
use Rattle.heap_machine.proofs.machine.Machine.new.Goals as goal

pub invariant_of-result : goal.invariant_of-result
invariant_of-result c =
    record {
      base = search rules;
      sound = IsMachine-first _ c.args.base c.args.pages (search rules) (search rules) (search rules) c.new-3.ensures;
      dirtied = InDirtyPages-first c.in-Ok.memory.granules c.in-Ok.memory.dirty c.in-Ok-new.heap c.args.base c.args.pages c.in-Ok-new.ensures.empty;
    }

pub returns-clause-safe : goal.returns-clause-safe
returns-clause-safe c = (invariant_of-result c).sound.safe
