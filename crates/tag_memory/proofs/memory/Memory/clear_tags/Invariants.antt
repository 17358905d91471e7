use Rattle.std.proofs.Common.{◌≡◌}
use Rattle.tag_memory.proofs.TakenLaws.{ArePageTagsTaken}
use Rattle.tag_memory.proofs.memory.Memory.clear_tags.Given as goal

abbrev pub invariant-loop-page : goal.invariant-loop-page
invariant-loop-page l =
    record {
      base : l.self-inside.base ≡ l.initial.self-inside.base;
      pages : l.self-inside.pages ≡ l.initial.self-inside.pages;
      bits : l.self-inside.bits.items ≡ l.initial.self-inside.bits.items;
      bases : l.self-inside.granules_of_bases.items ≡ l.initial.self-inside.granules_of_bases.items;
      dirty : l.self-inside.dirty.items ≡ l.initial.self-inside.dirty.items;
      taken : ArePageTagsTaken l.masks l.initial.self-inside.tags.items l.self-inside.tags.items l.initial.self-inside.may_hold.items l.self-inside.may_hold.items l.page;
    }
