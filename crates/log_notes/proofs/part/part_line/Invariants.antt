use Rattle.std.proofs.Common.{◌≡◌, ◌++◌, map, take}
use Rattle.log_notes.specs.Part.{begun_part, shown_byte}
use Rattle.log_notes.proofs.part.part_line.Given as goal

abbrev pub invariant-loop-byte : goal.invariant-loop-byte
invariant-loop-byte l = l.line.items ≡ begun_part ++ map shown_byte (take l.byte-index l.told)
