use Rattle.std.proofs.Common.{◌≡◌, ◌<◌, ◌+◌, false, length}
use Rattle.program_devices.proofs.ReadLemmas.{HasRead, reads_left}
use Rattle.program_devices.proofs.devices.reading.read_text.Given as goal

abbrev pub invariant-loop-is_at_end : goal.invariant-loop-is_at_end
invariant-loop-is_at_end g l =
    HasRead (l.longest + 1) (g.I.Source.remaining l.initial.reader) (g.I.Source.remaining l.reader) l.text.items l.is_at_end × (g.I.Source.failed l.reader ≡ false)
    × (0 < length l.chunk.items)

abbrev pub decreases-loop-is_at_end : goal.decreases-loop-is_at_end
decreases-loop-is_at_end g l = reads_left (l.longest + 1) l.is_at_end (length l.text.items)
