-- The sink took all of the text but `rest`, and no write has failed.
use Rattle.std.proofs.Common.{◌≡◌, length}
use Rattle.program_devices.proofs.SendLemmas.{TookUpTo}
use Rattle.program_devices.proofs.devices.writing.send.Given as goal

abbrev pub invariant-loop-rest : goal.invariant-loop-rest
invariant-loop-rest g l = TookUpTo l.initial.rest l.rest (g.O.Sink.contents l.initial.writer) (g.O.Sink.contents l.writer)
    × (g.O.Sink.failed l.writer ≡ g.O.Sink.failed l.initial.writer)

abbrev pub decreases-loop-rest : goal.decreases-loop-rest
decreases-loop-rest g l = length l.rest
