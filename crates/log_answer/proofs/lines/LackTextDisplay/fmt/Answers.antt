use Rattle.std.proofs.lemmas.List.{append-nil}
use Rattle.std.specs.Fmt.{decimal}
use Rattle.log_answer.proofs.lines.LackTextDisplay.fmt.Goals as goal

pub returns-in-GranuleAgain-clause-writes : goal.returns-in-GranuleAgain-clause-writes
returns-in-GranuleAgain-clause-writes g c =
    rw (c.in-GranuleAgain.is, ← c.from.ensures, append-nil (decimal c.in-GranuleAgain.line)) c.write-in-GranuleAgain.ensures.writes

pub returns-in-Unguarded-clause-writes : goal.returns-in-Unguarded-clause-writes
returns-in-Unguarded-clause-writes g c = rw (c.in-Unguarded.is, ← c.from-in-Unguarded.ensures) c.write-in-Unguarded.ensures.writes
