use Rattle.std.proofs.Common.{◌+◌, ◌==◌}
use Rattle.std.proofs.lemmas.List.{take_rest}
use Rattle.trace_text.proofs.FirstLine.{lines_to}
use Rattle.trace_text.proofs.FirstWord.{ends_behind}
use Rattle.trace_text.proofs.words.split_from.Goals as goal

pub returns-clause-line : goal.returns-clause-line
returns-clause-line c =
    let text = c.args.text.now in
    let place = c.args.place in
    let more = c.bytes_before_feed.result in
    rw (c.line_of.ensures, take_rest text c.min.result)
    (lines_to text (place + more) c.min.result c.requires.some
    (ends_behind (λ byte. byte == 10) text place more c.requires.within c.requires.none (rw (take_rest text place) at c.bytes_before_feed.ensures)) c.min.ensures)
