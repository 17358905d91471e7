use Rattle.std.proofs.Common.{◌≡◌, ◌-◌, ◌≤◌, length}
use Rattle.trace_text.specs.Lines.{split_at_first, words_of}
use Rattle.trace_text.proofs.LineCuts.{PartsWords, cut_from}
use Rattle.trace_text.proofs.marked.Line.split_at_word.Given as goal

-- no word before the place is this one, and none is cut there
abbrev pub invariant-loop-start : goal.invariant-loop-start
invariant-loop-start l = record {
  within : l.place ≤ length l.self;
  parts : PartsWords l.self l.place;
  told : cut_from l.word l.self l.place ≡ split_at_first l.word (words_of l.self);
}

abbrev pub decreases-loop-start : goal.decreases-loop-start
decreases-loop-start l = length l.self - l.place
