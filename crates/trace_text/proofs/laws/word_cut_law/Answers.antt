use Rattle.trace_text.proofs.WordCuts.{cut_of, cut_read, lack_of, lack_read}
use Rattle.trace_text.proofs.laws.word_cut_law.Goals as goal

pub returns-clause-parts : goal.returns-clause-parts
returns-clause-parts c = λ word words before after. (cut_read word words before after, cut_of word words before after)

pub returns-clause-none : goal.returns-clause-none
returns-clause-none c = λ word words. (lack_read word words, lack_of word words)
