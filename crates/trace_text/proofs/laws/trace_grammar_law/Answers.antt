use Rattle.trace_text.proofs.WholeText.{IsFaulty-read, IsTrace-read, trace_of-IsFaulty, trace_of-IsTrace}
use Rattle.trace_text.proofs.laws.trace_grammar_law.Goals as goal

pub returns-clause-trace : goal.returns-clause-trace
returns-clause-trace c = λ text script. (IsTrace-read text script, trace_of-IsTrace text script)

pub returns-clause-fault : goal.returns-clause-fault
returns-clause-fault c = λ text fault. (IsFaulty-read text fault, trace_of-IsFaulty text fault)
