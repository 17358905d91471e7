use Rattle.trace_text.proofs.CommandLines.{HasFault-read, IsCommand-read, command_of-HasFault, command_of-IsCommand}
use Rattle.trace_text.proofs.laws.command_grammar_law.Goals as goal

pub returns-clause-command : goal.returns-clause-command
returns-clause-command c = λ words command. (IsCommand-read words command, command_of-IsCommand words command)

pub returns-clause-fault : goal.returns-clause-fault
returns-clause-fault c = λ name words fault. (HasFault-read name words fault, command_of-HasFault name words fault)
