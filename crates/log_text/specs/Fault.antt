-- How the fault of a log is told: its name, and the number of its line.
use Rattle.std.specs.Prelude.{ℕ, List, ◌++◌, codes}
use Rattle.std.specs.Fmt.{decimal}
use Rattle.trace_text.specs.Fault.{fault_text}
use Rattle.log_text.specs.declared.fault.LogFault.{LogFault}
use Rattle.log_text.specs.declared.fault.LogFault.TheVariants.{BadAnswer, Trace}

abbrev pub log_fault_text : LogFault → List ℕ
log_fault_text (Trace fault) = fault_text fault
log_fault_text (BadAnswer line) = codes "bad-answer " ++ decimal line
