-- How the fault of a text is told: its name, and the number of its line.
use Rattle.std.specs.Prelude.{ℕ, List, [], ◌∷◌, ◌++◌, codes}
use Rattle.std.specs.Fmt.{decimal}
use Rattle.std.specs.List.{concat}
use Rattle.trace_text.specs.declared.fault.TraceFault.{TraceFault}
use Rattle.trace_text.specs.declared.fault.TraceFault.TheVariants.{BadCommand, BadCount, BadData, BadHeap, BadNumber, BadRegister, Memory, NoHeap, TooLong}

abbrev pub fault_text : TraceFault → List ℕ
fault_text Memory = codes "memory"
fault_text TooLong = codes "too-long"
fault_text (NoHeap line) = codes "no-heap " ++ decimal line
fault_text (BadHeap line) = codes "bad-heap " ++ decimal line
fault_text (BadCommand line) = codes "bad-command " ++ decimal line
fault_text (BadCount line) = codes "bad-count " ++ decimal line
fault_text (BadRegister line) = codes "bad-register " ++ decimal line
fault_text (BadNumber line) = codes "bad-number " ++ decimal line
fault_text (BadData line) = codes "bad-data " ++ decimal line

-- What is written of a text that is no trace.
abbrev pub line_of_fault : TraceFault → List ℕ
line_of_fault fault = concat (codes "fault " ∷ fault_text fault ∷ codes "\n" ∷ [])
