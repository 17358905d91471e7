-- What is said beside the fault of a log on standard error: it begins with the line that the fault names.
use Rattle.std.specs.Prelude.{◌≡◌, ℕ, List, [], ◌∷◌, ◌++◌, Option, None, Some, Err, codes}
use Rattle.std.specs.Fmt.{decimal}
use Rattle.std.specs.List.{concat}
use Rattle.trace_text.specs.declared.fault.TraceFault.TheVariants.{BadCommand, BadCount, BadData, BadHeap, BadNumber, BadRegister, Memory, NoHeap, TooLong}
use Rattle.log_text.specs.declared.fault.LogFault.{LogFault}
use Rattle.log_text.specs.declared.fault.LogFault.TheVariants.{BadAnswer, Trace}
use Rattle.log_text.specs.Log.{log_of}

-- The number of the line that a fault names.
abbrev pub numbered : LogFault → Option ℕ
numbered (BadAnswer line) = Some line
numbered (Trace Memory) = None
numbered (Trace TooLong) = None
numbered (Trace (NoHeap line)) = Some line
numbered (Trace (BadHeap line)) = Some line
numbered (Trace (BadCommand line)) = Some line
numbered (Trace (BadCount line)) = Some line
numbered (Trace (BadRegister line)) = Some line
numbered (Trace (BadNumber line)) = Some line
numbered (Trace (BadData line)) = Some line

-- What begins so.
abbrev pub begun_at : Option ℕ → List ℕ
begun_at None = codes "heap_check: "
begun_at (Some line) = concat (codes "heap_check: line " ∷ decimal line ∷ codes ": " ∷ [])

abbrev pub begun_for : LogFault → List ℕ
begun_for fault = begun_at (numbered fault)

-- The text says something of the first fault of this log.
pub record IsHint (log text : List ℕ) : Type 0 where
  pub fault : LogFault
  pub fault_is : log_of log ≡ Err fault
  pub rest : List ℕ
  pub text_is : text ≡ begun_for fault ++ rest
