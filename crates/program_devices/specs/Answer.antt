-- What a program over a trace answers: its exit status, and what it writes with it.
use Rattle.std.specs.Prelude.{◌≡◌, ℕ, List, Option, Result, Ok, Err, codes}
use Rattle.std.specs.Io.KnownBytes.{Appends}
use Rattle.command_line.specs.declared.asked.Refusal.{Refusal}
use Rattle.command_line.specs.declared.asked.Refusal.TheVariants.{Memory, Words}
use Rattle.program_devices.specs.declared.answer.Answer.{Answer}
use Rattle.program_devices.specs.Device.{AppendsBeginning}

-- What is written where memory runs out.
abbrev pub memory_line : List ℕ
memory_line = codes "fault memory\n"

-- The status of a refusal, and its line, of a program with this usage line.
abbrev pub refusal_status : Refusal → ℕ
refusal_status Memory = 1
refusal_status Words = 2

abbrev pub refusal_line : List ℕ → Refusal → List ℕ
refusal_line usage Memory = memory_line
refusal_line usage Words = usage

-- The status and the text of what was answered.
abbrev pub status_of : Result Answer Refusal → ℕ
status_of (Ok answer) = answer.status
status_of (Err refusal) = refusal_status refusal

abbrev pub text_of : List ℕ → Result Answer Refusal → List ℕ
text_of usage (Ok answer) = answer.text.items
text_of usage (Err refusal) = refusal_line usage refusal

-- The known bytes of a sink grew by the text of this status; which text goes with which status, is_answer says.
pub record HasAnswered (is_answer : ℕ → List ℕ → Type 0) (status : ℕ) (old new : Option (List ℕ)) : Type 0 where
  pub text : List ℕ
  pub is : is_answer status text
  pub written : Appends old new text

-- The known bytes of a sink grew by a beginning of the text of some status.
pub record BeginsAnswer (is_answer : ℕ → List ℕ → Type 0) (old new : Option (List ℕ)) : Type 0 where
  pub status : ℕ
  pub text : List ℕ
  pub is : is_answer status text
  pub begun : AppendsBeginning old new text
