-- What is said on standard error beside what is answered for words and a reader.
use Rattle.std.specs.Prelude.{◌≡◌, ℕ, Bool, false, List, ◌++◌, Option, ◌==◌, ◌||◌}
use Rattle.std.specs.Io.KnownBytes.{Appends}
use Rattle.program_devices.specs.Device.{AppendsBeginning, ReadsUpTo}
use Rattle.check_command.specs.Answer.{most_read}
use Rattle.log_notes.specs.Beside.{IsBeside}

-- Statuses with which nothing is judged: nothing is said beside them.
abbrev pub is_silent : ℕ → Bool
is_silent status = status == 1 || (status == 2 || status == 4)

-- What is said beside the answer (`IsBeside`), of a reader whose known bytes were unread and are left now.
pub record IsBesideRead (unread left : Option (List ℕ)) (status : ℕ) (text : List ℕ) : Type 0 where
  pub input : List ℕ
  pub reads : ReadsUpTo most_read unread left input
  pub is : IsBeside input status text

-- The known bytes of a sink grew by such a text, or by a beginning of it where a write failed.
pub record IsSaid (is : List ℕ → Type 0) (has_failed : Bool) (old new : Option (List ℕ)) : Type 0 where
  pub text : List ℕ
  pub text_is : is text
  pub begun : AppendsBeginning old new text
  pub whole : has_failed ≡ false → Appends old new text
