-- What the crates above need of answers that were written, whole or in part.
use Rattle.std.specs.Prelude.{◌≡◌, ℕ, List, Option}
use Rattle.std.proofs.Common.{arith, subst, sym}
use Rattle.std.proofs.KnownBytes.{Appends-nil}
use Rattle.std.specs.Io.KnownBytes.{Appends}
use Rattle.program_devices.specs.Answer.{BeginsAnswer, HasAnswered, memory_line}
use Rattle.program_devices.specs.Device.{AppendsBeginning}

-- An answer that was written whole.
pub HasAnswered-told : (is_answer : ℕ → List ℕ → Type 0) (status said : ℕ) (text : List ℕ) (old new : Option (List ℕ)) → is_answer said text
    → (status ≡ said) × Appends old new text → HasAnswered is_answer status old new
HasAnswered-told is_answer status said text old new is (same, written) = record { text = text; is = subst (λ n. is_answer n text) (sym same) is; written = written }

-- An answer of which a beginning was written.
pub BeginsAnswer-told : (is_answer : ℕ → List ℕ → Type 0) (said : ℕ) (text : List ℕ) (old new : Option (List ℕ)) → is_answer said text
    → AppendsBeginning old new text → BeginsAnswer is_answer old new
BeginsAnswer-told is_answer said text old new is begun = record { status = said; text = text; is = is; begun = begun }

-- Where nothing was written.
pub BeginsAnswer-unwritten : (is_answer : ℕ → List ℕ → Type 0) (same : Option (List ℕ)) → is_answer 1 memory_line → BeginsAnswer is_answer same same
BeginsAnswer-unwritten is_answer same is = record { status = 1; text = memory_line; is = is; begun = (0, omega arith, Appends-nil same) }
