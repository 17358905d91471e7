-- What is said beside an answer, in one write and in two.
use Rattle.std.proofs.Common.{◌≡◌, ℕ, ◌+◌, Bool, true, false, List, [], refl, Some, None, ◌++◌, length, take, Option, Result, Ok, Err, OnOk, OnErr, arith}
use Rattle.std.proofs.KnownBytes.{Appends-nil, Appends-trans}
use Rattle.std.proofs.Math.Seq.{take-append-add}
use Rattle.std.proofs.lemmas.List.{length-append, take_all, take-append-le}
use Rattle.std.specs.Io.KnownBytes.{Appends}
use Rattle.program_devices.specs.Device.{AppendsBeginning, FailsByError, ReadsUpTo}
use Rattle.check_command.specs.Answer.{most_read}
use Rattle.check_command.specs.Beside.{IsBesideRead, IsSaid}
use Rattle.log_notes.specs.Beside.{IsBeside, hints, tells_part}
use Rattle.log_notes.specs.Part.{IsPartTold, bare_line, part_comment, lacks_memory, whole_run}
use Rattle.log_notes.specs.Hint.{IsHint}

-- ---- one write

-- A write that was whole, or not, wrote a beginning.
pub begun_by : {T E : Type 0} (r : Result T E) (old new : Option (List ℕ)) (text : List ℕ) → OnOk r (Appends old new text) → OnErr r (AppendsBeginning old new text) → AppendsBeginning old new text
begun_by (Ok x) old new text whole part = (length text, omega arith, rw (take_all (length text) text (omega arith)) whole)
begun_by (Err e) old new text whole part = part

-- Where the device hasn't failed it was whole.
pub whole_by : {T E : Type 0} (r : Result T E) (old new : Option (List ℕ)) (text : List ℕ) (before after : Bool) → OnOk r (Appends old new text) → FailsByError before r after → before ≡ false → after ≡ false
    → Appends old new text
whole_by (Ok x) old new text before after whole fails e f = whole
whole_by (Err x) old new text before after whole fails e f = absurd (grind (arith, fails, e, f))

-- ---- two

pub begun_twice : (old mid new : Option (List ℕ)) (a b : List ℕ) → Appends old mid a → AppendsBeginning mid new b → AppendsBeginning old new (a ++ b)
begun_twice old mid new a b first (n, most, second) =
    (length a + n, omega (arith, length-append a b), rw (take-append-add a b n) (Appends-trans old mid new a (take n b) first second))

-- A beginning of the first is one of both.
pub begun_first : (old new : Option (List ℕ)) (a b : List ℕ) → AppendsBeginning old new a → AppendsBeginning old new (a ++ b)
begun_first old new a b (n, most, first) = (n, omega (arith, length-append a b), rw (take-append-le n a b most) first)

-- ---- that a log has a part of a run

pub said_by : (IsText : List ℕ → Type 0) (text : List ℕ) → IsText text → {T E : Type 0} (r : Result T E) (old new : Option (List ℕ)) (before after : Bool) → OnOk r (Appends old new text)
    → OnErr r (AppendsBeginning old new text) → FailsByError before r after → before ≡ false → IsSaid IsText after old new
said_by IsText text is r old new before after whole part fails working = record {
  text = text;
  text_is = is;
  begun = begun_by r old new text whole part;
  whole = λ e. whole_by r old new text before after whole fails working e;
}

pub said_nothing : (input : List ℕ) (failed : Bool) (same : Option (List ℕ)) → part_comment input ≡ None → IsSaid (IsPartTold input) failed same same
said_nothing input failed same none = record { text = []; text_is = whole_run none; begun = (0, omega arith, Appends-nil same); whole = λ e. Appends-nil same }

-- ---- what goes with a status

pub said_twice : (input hint : List ℕ) (failed : Bool) (old mid new : Option (List ℕ)) → IsHint input hint → Appends old mid hint → IsSaid (IsPartTold input) failed mid new → IsSaid (IsBeside input 3) failed old new
said_twice input hint failed old mid new is first part = record {
  text = hint ++ part.text;
  text_is = hints hint part.text is part.text_is;
  begun = begun_twice old mid new hint part.text first part.begun;
  whole = λ e. Appends-trans old mid new hint part.text first (part.whole e);
}

pub said_part : (input : List ℕ) (status : ℕ) (failed : Bool) (old new : Option (List ℕ)) → IsSaid (IsPartTold input) failed old new → IsSaid (IsBeside input status) failed old new
said_part input status failed old new part = record { text = part.text; text_is = tells_part status part.text part.text_is; begun = part.begun; whole = part.whole }

some_told : (input : List ℕ) (found : Option (List ℕ)) → part_comment input ≡ found → (part : List ℕ) × IsPartTold input part
some_told input None e = ([], whole_run e)
some_told input (Some comment) e = (bare_line, lacks_memory comment e)

-- A beginning of the hint is one of it and whatever follows.
pub said_begun : (input hint : List ℕ) (failed : Bool) (old new : Option (List ℕ)) → IsHint input hint → AppendsBeginning old new hint → failed ≡ true → IsSaid (IsBeside input 3) failed old new
said_begun input hint failed old new is first has_failed =
    let part = some_told input (part_comment input) refl in
    record { text = hint ++ part.0; text_is = hints hint part.0 is part.1; begun = begun_first old new hint part.0 first; whole = λ e. absurd cc }

-- ---- of what was read

pub said_read : (unread left : Option (List ℕ)) (input : List ℕ) (status : ℕ) (failed : Bool) (old new : Option (List ℕ)) → ReadsUpTo most_read unread left input → IsSaid (IsBeside input status) failed old new
    → IsSaid (IsBesideRead unread left status) failed old new
said_read unread left input status failed old new reads said = record {
  text = said.text;
  text_is = record { input = input; reads = reads; is = said.text_is };
  begun = said.begun;
  whole = said.whole;
}
