use Rattle.std.proofs.Common.{◌≡◌, ◌∷◌, ℕ, List, Some, None, Result, Ok, Err, false, refl, subst}
use Rattle.std.specs.Option.{ok_or}
use Rattle.std.specs.Prelude.{option_and_then}
use Rattle.trace_text.specs.declared.fault.LineFault.{LineFault}
use Rattle.trace_text.specs.Lines.{is_passed_over, split_at_first}
use Rattle.trace_text.specs.Reading.{◌>>=◌, fault_at}
use Rattle.log_text.specs.declared.event.Asked.{Asked}
use Rattle.log_text.specs.declared.fault.LogFault.{LogFault}
use Rattle.log_text.specs.declared.fault.LogFault.TheVariants.{BadAnswer, Trace}
use Rattle.log_text.specs.Asking.{IsFaultyLine}
use Rattle.log_text.specs.Log.{arrow, asked_of, event_at, event_of, on_line, event_of_answer}
use Rattle.log_text.proofs.asking.asked_line.Goals as goal

-- a line whose name and words are no event
faulty : (words : List (List ℕ)) (name : List ℕ) (rest : List (List ℕ)) → is_passed_over words ≡ false → words ≡ name ∷ rest
    → ((number : ℕ) → (fault : LogFault) × (event_of number name rest (split_at_first arrow rest) ≡ Err fault)) → IsFaultyLine words
unfolding event_at
faulty words name rest counts is each = λ number.
    let found = each number in
    let here : is_passed_over (name ∷ rest) ≡ false = subst (λ (ws : List (List ℕ)). is_passed_over ws ≡ false) is counts in
    (found.0, rw (is, here, found.1) refl)

-- what is read of a name and its operands, and no arrow after them
lacks : (number : ℕ) (read : Result Asked LineFault)
    → (fault : LogFault) × ((on_line number read >>= λ asked. ok_or (option_and_then (λ (both : List (List ℕ) × List (List ℕ)). event_of_answer asked both.1) None) (BadAnswer number)) ≡ Err fault)
lacks number (Ok asked) = (BadAnswer number, refl)
lacks number (Err fault) = (Trace (fault_at number fault), refl)

without_arrow : (words : List (List ℕ)) (name : List ℕ) (rest : List (List ℕ)) → is_passed_over words ≡ false → words ≡ name ∷ rest
    → None ≡ split_at_first arrow rest → IsFaultyLine words
unfolding event_of
without_arrow words name rest counts is none =
    faulty words name rest counts is (λ number. rw (← none) (lacks number (asked_of name rest)))

with_other_words : (words : List (List ℕ)) (name : List ℕ) (rest operands told : List (List ℕ)) (fault : LineFault) → is_passed_over words ≡ false → words ≡ name ∷ rest
    → Some (operands, told) ≡ split_at_first arrow rest → Err fault ≡ asked_of name operands → IsFaultyLine words
unfolding event_of
with_other_words words name rest operands told fault counts is some refused =
    faulty words name rest counts is (λ number. (Trace (fault_at number fault), rw (← some, ← refused) refl))

pub returns-in_err-operands : goal.returns-in_err-operands
returns-in_err-operands c = rw c.from_residual.ensures (without_arrow _ _ _ c.in-Some.ensures.counts c.in-Some.ensures.name c.in_err-operands.ensures)

pub returns-in-Err : goal.returns-in-Err
returns-in-Err c = with_other_words _ _ _ _ _ _ c.in-Some.ensures.counts c.in-Some.ensures.name c.in_ok-operands.ensures c.in-Err.ensures.value
