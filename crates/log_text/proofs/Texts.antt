-- Reading the lines one after the other, as a loop does.
use Rattle.std.proofs.Common.{◌≡◌, ℕ, ◌+◌, List, [], ◌∷◌, ◌++◌, Option, Result, Ok, Err, refl, sym, ap, ◌∙◌, append_assoc}
use Rattle.std.proofs.lemmas.List.{append-nil}
use Rattle.trace_text.specs.declared.fault.TraceFault.TheVariants.{Memory}
use Rattle.trace_text.specs.Lines.{lines_of, words_of}
use Rattle.trace_text.specs.Reading.{◌>>=◌}
use Rattle.log_text.specs.declared.given.Early.{Early}
use Rattle.log_text.specs.declared.given.Early.TheVariants as early
use Rattle.log_text.specs.declared.log.Event.{Event}
use Rattle.log_text.specs.declared.log.Given.{Given}
use Rattle.log_text.specs.declared.fault.LogFault.{LogFault}
use Rattle.log_text.specs.declared.fault.LogFault.TheVariants.{Trace}
use Rattle.log_text.specs.Log.{Fails, Start, early_at, event_at, events_from, givens_from, listed_event, start_with}

-- a call that answers the fault that was read
pub fails_with : {Y : Type 0} (fault : LogFault) (read : Result Y LogFault) → read ≡ Err fault → Fails fault read
fails_with (Trace Memory) read h = tt
fails_with fault read h = h

-- ---- given lines

abbrev pub with_givens : List (ℕ × Given) → Result Start LogFault → Result Start LogFault
with_givens front read = read >>= λ start. Ok (record { givens = front ++ start.givens; next = start.next; rest = start.rest })

abbrev starts : List (ℕ × Given) → ℕ → List ℕ → List ℕ → Result Early LogFault → Result Start LogFault
starts front number line rest read = with_givens front (read >>= start_with number (line ∷ lines_of rest) (givens_from (number + 1) (lines_of rest)))

givens_step : (front : List (ℕ × Given)) (number : ℕ) (text line rest : List ℕ) (read : Result Early LogFault) → lines_of text ≡ line ∷ lines_of rest
    → read ≡ early_at number (words_of line) → with_givens front (givens_from number (lines_of text)) ≡ starts front number line rest read
unfolding givens_from
givens_step front number text line rest read cut is =
    ap (λ lines. with_givens front (givens_from number lines)) cut ∙ ap (starts front number line rest) (sym is)

-- the given line that was read, with its number
abbrev pub listed_given : ℕ → Early → List (ℕ × Given)
listed_given number (early.Given given) = (number, given) ∷ []
listed_given number line = []

regroup_given : (front : List (ℕ × Given)) (number : ℕ) (given : Given) (read : Result Start LogFault)
    → with_givens (front ++ ((number, given) ∷ [])) read ≡ with_givens front (read >>= λ start. Ok (record { givens = (number, given) ∷ start.givens; next = start.next; rest = start.rest }))
regroup_given front number given (Ok start) = ap (λ givens. Ok (record { givens = givens; next = start.next; rest = start.rest })) (append_assoc front ((number, given) ∷ []) start.givens)
regroup_given front number given (Err fault) = refl

pub givens_pass : (front : List (ℕ × Given)) (number : ℕ) (text line rest : List ℕ) (total : Result Start LogFault) → lines_of text ≡ line ∷ lines_of rest
    → Ok early.Passed ≡ early_at number (words_of line) → with_givens front (givens_from number (lines_of text)) ≡ total → with_givens front (givens_from (number + 1) (lines_of rest)) ≡ total
givens_pass front number text line rest total cut is told = sym (givens_step front number text line rest (Ok early.Passed) cut is) ∙ told

pub givens_go_on : (front : List (ℕ × Given)) (number : ℕ) (text line rest : List ℕ) (given : Given) (total : Result Start LogFault) → lines_of text ≡ line ∷ lines_of rest
    → Ok (early.Given given) ≡ early_at number (words_of line) → with_givens front (givens_from number (lines_of text)) ≡ total
    → with_givens (front ++ ((number, given) ∷ [])) (givens_from (number + 1) (lines_of rest)) ≡ total
givens_go_on front number text line rest given total cut is told =
    regroup_given front number given (givens_from (number + 1) (lines_of rest)) ∙ sym (givens_step front number text line rest (Ok (early.Given given)) cut is) ∙ told

pub givens_end : (front : List (ℕ × Given)) (number : ℕ) (text line rest : List ℕ) (total : Result Start LogFault) → lines_of text ≡ line ∷ lines_of rest
    → Ok early.Event ≡ early_at number (words_of line) → with_givens front (givens_from number (lines_of text)) ≡ total
    → total ≡ Ok (record { givens = front; next = number; rest = lines_of text })
givens_end front number text line rest total cut is told =
    sym told ∙ givens_step front number text line rest (Ok early.Event) cut is
    ∙ ap (λ givens. Ok (record { givens = givens; next = number; rest = line ∷ lines_of rest })) (append-nil front)
    ∙ ap (λ lines. Ok (record { givens = front; next = number; rest = lines })) (sym cut)

pub givens_stop : (front : List (ℕ × Given)) (number : ℕ) (fault : LogFault) (text line rest : List ℕ) (total : Result Start LogFault) → lines_of text ≡ line ∷ lines_of rest
    → Err fault ≡ early_at number (words_of line) → with_givens front (givens_from number (lines_of text)) ≡ total → Fails fault total
givens_stop front number fault text line rest total cut is told =
    fails_with fault total (sym told ∙ givens_step front number text line rest (Err fault) cut is)

pub givens_run_out : (front : List (ℕ × Given)) (number : ℕ) (text : List ℕ) (total : Result Start LogFault) → text ≡ []
    → with_givens front (givens_from number (lines_of text)) ≡ total → total ≡ Ok (record { givens = front; next = number; rest = lines_of text })
unfolding givens_from
givens_run_out front number text total none told =
    sym told ∙ ap (λ bs. with_givens front (givens_from number (lines_of bs))) none
    ∙ ap (λ givens. Ok (record { givens = givens; next = number; rest = [] })) (append-nil front)
    ∙ ap (λ bs. Ok (record { givens = front; next = number; rest = lines_of bs })) (sym none)

-- ---- events

abbrev pub with_front : List (ℕ × Event) → Result (List (ℕ × Event)) LogFault → Result (List (ℕ × Event)) LogFault
with_front front read = read >>= λ list. Ok (front ++ list)

abbrev lists : List (ℕ × Event) → ℕ → List (List ℕ) → Result (Option Event) LogFault → Result (List (ℕ × Event)) LogFault
lists front number lines read = with_front front (read >>= λ event. events_from (number + 1) lines >>= λ list. Ok (listed_event number event ++ list))

events_step : (front : List (ℕ × Event)) (number : ℕ) (text line rest : List ℕ) (read : Result (Option Event) LogFault) → lines_of text ≡ line ∷ lines_of rest
    → read ≡ event_at number (words_of line) → with_front front (events_from number (lines_of text)) ≡ lists front number (lines_of rest) read
unfolding events_from
events_step front number text line rest read cut is =
    ap (λ lines. with_front front (events_from number lines)) cut ∙ ap (lists front number (lines_of rest)) (sym is)

regroup : (front : List (ℕ × Event)) (number : ℕ) (event : Option Event) (read : Result (List (ℕ × Event)) LogFault)
    → with_front (front ++ listed_event number event) read ≡ with_front front (read >>= λ list. Ok (listed_event number event ++ list))
regroup front number event (Ok list) = ap Ok (append_assoc front (listed_event number event) list)
regroup front number event (Err fault) = refl

pub events_go_on : (front : List (ℕ × Event)) (number : ℕ) (text line rest : List ℕ) (event : Option Event) (total : Result (List (ℕ × Event)) LogFault)
    → lines_of text ≡ line ∷ lines_of rest → Ok event ≡ event_at number (words_of line) → with_front front (events_from number (lines_of text)) ≡ total
    → with_front (front ++ listed_event number event) (events_from (number + 1) (lines_of rest)) ≡ total
events_go_on front number text line rest event total cut is told =
    regroup front number event (events_from (number + 1) (lines_of rest)) ∙ sym (events_step front number text line rest (Ok event) cut is) ∙ told

pub events_stop : (front : List (ℕ × Event)) (number : ℕ) (fault : LogFault) (text line rest : List ℕ) (total : Result (List (ℕ × Event)) LogFault)
    → lines_of text ≡ line ∷ lines_of rest → Err fault ≡ event_at number (words_of line) → with_front front (events_from number (lines_of text)) ≡ total → Fails fault total
events_stop front number fault text line rest total cut is told =
    fails_with fault total (sym told ∙ events_step front number text line rest (Err fault) cut is)

pub events_end : (front : List (ℕ × Event)) (number : ℕ) (text : List ℕ) (total : Result (List (ℕ × Event)) LogFault)
    → text ≡ [] → with_front front (events_from number (lines_of text)) ≡ total → total ≡ Ok front
unfolding events_from
events_end front number text total none told =
    sym told ∙ ap (λ bs. with_front front (events_from number (lines_of bs))) none ∙ ap Ok (append-nil front)
