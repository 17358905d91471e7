-- Reading the lines one after the other, as a loop does.
use Rattle.std.proofs.Common.{◌≡◌, ℕ, ◌+◌, List, [], ◌∷◌, ◌++◌, Option, Some, None, Result, Ok, Err, refl, sym, ap, ◌∙◌, append_assoc}
use Rattle.std.proofs.lemmas.List.{append-nil}
use Rattle.trace_text.specs.declared.trace.Command.{Command}
use Rattle.trace_text.specs.declared.fault.TraceFault.{TraceFault}
use Rattle.trace_text.specs.declared.fault.TraceFault.TheVariants.{Memory, NoHeap}
use Rattle.trace_text.specs.Lines.{lines_of, words_of}
use Rattle.trace_text.specs.Reading.{◌>>=◌, Fails, Opening, command_at, commands_from, heap_at, listed_command, opening_with, opening_from}

-- a call that answers the fault that was read
pub fails_with : {Y : Type 0} (fault : TraceFault) (read : Result Y TraceFault) → read ≡ Err fault → Fails fault read
fails_with Memory read h = tt
fails_with fault read h = h

-- ---- lines up to the heap line

abbrev opens : ℕ → List (List ℕ) → Result (Option (ℕ × ℕ)) TraceFault → Result Opening TraceFault
opens number lines read = read >>= opening_with (number + 1) lines (opening_from (number + 1) lines)

opening_step : (number : ℕ) (text line rest : List ℕ) (read : Result (Option (ℕ × ℕ)) TraceFault) → lines_of text ≡ line ∷ lines_of rest → read ≡ heap_at number (words_of line)
    → opening_from number (lines_of text) ≡ opens number (lines_of rest) read
unfolding opening_from
opening_step number text line rest read cut is = ap (opening_from number) cut ∙ ap (opens number (lines_of rest)) (sym is)

pub opening_goes_on : (number : ℕ) (text line rest : List ℕ) (total : Result Opening TraceFault) → lines_of text ≡ line ∷ lines_of rest
    → Ok None ≡ heap_at number (words_of line) → opening_from number (lines_of text) ≡ total → opening_from (number + 1) (lines_of rest) ≡ total
opening_goes_on number text line rest total cut is told = sym (opening_step number text line rest (Ok None) cut is) ∙ told

pub opening_is : (number base pages : ℕ) (text line rest : List ℕ) (total : Result Opening TraceFault) → lines_of text ≡ line ∷ lines_of rest
    → Ok (Some (base, pages)) ≡ heap_at number (words_of line) → opening_from number (lines_of text) ≡ total
    → total ≡ Ok (record { base = base; pages = pages; next = number + 1; rest = lines_of rest })
opening_is number base pages text line rest total cut is told =
    sym told ∙ opening_step number text line rest (Ok (Some (base, pages))) cut is

pub opening_stops : (number : ℕ) (fault : TraceFault) (text line rest : List ℕ) (total : Result Opening TraceFault) → lines_of text ≡ line ∷ lines_of rest
    → Err fault ≡ heap_at number (words_of line) → opening_from number (lines_of text) ≡ total → Fails fault total
opening_stops number fault text line rest total cut is told =
    fails_with fault total (sym told ∙ opening_step number text line rest (Err fault) cut is)

pub opening_lacks : (number : ℕ) (text : List ℕ) (total : Result Opening TraceFault) → text ≡ [] → opening_from number (lines_of text) ≡ total → total ≡ Err (NoHeap number)
unfolding opening_from
opening_lacks number text total none told = sym told ∙ ap (λ bs. opening_from number (lines_of bs)) none

-- ---- lines after it

abbrev pub with_front : List (ℕ × Command) → Result (List (ℕ × Command)) TraceFault → Result (List (ℕ × Command)) TraceFault
with_front front read = read >>= λ list. Ok (front ++ list)

abbrev lists : List (ℕ × Command) → ℕ → List (List ℕ) → Result (Option Command) TraceFault → Result (List (ℕ × Command)) TraceFault
lists front number lines read = with_front front (read >>= λ command. commands_from (number + 1) lines >>= λ list. Ok (listed_command number command ++ list))

commands_step : (front : List (ℕ × Command)) (number : ℕ) (text line rest : List ℕ) (read : Result (Option Command) TraceFault) → lines_of text ≡ line ∷ lines_of rest
    → read ≡ command_at number (words_of line) → with_front front (commands_from number (lines_of text)) ≡ lists front number (lines_of rest) read
unfolding commands_from
commands_step front number text line rest read cut is =
    ap (λ lines. with_front front (commands_from number lines)) cut ∙ ap (lists front number (lines_of rest)) (sym is)

regroup : (front : List (ℕ × Command)) (number : ℕ) (command : Option Command) (read : Result (List (ℕ × Command)) TraceFault)
    → with_front (front ++ listed_command number command) read ≡ with_front front (read >>= λ list. Ok (listed_command number command ++ list))
regroup front number command (Ok list) = ap Ok (append_assoc front (listed_command number command) list)
regroup front number command (Err fault) = refl

pub commands_go_on : (front : List (ℕ × Command)) (number : ℕ) (text line rest : List ℕ) (command : Option Command) (total : Result (List (ℕ × Command)) TraceFault)
    → lines_of text ≡ line ∷ lines_of rest → Ok command ≡ command_at number (words_of line) → with_front front (commands_from number (lines_of text)) ≡ total
    → with_front (front ++ listed_command number command) (commands_from (number + 1) (lines_of rest)) ≡ total
commands_go_on front number text line rest command total cut is told =
    regroup front number command (commands_from (number + 1) (lines_of rest)) ∙ sym (commands_step front number text line rest (Ok command) cut is) ∙ told

pub commands_pass : (front : List (ℕ × Command)) (number : ℕ) (text line rest : List ℕ) (total : Result (List (ℕ × Command)) TraceFault)
    → lines_of text ≡ line ∷ lines_of rest → Ok None ≡ command_at number (words_of line) → with_front front (commands_from number (lines_of text)) ≡ total
    → with_front front (commands_from (number + 1) (lines_of rest)) ≡ total
commands_pass front number text line rest total cut is told =
    rw append-nil at (commands_go_on front number text line rest None total cut is told)

pub commands_stop : (front : List (ℕ × Command)) (number : ℕ) (fault : TraceFault) (text line rest : List ℕ) (total : Result (List (ℕ × Command)) TraceFault)
    → lines_of text ≡ line ∷ lines_of rest → Err fault ≡ command_at number (words_of line) → with_front front (commands_from number (lines_of text)) ≡ total → Fails fault total
commands_stop front number fault text line rest total cut is told =
    fails_with fault total (sym told ∙ commands_step front number text line rest (Err fault) cut is)

pub commands_end : (front : List (ℕ × Command)) (number : ℕ) (text : List ℕ) (total : Result (List (ℕ × Command)) TraceFault)
    → text ≡ [] → with_front front (commands_from number (lines_of text)) ≡ total → total ≡ Ok front
unfolding commands_from
commands_end front number text total none told =
    sym told ∙ ap (λ bs. with_front front (commands_from number (lines_of bs))) none ∙ ap Ok (append-nil front)
