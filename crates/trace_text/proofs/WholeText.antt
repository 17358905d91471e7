-- A text is read as a trace exactly where the grammar says that it is it, and else as its fault.
use Rattle.std.proofs.Common.{◌≡◌, ◌≢◌, ℕ, ◌+◌, Bool, true, false, cond, nat_lt, IsTrue, List, [], ◌∷◌, ◌++◌, Option, Some, None, Result, Ok, Err, MatchResult, length, ◌⊎◌, inl, inr, refl, sym, ap, subst, ◌∙◌, arith}
use Rattle.std.specs.List.{AllByRecursion}
use Rattle.std.proofs.lemmas.Bool.Decides.{nat_tests}
use Rattle.trace_text.specs.declared.trace.Command.{Command}
use Rattle.trace_text.specs.declared.trace.Command.TheVariants.{Malloc, Free, Copy, SetAddr, Narrow, AndPerm, StoreCap, LoadCap, Write, Show, Sweep, Begin, End}
use Rattle.trace_text.specs.declared.fault.LineFault.{LineFault}
use Rattle.trace_text.specs.declared.fault.LineFault.TheVariants as line_fault
use Rattle.trace_text.specs.declared.fault.TraceFault.{TraceFault}
use Rattle.trace_text.specs.declared.fault.TraceFault.TheVariants.{Memory, TooLong, NoHeap, BadHeap, BadCommand, BadCount, BadRegister, BadNumber, BadData}
use Rattle.trace_text.specs.Grammar.{AreCommands, ComesAfter, HasFault, HasFaultyLine, IsCommand, IsFaulty, IsFine, IsHeapLine, IsPassedOver, IsShort, IsTrace}
use Rattle.trace_text.specs.Lines.{is_passed_over, lines_of, longest_text, words_of}
use Rattle.trace_text.specs.Reading.{◌>>=◌, Fails, Opening, Script, command_at, command_of, commands_from, fault_at, heap_at, listed_command, opening_with, opening_from, read_at, trace_of}
use Rattle.trace_text.proofs.CommandLines.{Read, command_of-HasFault, command_of-IsCommand, command_read}
use Rattle.trace_text.proofs.HeapLines.{HeapFault, HeapRead, heap_at-IsHeapLine, heap_at-fault, heap_at-passed, heap_at-read}
use Rattle.trace_text.proofs.HeapLines.HeapFault.{bad_heap, other_word}

-- ---- a line after the heap line

-- a line that is no command, and its fault
record IsNoCommand (number : ℕ) (words : List (List ℕ)) (fault : TraceFault) : Type 0 where
  kind : LineFault
  counts : ¬ IsTrue (is_passed_over words)
  faulty : HasFault words kind
  is : fault_at number kind ≡ fault

abbrev CommandRead : ℕ → List (List ℕ) → Result (Option Command) TraceFault → Type 0
CommandRead number words (Ok None) = IsTrue (is_passed_over words)
CommandRead number words (Ok (Some command)) = IsCommand words command
CommandRead number words (Err fault) = IsNoCommand number words fault

command_at-read : (number : ℕ) (words : List (List ℕ)) → CommandRead number words (command_at number words)
unfolding command_at
command_at-read number [] = refl
command_at-read number (name ∷ words) = go (is_passed_over (name ∷ words)) (command_of (name ∷ words)) refl (command_read name words) where
  go : (passed : Bool) (read : Result Command LineFault) → is_passed_over (name ∷ words) ≡ passed → Read (name ∷ words) read
      → CommandRead number (name ∷ words) (cond passed (Ok None) (read_at number read))
  go true read over h = over
  go false (Ok command) over h = h
  go false (Err kind) over h = record { kind = kind; counts = λ t. absurd cc; faulty = h; is = refl }

command_at-passed : (number : ℕ) (words : List (List ℕ)) → IsTrue (is_passed_over words) → command_at number words ≡ Ok None
unfolding command_at
command_at-passed number words over = rw over refl

not_passed : (words : List (List ℕ)) (command : Command) → IsCommand words command → is_passed_over words ≡ false
not_passed words (Malloc rd size) (_, _, words_are, _, _) = ap is_passed_over words_are
not_passed words (Free rs) (_, words_are, _) = ap is_passed_over words_are
not_passed words (Copy rd rs) (_, _, words_are, _, _) = ap is_passed_over words_are
not_passed words (SetAddr rd rs address) (_, _, _, words_are, _, _, _) = ap is_passed_over words_are
not_passed words (Narrow rd rs length) (_, _, _, words_are, _, _, _) = ap is_passed_over words_are
not_passed words (AndPerm rd rs mask) (_, _, _, words_are, _, _, _) = ap is_passed_over words_are
not_passed words (StoreCap ra rs) (_, _, words_are, _, _) = ap is_passed_over words_are
not_passed words (LoadCap rd ra) (_, _, words_are, _, _) = ap is_passed_over words_are
not_passed words (Write ra bytes) (_, _, words_are, _, _) = ap is_passed_over words_are
not_passed words (Show rs) (_, words_are, _) = ap is_passed_over words_are
not_passed words Sweep words_are = ap is_passed_over words_are
not_passed words Begin words_are = ap is_passed_over words_are
not_passed words End words_are = ap is_passed_over words_are

command_at-IsCommand : (number : ℕ) (words : List (List ℕ)) (command : Command) → IsCommand words command → command_at number words ≡ Ok (Some command)
unfolding command_at
command_at-IsCommand number words command h = rw (not_passed words command h, command_of-IsCommand words command h) refl

stays : (t : Bool) → ¬ IsTrue t → t ≡ false
stays true h = absurd (h refl)
stays false h = refl

command_at-HasFault : (number : ℕ) (words : List (List ℕ)) (kind : LineFault) → ¬ IsTrue (is_passed_over words) → HasFault words kind → command_at number words ≡ Err (fault_at number kind)
unfolding command_at
command_at-HasFault number [] kind counts h = absurd h
command_at-HasFault number (name ∷ words) kind counts h = rw (stays (is_passed_over (name ∷ words)) counts, command_of-HasFault name words kind h) refl

-- ---- lines in their order

-- the first line that isn't so, of which this holds
record First (AreSo : List ℕ → Type 0) (Is : ℕ → List ℕ → List (List ℕ) → Type 0) (first : ℕ) (lines : List (List ℕ)) : Type 0 where
  number : ℕ
  line : List ℕ
  rest : List (List ℕ)
  comes : ComesAfter AreSo first lines number line rest
  is : Is number line rest

at_once : {AreSo : List ℕ → Type 0} {Is : ℕ → List ℕ → List (List ℕ) → Type 0} {first : ℕ} {line : List ℕ} {rest : List (List ℕ)} → Is first line rest → First AreSo Is first (line ∷ rest)
at_once {first} {line} {rest} is =
    record { number = first; line = line; rest = rest; comes = record { before = []; lines_are = refl; all = tt; number_is = omega arith }; is = is }

after : {AreSo : List ℕ → Type 0} {Is : ℕ → List ℕ → List (List ℕ) → Type 0} {first : ℕ} {passed : List ℕ} {lines : List (List ℕ)} → AreSo passed → First AreSo Is (first + 1) lines
    → First AreSo Is first (passed ∷ lines)
after {passed} so h =
    let comes = h.comes in
    record {
      number = h.number;
      line = h.line;
      rest = h.rest;
      comes = record { before = passed ∷ comes.before; lines_are = ap (λ ls. passed ∷ ls) comes.lines_are; all = (so, comes.all); number_is = omega (arith, comes.number_is) };
      is = h.is;
    }

-- ---- lines up to the heap line

abbrev opening_at : ℕ → ℕ → ℕ → List (List ℕ) → Opening
opening_at number base pages rest = record { base = base; pages = pages; next = number + 1; rest = rest }

-- a heap line, and what it opens
record Opens (opening : Opening) (number : ℕ) (line : List ℕ) (rest : List (List ℕ)) : Type 0 where
  base : ℕ
  pages : ℕ
  heap : IsHeapLine (words_of line) base pages
  is : opening_at number base pages rest ≡ opening

abbrev OpeningRead : ℕ → List (List ℕ) → Result Opening TraceFault → Type 0
OpeningRead first lines (Ok opening) = First IsPassedOver (Opens opening) first lines
OpeningRead first lines (Err fault) =
    (AllByRecursion IsPassedOver lines × (NoHeap (first + length lines) ≡ fault))
    ⊎ First IsPassedOver (λ number line rest. HeapFault number (words_of line) fault) first lines

opening_from-read : (first : ℕ) (lines : List (List ℕ)) → OpeningRead first lines (opening_from first lines)
unfolding opening_from
opening_from-read first [] = inl (tt, ap NoHeap (omega arith))
opening_from-read first (line ∷ lines) = go (heap_at first (words_of line)) (heap_at-read first (words_of line)) (opening_from (first + 1) lines) (opening_from-read (first + 1) lines) where
  later : (read : Result Opening TraceFault) → IsPassedOver line → OpeningRead (first + 1) lines read → OpeningRead first (line ∷ lines) read
  later (Ok opening) over h = after over h
  later (Err fault) over (inl (all, is)) = inl ((over, all), ap NoHeap (omega arith) ∙ is)
  later (Err fault) over (inr h) = inr (after over h)

  go : (read : Result (Option (ℕ × ℕ)) TraceFault) → HeapRead first (words_of line) read → (rest : Result Opening TraceFault) → OpeningRead (first + 1) lines rest
      → OpeningRead first (line ∷ lines) (read >>= opening_with (first + 1) lines rest)
  go (Ok None) over rest h = later rest over h
  go (Ok (Some heap)) is rest h = at_once (record { base = heap.0; pages = heap.1; heap = is; is = refl })
  go (Err fault) bad rest h = inr (at_once bad)

opening_from-comes : (before : List (List ℕ)) (first : ℕ) (rest : List (List ℕ)) → AllByRecursion IsPassedOver before → opening_from first (before ++ rest) ≡ opening_from (first + length before) rest
unfolding opening_from
opening_from-comes [] first rest all = ap (λ n. opening_from n rest) (omega arith)
opening_from-comes (line ∷ before) first rest (over, all) =
    rw (heap_at-passed first (words_of line) over) (opening_from-comes before (first + 1) rest all ∙ ap (λ n. opening_from n rest) (omega arith))

opening_from-all : (first number : ℕ) (lines : List (List ℕ)) → AllByRecursion IsPassedOver lines → number ≡ first + length lines → opening_from first lines ≡ Err (NoHeap number)
unfolding opening_from
opening_from-all first number [] all is = ap (λ n. Err (NoHeap n)) (omega arith)
opening_from-all first number (line ∷ lines) (over, all) is =
    rw (heap_at-passed first (words_of line) over) (opening_from-all (first + 1) number lines all (omega arith))

opening_from-line : {first number : ℕ} {lines : List (List ℕ)} {line : List ℕ} {rest : List (List ℕ)} → ComesAfter IsPassedOver first lines number line rest
    → opening_from first lines ≡ (heap_at number (words_of line) >>= opening_with (number + 1) rest (opening_from (number + 1) rest))
unfolding opening_from
opening_from-line {first} {line} {rest} h =
    ap (opening_from first) h.lines_are ∙ opening_from-comes h.before first (line ∷ rest) h.all ∙ ap (λ n. opening_from n (line ∷ rest)) (sym h.number_is)

-- ---- lines after it

abbrev CommandsRead : ℕ → List (List ℕ) → Result (List (ℕ × Command)) TraceFault → Type 0
CommandsRead first lines (Ok commands) = AreCommands first lines commands
CommandsRead first lines (Err fault) = First IsFine (λ number line rest. IsNoCommand number (words_of line) fault) first lines

commands_from-read : (first : ℕ) (lines : List (List ℕ)) → CommandsRead first lines (commands_from first lines)
unfolding commands_from
commands_from-read first [] = refl
commands_from-read first (line ∷ lines) = go (command_at first (words_of line)) (command_at-read first (words_of line)) (commands_from (first + 1) lines) (commands_from-read (first + 1) lines) where
  go : (read : Result (Option Command) TraceFault) → CommandRead first (words_of line) read → (rest : Result (List (ℕ × Command)) TraceFault) → CommandsRead (first + 1) lines rest
      → CommandsRead first (line ∷ lines) (read >>= λ command. rest >>= λ commands. Ok (listed_command first command ++ commands))
  go (Ok None) over (Ok commands) h = inl (over, h)
  go (Ok None) over (Err fault) h = after (inl over) h
  go (Ok (Some command)) is (Ok commands) h = inr (command, commands, is, refl, h)
  go (Ok (Some command)) is (Err fault) h = after (inr (command, is)) h
  go (Err fault) bad rest h = at_once bad

commands_from-AreCommands : (first : ℕ) (lines : List (List ℕ)) (commands : List (ℕ × Command)) → AreCommands first lines commands → commands_from first lines ≡ Ok commands
unfolding commands_from
commands_from-AreCommands first [] commands none = ap Ok (sym none)
commands_from-AreCommands first (line ∷ lines) commands (inl (over, are)) =
    rw (command_at-passed first (words_of line) over, commands_from-AreCommands (first + 1) lines commands are) refl
commands_from-AreCommands first (line ∷ lines) commands (inr (command, later, is, commands_are, are)) =
    rw (command_at-IsCommand first (words_of line) command is, commands_from-AreCommands (first + 1) lines later are) (ap Ok (sym commands_are))

commands_from-stops : (before : List (List ℕ)) (first number : ℕ) (line : List ℕ) (rest : List (List ℕ)) (fault : TraceFault) → AllByRecursion IsFine before → number ≡ first + length before
    → command_at number (words_of line) ≡ Err fault → commands_from first (before ++ line ∷ rest) ≡ Err fault
unfolding commands_from
commands_from-stops [] first number line rest fault all is h =
    let here : command_at first (words_of line) ≡ Err fault = ap (λ n. command_at n (words_of line)) (omega arith) ∙ h in
    rw here refl
commands_from-stops (passed ∷ before) first number line rest fault (fine, all) is h = go fine (commands_from-stops before (first + 1) number line rest fault all (omega arith) h) where
  go : IsFine passed → commands_from (first + 1) (before ++ line ∷ rest) ≡ Err fault → commands_from first (passed ∷ before ++ line ∷ rest) ≡ Err fault
  go (inl over) later = rw (command_at-passed first (words_of passed) over, later) refl
  go (inr (command, is)) later = rw (command_at-IsCommand first (words_of passed) command is, later) refl

-- ---- the text

abbrev TraceRead : List ℕ → Result Script TraceFault → Type 0
TraceRead text read = MatchResult read (IsTrace text) (IsFaulty text)

abbrev then_commands : Opening → Result (List (ℕ × Command)) TraceFault → Result Script TraceFault
then_commands o read = read >>= λ commands. Ok (record { base = o.base; pages = o.pages; commands = commands })

abbrev then_opened : Result Opening TraceFault → Result Script TraceFault
then_opened read = read >>= λ o. then_commands o (commands_from o.next o.rest)

fault_of_line : (text : List ℕ) (number : ℕ) (kind : LineFault) → IsShort text → HasFaultyLine (lines_of text) number kind → IsFaulty text (fault_at number kind)
fault_of_line text number line_fault.BadCommand short h = (short, h)
fault_of_line text number kind short h = (short, h)

opened_read : (text : List ℕ) → IsShort text → TraceRead text (then_opened (opening_from 1 (lines_of text)))
opened_read text short = go (opening_from 1 (lines_of text)) (opening_from-read 1 (lines_of text)) where
  commands : (o : Opening) (h : First IsPassedOver (Opens o) 1 (lines_of text)) (read : Result (List (ℕ × Command)) TraceFault) → CommandsRead (h.number + 1) h.rest read
      → TraceRead text (then_commands (opening_at h.number h.is.base h.is.pages h.rest) read)
  commands o h (Ok list) are = record { short = short; number = h.number; line = h.line; rest = h.rest; first = h.comes; heap = h.is.heap; commands = are }
  commands o h (Err fault) stops =
      let bad = stops.is in
      subst (IsFaulty text) bad.is (fault_of_line text stops.number bad.kind short (record {
        heap_number = h.number;
        heap_line = h.line;
        later = h.rest;
        first = h.comes;
        base = h.is.base;
        pages = h.is.pages;
        heap = h.is.heap;
        line = stops.line;
        rest = stops.rest;
        next = stops.comes;
        counts = bad.counts;
        faulty = bad.faulty;
      }))

  go : (read : Result Opening TraceFault) → OpeningRead 1 (lines_of text) read → TraceRead text (then_opened read)
  go (Ok o) h = subst (λ o. TraceRead text (then_opened (Ok o))) h.is.is (commands o h (commands_from (h.number + 1) h.rest) (commands_from-read (h.number + 1) h.rest))
  go (Err fault) (inl (all, is)) = subst (IsFaulty text) is (short, inl (all, omega arith))
  go (Err fault) (inr h) = heap_fault h.is where
    heap_fault : HeapFault h.number (words_of h.line) fault → IsFaulty text fault
    heap_fault (other_word counts other is) = subst (IsFaulty text) is (short, inr (h.line, h.rest, h.comes, counts, other))
    heap_fault (bad_heap begins bad is) = subst (IsFaulty text) is (short, (h.line, h.rest, h.comes, begins, bad))

trace_of-read : (text : List ℕ) → TraceRead text (trace_of text)
unfolding trace_of
trace_of-read text = go (nat_lt longest_text (length text)) refl where
  go : (long : Bool) → nat_lt longest_text (length text) ≡ long → TraceRead text (cond long (Err TooLong) (then_opened (opening_from 1 (lines_of text))))
  go true is = λ short. absurd (grind (arith, nat_tests, is, short))
  go false is = opened_read text (grind (arith, nat_tests, is))

short_text : (text : List ℕ) → IsShort text → trace_of text ≡ then_opened (opening_from 1 (lines_of text))
unfolding trace_of
short_text text short = let t : nat_lt longest_text (length text) ≡ false = grind (arith, nat_tests, short) in rw t refl

opening_is : {first number : ℕ} {lines : List (List ℕ)} {line : List ℕ} {rest : List (List ℕ)} (base pages : ℕ) → ComesAfter IsPassedOver first lines number line rest
    → IsHeapLine (words_of line) base pages → opening_from first lines ≡ Ok (opening_at number base pages rest)
opening_is {number} {line} base pages comes heap = opening_from-line comes ∙ rw (heap_at-IsHeapLine number (words_of line) base pages heap) refl

pub trace_of-IsTrace : (text : List ℕ) (script : Script) → IsTrace text script → trace_of text ≡ Ok script
trace_of-IsTrace text script h =
    short_text text h.short ∙ rw (opening_is script.base script.pages h.first h.heap, commands_from-AreCommands (h.number + 1) h.rest script.commands h.commands) refl

trace_of-opening : (text : List ℕ) (fault : TraceFault) → IsShort text → opening_from 1 (lines_of text) ≡ Err fault → trace_of text ≡ Err fault
trace_of-opening text fault short h = short_text text short ∙ rw h refl

trace_of-first : {number : ℕ} {line : List ℕ} {rest : List (List ℕ)} (text : List ℕ) (fault : TraceFault) → IsShort text → ComesAfter IsPassedOver 1 (lines_of text) number line rest
    → HeapFault number (words_of line) fault → trace_of text ≡ Err fault
trace_of-first {number} {line} text fault short first bad =
    trace_of-opening text fault short (opening_from-line first ∙ rw (heap_at-fault number (words_of line) fault bad) refl)

trace_of-line : (text : List ℕ) (number : ℕ) (kind : LineFault) → IsShort text → HasFaultyLine (lines_of text) number kind → trace_of text ≡ Err (fault_at number kind)
trace_of-line text number kind short h =
    let after = h.heap_number + 1 in
    let next = h.next in
    let stops : commands_from after h.later ≡ Err (fault_at number kind) =
    ap (commands_from after) next.lines_are
    ∙ commands_from-stops next.before after number h.line h.rest (fault_at number kind) next.all next.number_is (command_at-HasFault number (words_of h.line) kind h.counts h.faulty) in
    short_text text short ∙ rw (opening_is h.base h.pages h.first h.heap, stops) refl

too_long : (text : List ℕ) → ¬ IsShort text → trace_of text ≡ Err TooLong
unfolding trace_of
too_long text long = let t : nat_lt longest_text (length text) ≡ true = grind (arith, nat_tests, long) in rw t refl

pub trace_of-IsFaulty : (text : List ℕ) (fault : TraceFault) → IsFaulty text fault → trace_of text ≡ Err fault
trace_of-IsFaulty text Memory h = absurd h
trace_of-IsFaulty text TooLong h = too_long text h
trace_of-IsFaulty text (NoHeap number) (short, inl (all, number_is)) = trace_of-opening text (NoHeap number) short (opening_from-all 1 number (lines_of text) all (omega arith))
trace_of-IsFaulty text (NoHeap number) (short, inr (line, rest, first, counts, other)) = trace_of-first text (NoHeap number) short first (other_word counts other refl)
trace_of-IsFaulty text (BadHeap number) (short, (line, rest, first, begins, bad)) = trace_of-first text (BadHeap number) short first (bad_heap begins bad refl)
trace_of-IsFaulty text (BadCommand number) (short, h) = trace_of-line text number line_fault.BadCommand short h
trace_of-IsFaulty text (BadCount number) (short, h) = trace_of-line text number line_fault.BadCount short h
trace_of-IsFaulty text (BadRegister number) (short, h) = trace_of-line text number line_fault.BadRegister short h
trace_of-IsFaulty text (BadNumber number) (short, h) = trace_of-line text number line_fault.BadNumber short h
trace_of-IsFaulty text (BadData number) (short, h) = trace_of-line text number line_fault.BadData short h

pub IsTrace-read : (text : List ℕ) (script : Script) → trace_of text ≡ Ok script → IsTrace text script
IsTrace-read text script e = subst (TraceRead text) e (trace_of-read text)

pub IsFaulty-read : (text : List ℕ) (fault : TraceFault) → trace_of text ≡ Err fault → IsFaulty text fault
IsFaulty-read text fault e = subst (TraceRead text) e (trace_of-read text)

-- a fault that a call answered, and that isn't for want of memory
pub IsFaulty-answered : (text : List ℕ) (fault : TraceFault) → Fails fault (trace_of text) → fault ≢ Memory → IsFaulty text fault
IsFaulty-answered text Memory h other = absurd (other refl)
IsFaulty-answered text fault h other = IsFaulty-read text fault h
