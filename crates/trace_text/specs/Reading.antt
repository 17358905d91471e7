-- How a text is read as a trace, or as its fault: one function, which is what other definitions cite.
-- Grammar.antt says without any steps what is read.
use Rattle.std.specs.Prelude.{◌≡◌, ℕ, ◌+◌, ◌^◌, Bool, true, false, not, List, [], ◌∷◌, ◌++◌, length, take, drop, Option, Some, None, Result, Ok, Err, nat_eq, nat_lt, nat_le, ◌&&◌, codes, if◌then◌else◌, bytes_eq, option_and_then}
use Rattle.std.specs.Char.{is_digit}
use Rattle.std.specs.List.{list_all, starts_with}
use Rattle.std.specs.Option.{ok_or}
use Rattle.std.specs.Str.Parse.{digits_value}
use Rattle.hex.specs.Hex.{decode_sized}
use Rattle.trace_text.specs.declared.fault.LineFault.{LineFault}
use Rattle.trace_text.specs.declared.fault.LineFault.TheVariants as line_fault
use Rattle.trace_text.specs.declared.fault.TraceFault.{TraceFault}
use Rattle.trace_text.specs.declared.fault.TraceFault.TheVariants.{Memory, TooLong, NoHeap, BadHeap, BadCommand, BadCount, BadRegister, BadNumber, BadData}
use Rattle.trace_text.specs.declared.trace.Command.{Command}
use Rattle.trace_text.specs.declared.trace.Command.TheVariants.{Malloc, Free, Copy, SetAddr, Narrow, AndPerm, StoreCap, LoadCap, Write, Show, Sweep, Begin, End}
use Rattle.trace_text.specs.declared.trace.Trace.{Trace}
use Rattle.trace_text.specs.Lines.{is_passed_over, lines_of, longest_text, words_of}
use Rattle.tag_memory.specs.Extent.{is_base, is_size}
use Rattle.tag_memory.specs.Cells.{register_count}

-- then, unless there is a fault
infixl 10 ◌>>=◌
abbrev pub ◌>>=◌ : {A B F : Type 0} → Result A F → (A → Result B F) → Result B F
(Ok x) >>= f = f x
(Err fault) >>= f = Err fault

-- ---- words

-- each byte is a digit in the radix
abbrev pub all_digits_in : ℕ → List ℕ → Bool
all_digits_in radix digits = list_all (λ byte. is_digit byte radix) digits

-- 1 to `most` digits in the radix
abbrev pub are_digits : ℕ → ℕ → List ℕ → Bool
are_digits radix most digits =
    nat_lt 0 (length digits) && (nat_le (length digits) most && all_digits_in radix digits)

-- the number that such digits write, where it is below 2 ^ 64
abbrev pub numeral_of : ℕ → ℕ → List ℕ → Option ℕ
numeral_of radix most digits =
    if are_digits radix most digits && nat_lt (digits_value radix digits) (2 ^ 64)
    then Some (digits_value radix digits) else None

-- hexadecimal after `0x`, else decimal
abbrev pub number_of : List ℕ → Option ℕ
number_of word =
    if bytes_eq (take 2 word) (codes "0x") then numeral_of 16 16 (drop 2 word)
    else numeral_of 10 20 word

-- a number that is below a limit
abbrev pub below_limit : ℕ → Option ℕ → Option ℕ
below_limit limit None = None
below_limit limit (Some number) = if nat_lt number limit then Some number else None

-- a zero with another digit after it
abbrev pub has_leading_zero : List ℕ → Bool
has_leading_zero digits = nat_lt 1 (length digits) && starts_with nat_eq digits (codes "0")

-- the digits of a register's number, after a `c`
abbrev pub register_of : List ℕ → Option ℕ
register_of word =
    if bytes_eq (take 1 word) (codes "c") && not (has_leading_zero (drop 1 word))
    then below_limit register_count (numeral_of 10 2 (drop 1 word)) else None

-- a register, or what is wrong with a word that names none
abbrev pub register_in : List ℕ → Result ℕ LineFault
register_in word = ok_or (register_of word) line_fault.BadRegister

-- a number, or what is wrong with a word that writes none
abbrev pub number_in : List ℕ → Result ℕ LineFault
number_in word = ok_or (number_of word) line_fault.BadNumber

-- a mask of 16 bits, or what is wrong with a word that writes none
abbrev pub mask_in : List ℕ → Result ℕ LineFault
mask_in word = ok_or (below_limit 65536 (number_of word)) line_fault.BadNumber

-- the bytes that were decoded, or that a word writes none
abbrev pub data_from : {F : Type 0} → Result (List ℕ) F → Result (List ℕ) LineFault
data_from (Ok bytes) = Ok bytes
data_from (Err fault) = Err line_fault.BadData

-- 16 bytes, or what is wrong with a word that writes none
abbrev pub data_in : List ℕ → Result (List ℕ) LineFault
data_in word = data_from (decode_sized word 16)

-- ---- the words after a command's name

abbrev pub no_word_in : List (List ℕ) → Bool
no_word_in [] = true
no_word_in _ = false

abbrev pub one_word_in : List (List ℕ) → Option (List ℕ)
one_word_in (word ∷ []) = Some word
one_word_in _ = None

abbrev pub two_words_in : List (List ℕ) → Option (List ℕ × List ℕ)
two_words_in (first ∷ second ∷ []) = Some (first, second)
two_words_in _ = None

abbrev pub three_words_in : List (List ℕ) → Option (List ℕ × List ℕ × List ℕ)
three_words_in (first ∷ second ∷ third ∷ []) = Some (first, second, third)
three_words_in _ = None

-- no word
unfoldable pub none_of : List (List ℕ) → Result (Unit {0}) LineFault
none_of words = if no_word_in words then Ok tt else Err line_fault.BadCount

-- one word, read so
unfoldable pub one_of : {A : Type 0} → (List ℕ → Result A LineFault) → List (List ℕ) → Result A LineFault
one_of read words = do
  word ← ok_or (one_word_in words) line_fault.BadCount
  read word

-- two words, read so from the left
unfoldable pub two_of : {A B : Type 0} → (List ℕ → Result A LineFault) → (List ℕ → Result B LineFault)
    → List (List ℕ) → Result (A × B) LineFault
two_of read_first read_second words = do
  both ← ok_or (two_words_in words) line_fault.BadCount
  first ← read_first both.0
  second ← read_second both.1
  Ok (first, second)

-- three words, read so from the left
unfoldable pub three_of : {A B C : Type 0} → (List ℕ → Result A LineFault) → (List ℕ → Result B LineFault)
    → (List ℕ → Result C LineFault) → List (List ℕ) → Result (A × B × C) LineFault
three_of read_first read_second read_third words = do
  all ← ok_or (three_words_in words) line_fault.BadCount
  first ← read_first all.0
  second ← read_second all.1
  third ← read_third all.2
  Ok (first, second, third)

-- ---- lines

-- the words of a line as a command, or what is wrong with them first
unfoldable pub command_of : List (List ℕ) → Result Command LineFault
command_of [] = Err line_fault.BadCommand
command_of (name ∷ words) =
    if bytes_eq name (codes "malloc") then (two_of register_in number_in words >>= λ read. Ok (Malloc read.0 read.1))
    else if bytes_eq name (codes "free") then (one_of register_in words >>= λ rs. Ok (Free rs))
    else if bytes_eq name (codes "copy") then (two_of register_in register_in words >>= λ read. Ok (Copy read.0 read.1))
    else if bytes_eq name (codes "setaddr") then (three_of register_in register_in number_in words >>= λ read. Ok (SetAddr read.0 read.1 read.2))
    else if bytes_eq name (codes "narrow") then (three_of register_in register_in number_in words >>= λ read. Ok (Narrow read.0 read.1 read.2))
    else if bytes_eq name (codes "andperm") then (three_of register_in register_in mask_in words >>= λ read. Ok (AndPerm read.0 read.1 read.2))
    else if bytes_eq name (codes "storecap") then (two_of register_in register_in words >>= λ read. Ok (StoreCap read.0 read.1))
    else if bytes_eq name (codes "loadcap") then (two_of register_in register_in words >>= λ read. Ok (LoadCap read.0 read.1))
    else if bytes_eq name (codes "write") then (two_of register_in data_in words >>= λ read. Ok (Write read.0 read.1))
    else if bytes_eq name (codes "show") then (one_of register_in words >>= λ rs. Ok (Show rs))
    else if bytes_eq name (codes "sweep") then (none_of words >>= λ _. Ok Sweep)
    else if bytes_eq name (codes "begin") then (none_of words >>= λ _. Ok Begin)
    else if bytes_eq name (codes "end") then (none_of words >>= λ _. Ok End)
    else Err line_fault.BadCommand

-- the fault of a text whose first faulty line has this number
abbrev pub fault_at : ℕ → LineFault → TraceFault
fault_at number line_fault.BadCommand = BadCommand number
fault_at number line_fault.BadCount = BadCount number
fault_at number line_fault.BadRegister = BadRegister number
fault_at number line_fault.BadNumber = BadNumber number
fault_at number line_fault.BadData = BadData number

-- what was read of the line with this number
abbrev pub read_at : {A : Type 0} → ℕ → Result A LineFault → Result (Option A) TraceFault
read_at number (Ok x) = Ok (Some x)
read_at number (Err fault) = Err (fault_at number fault)

-- what the words of a line after the heap line mean: nothing, a command, or a fault
unfoldable pub command_at : ℕ → List (List ℕ) → Result (Option Command) TraceFault
command_at number words = if is_passed_over words then Ok None else read_at number (command_of words)

-- the test of where a heap can lie
abbrev pub is_heap : ℕ → ℕ → Bool
is_heap base pages = is_size pages && is_base base pages

-- base and pages, where both were read and can be
abbrev pub heap_from : Option ℕ → Option ℕ → Option (ℕ × ℕ)
heap_from (Some base) (Some pages) = if is_heap base pages then Some (base, pages) else None
heap_from _ _ = None

-- the words after `heap`
unfoldable pub heap_of : List (List ℕ) → Option (ℕ × ℕ)
heap_of words =
    option_and_then (λ both. heap_from (number_of both.0) (number_of both.1)) (two_words_in words)

-- what the words of a line up to the heap line mean: nothing, the heap, or a fault
unfoldable pub heap_at : ℕ → List (List ℕ) → Result (Option (ℕ × ℕ)) TraceFault
heap_at number [] = Ok None
heap_at number (name ∷ words) =
    if is_passed_over (name ∷ words) then Ok None
    else if bytes_eq name (codes "heap") then (ok_or (heap_of words) (BadHeap number) >>= λ heap. Ok (Some heap))
    else Err (NoHeap number)

-- ---- texts

-- what the heap line says, the number of the next line, and the lines from there on
pub record Opening : Type 0 where
  pub base : ℕ
  pub pages : ℕ
  pub next : ℕ
  pub rest : List (List ℕ)

-- the heap that a line gives, or what later lines give
abbrev pub opening_with : ℕ → List (List ℕ) → Result Opening TraceFault → Option (ℕ × ℕ) → Result Opening TraceFault
opening_with next rest later None = later
opening_with next rest later (Some heap) = Ok (record { base = heap.0; pages = heap.1; next = next; rest = rest })

-- lines up to the heap line, numbered from here on
unfoldable pub opening_from : ℕ → List (List ℕ) → Result Opening TraceFault
opening_from number [] = Err (NoHeap number)
opening_from number (line ∷ lines) =
    heap_at number (words_of line) >>= opening_with (number + 1) lines (opening_from (number + 1) lines)

-- the command that a line gives, with the line's number
abbrev pub listed_command : ℕ → Option Command → List (ℕ × Command)
listed_command number None = []
listed_command number (Some command) = (number, command) ∷ []

-- lines after the heap line, numbered from here on
unfoldable pub commands_from : ℕ → List (List ℕ) → Result (List (ℕ × Command)) TraceFault
commands_from number [] = Ok []
commands_from number (line ∷ lines) = do
  command ← command_at number (words_of line)
  commands ← commands_from (number + 1) lines
  Ok (listed_command number command ++ commands)

-- what a trace says
pub record Script : Type 0 where
  pub base : ℕ
  pub pages : ℕ
  pub commands : List (ℕ × Command)

-- a trace without where it lies in memory
abbrev pub script_of : Trace → Script
script_of trace = record { base = trace.base; pages = trace.pages; commands = trace.commands.items }

-- the trace that a text is, or its fault
unfoldable pub trace_of : List ℕ → Result Script TraceFault
trace_of text =
    if nat_lt longest_text (length text) then Err TooLong
    else (opening_from 1 (lines_of text) >>= λ o. commands_from o.next o.rest >>= λ commands.
    Ok (record { base = o.base; pages = o.pages; commands = commands }))

-- ---- calls

-- a call answered the fault that is read, or that memory ran out
abbrev pub Fails : {Y : Type 0} → TraceFault → Result Y TraceFault → Type 0
Fails Memory read = Unit {0}
Fails fault read = read ≡ Err fault

-- a call answered what is read, as this view shows it, or that memory ran out
abbrev pub Gives : {X Y : Type 0} → (X → Y) → Result X TraceFault → Result Y TraceFault → Type 0
Gives view (Ok x) read = read ≡ Ok (view x)
Gives view (Err fault) read = Fails fault read
