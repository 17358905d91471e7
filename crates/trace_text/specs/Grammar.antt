-- Which text is which trace, and which fault any other text has. The trace language is this project's own profile.
-- These are relations on whole lines, with no steps of a reading. Reading.antt has the function that they equal.
use Rattle.std.specs.Prelude.{◌≡◌, ◌≢◌, ℕ, ◌+◌, ◌<◌, ◌≤◌, ◌^◌, ◌⊎◌, List, [], ◌∷◌, ◌++◌, length, Option, Some, None, Ok, IsTrue, codes, if◌then◌else◌, bytes_eq}
use Rattle.std.specs.Fmt.{decimal}
use Rattle.std.specs.List.{AllByRecursion}
use Rattle.std.specs.Str.Parse.{AllDigits, digits_value}
use Rattle.hex.specs.Hex.{decode_sized}
use Rattle.trace_text.specs.declared.fault.LineFault.{LineFault}
use Rattle.trace_text.specs.declared.fault.LineFault.TheVariants as line_fault
use Rattle.trace_text.specs.declared.fault.TraceFault.{TraceFault}
use Rattle.trace_text.specs.declared.fault.TraceFault.TheVariants.{Memory, TooLong, NoHeap, BadHeap, BadCommand, BadCount, BadRegister, BadNumber, BadData}
use Rattle.trace_text.specs.declared.trace.Command.{Command}
use Rattle.trace_text.specs.declared.trace.Command.TheVariants.{Malloc, Free, Copy, SetAddr, Narrow, AndPerm, StoreCap, LoadCap, Write, Show, Sweep, Begin, End}
use Rattle.trace_text.specs.Heap.{IsHeap}
use Rattle.trace_text.specs.Lines.{is_passed_over, lines_of, longest_text, words_of}
use Rattle.trace_text.specs.Reading.{Script}
use Rattle.tag_memory.specs.Cells.{register_count}

-- ---- words

-- `c0` to `c31`, without leading zeros
abbrev pub IsRegister : List ℕ → ℕ → Type 0
IsRegister word register = (register < register_count) × (word ≡ codes "c" ++ decimal register)

-- 1 to `most` digits in the radix, perhaps with leading zeros, that write this number below 2 ^ 64
pub record AreDigits (radix most : ℕ) (digits : List ℕ) (number : ℕ) : Type 0 where
  pub some : 1 ≤ length digits
  pub few : length digits ≤ most
  pub all : AllDigits radix digits
  pub value : digits_value radix digits ≡ number
  pub fits : number < 2 ^ 64

-- 1 to 20 decimal digits, or `0x` and 1 to 16 hexadecimal digits of either case
abbrev pub IsNumber : List ℕ → ℕ → Type 0
IsNumber word number =
    AreDigits 10 20 word number
    ⊎ ((digits : List ℕ) × (word ≡ codes "0x" ++ digits) × AreDigits 16 16 digits number)

-- a number of at most 16 bits
abbrev pub IsMask : List ℕ → ℕ → Type 0
IsMask word mask = IsNumber word mask × (mask < 2 ^ 16)

-- exactly 32 hexadecimal digits of either case: 16 bytes in the order of memory
abbrev pub IsData : List ℕ → List ℕ → Type 0
IsData word bytes = decode_sized word 16 ≡ Ok bytes

-- ---- command lines

-- which words are which command
abbrev pub IsCommand : List (List ℕ) → Command → Type 0
IsCommand words (Malloc rd size) =
    (first second : List ℕ) × (words ≡ codes "malloc" ∷ first ∷ second ∷ []) × IsRegister first rd × IsNumber second size
IsCommand words (Free rs) =
    (first : List ℕ) × (words ≡ codes "free" ∷ first ∷ []) × IsRegister first rs
IsCommand words (Copy rd rs) =
    (first second : List ℕ) × (words ≡ codes "copy" ∷ first ∷ second ∷ []) × IsRegister first rd × IsRegister second rs
IsCommand words (SetAddr rd rs address) =
    (first second third : List ℕ) × (words ≡ codes "setaddr" ∷ first ∷ second ∷ third ∷ []) × IsRegister first rd × IsRegister second rs × IsNumber third address
IsCommand words (Narrow rd rs length) =
    (first second third : List ℕ) × (words ≡ codes "narrow" ∷ first ∷ second ∷ third ∷ []) × IsRegister first rd × IsRegister second rs × IsNumber third length
IsCommand words (AndPerm rd rs mask) =
    (first second third : List ℕ) × (words ≡ codes "andperm" ∷ first ∷ second ∷ third ∷ []) × IsRegister first rd × IsRegister second rs × IsMask third mask
IsCommand words (StoreCap ra rs) =
    (first second : List ℕ) × (words ≡ codes "storecap" ∷ first ∷ second ∷ []) × IsRegister first ra × IsRegister second rs
IsCommand words (LoadCap rd ra) =
    (first second : List ℕ) × (words ≡ codes "loadcap" ∷ first ∷ second ∷ []) × IsRegister first rd × IsRegister second ra
IsCommand words (Write ra bytes) =
    (first second : List ℕ) × (words ≡ codes "write" ∷ first ∷ second ∷ []) × IsRegister first ra × IsData second bytes
IsCommand words (Show rs) =
    (first : List ℕ) × (words ≡ codes "show" ∷ first ∷ []) × IsRegister first rs
IsCommand words Sweep = words ≡ codes "sweep" ∷ []
IsCommand words Begin = words ≡ codes "begin" ∷ []
IsCommand words End = words ≡ codes "end" ∷ []

-- the forms of the words after a command's name
pub data Form : Type 0 where
  Register : Form
  Number : Form
  Mask : Form
  Data : Form

abbrev pub HasForm : Form → List ℕ → Type 0
HasForm Register word = (register : ℕ) × IsRegister word register
HasForm Number word = (number : ℕ) × IsNumber word number
HasForm Data word = (bytes : List ℕ) × IsData word bytes
HasForm Mask word = (mask : ℕ) × IsMask word mask

-- what is wrong with a word that lacks its form
abbrev pub form_fault : Form → LineFault
form_fault Register = line_fault.BadRegister
form_fault Number = line_fault.BadNumber
form_fault Mask = line_fault.BadNumber
form_fault Data = line_fault.BadData

-- the table of commands: each name, and the forms of the words after it
abbrev pub forms_of : List ℕ → Option (List Form)
forms_of name =
    if bytes_eq name (codes "malloc") then Some (Register ∷ Number ∷ [])
    else if bytes_eq name (codes "free") then Some (Register ∷ [])
    else if bytes_eq name (codes "copy") then Some (Register ∷ Register ∷ [])
    else if bytes_eq name (codes "setaddr") then Some (Register ∷ Register ∷ Number ∷ [])
    else if bytes_eq name (codes "narrow") then Some (Register ∷ Register ∷ Number ∷ [])
    else if bytes_eq name (codes "andperm") then Some (Register ∷ Register ∷ Mask ∷ [])
    else if bytes_eq name (codes "storecap") then Some (Register ∷ Register ∷ [])
    else if bytes_eq name (codes "loadcap") then Some (Register ∷ Register ∷ [])
    else if bytes_eq name (codes "write") then Some (Register ∷ Data ∷ [])
    else if bytes_eq name (codes "show") then Some (Register ∷ [])
    else if bytes_eq name (codes "sweep") then Some []
    else if bytes_eq name (codes "begin") then Some []
    else if bytes_eq name (codes "end") then Some []
    else None

-- as many words as forms, each of its form
abbrev pub HaveForms : List Form → List (List ℕ) → Type 0
HaveForms [] [] = Unit {0}
HaveForms (form ∷ forms) (word ∷ words) = HasForm form word × HaveForms forms words
HaveForms _ _ = ⊥

-- The first word from the left that lacks its form lacks this one: the words before it have theirs.
pub record FirstLacks (forms : List Form) (words : List (List ℕ)) (form : Form) : Type 0 where
  pub forms_before : List Form
  pub forms_after : List Form
  pub before : List (List ℕ)
  pub word : List ℕ
  pub after : List (List ℕ)
  pub forms_are : forms ≡ forms_before ++ form ∷ forms_after
  pub words_are : words ≡ before ++ word ∷ after
  pub fine : HaveForms forms_before before
  pub lacks : ¬ HasForm form word

-- What is wrong with the words of a line that is no command: its name isn't in the table; it is, and the number of
-- words after it is wrong; the number is right, and this is the fault of the first word that lacks its form.
abbrev pub HasFault : List (List ℕ) → LineFault → Type 0
HasFault [] fault = ⊥
HasFault (name ∷ words) line_fault.BadCommand = forms_of name ≡ None
HasFault (name ∷ words) line_fault.BadCount =
    (forms : List Form) × (forms_of name ≡ Some forms) × (length words ≢ length forms)
HasFault (name ∷ words) fault =
    (forms : List Form) × (form : Form) × (forms_of name ≡ Some forms) × (length words ≡ length forms)
    × FirstLacks forms words form × (form_fault form ≡ fault)

-- ---- the heap line

abbrev pub BeginsAsHeap : List (List ℕ) → Type 0
BeginsAsHeap words = (rest : List (List ℕ)) × (words ≡ codes "heap" ∷ rest)

-- `heap`, the base and the number of pages
abbrev pub IsHeapLine : List (List ℕ) → ℕ → ℕ → Type 0
IsHeapLine words base pages =
    (first second : List ℕ) × (words ≡ codes "heap" ∷ first ∷ second ∷ [])
    × IsNumber first base × IsNumber second pages × IsHeap base pages

-- ---- lines in their order

-- no word, or a comment
abbrev pub IsPassedOver : List ℕ → Type 0
IsPassedOver line = IsTrue (is_passed_over (words_of line))

-- what a line after the heap line has to be
abbrev pub IsFine : List ℕ → Type 0
IsFine line = IsPassedOver line ⊎ ((command : Command) × IsCommand (words_of line) command)

-- Of these lines, numbered from `first` on, the line with this number comes after lines of which P holds, and before the rest.
pub record ComesAfter (P : List ℕ → Type 0) (first : ℕ) (lines : List (List ℕ)) (number : ℕ) (line : List ℕ) (rest : List (List ℕ)) : Type 0 where
  pub before : List (List ℕ)
  pub lines_are : lines ≡ before ++ line ∷ rest
  pub all : AllByRecursion P before
  pub number_is : number ≡ first + length before

-- Each of these lines, numbered from `number` on, is passed over or a command. These are the commands with their numbers, in order.
abbrev pub AreCommands : ℕ → List (List ℕ) → List (ℕ × Command) → Type 0
AreCommands number [] commands = commands ≡ []
AreCommands number (line ∷ lines) commands =
    (IsPassedOver line × AreCommands (number + 1) lines commands)
    ⊎ ((command : Command) × (later : List (ℕ × Command)) × IsCommand (words_of line) command
    × (commands ≡ (number, command) ∷ later) × AreCommands (number + 1) lines later)

-- Each line is passed over, or the first that isn't begins with another word than `heap`.
abbrev pub LacksHeap : List (List ℕ) → ℕ → Type 0
LacksHeap lines number =
    (AllByRecursion IsPassedOver lines × (number ≡ length lines + 1))
    ⊎ ((line : List ℕ) × (rest : List (List ℕ)) × ComesAfter IsPassedOver 1 lines number line rest
    × ¬ IsPassedOver line × ¬ BeginsAsHeap (words_of line))

-- The first line that isn't passed over begins with `heap`, and is no heap line.
abbrev pub HasBadHeap : List (List ℕ) → ℕ → Type 0
HasBadHeap lines number =
    (line : List ℕ) × (rest : List (List ℕ)) × ComesAfter IsPassedOver 1 lines number line rest
    × BeginsAsHeap (words_of line) × ((base pages : ℕ) → ¬ IsHeapLine (words_of line) base pages)

-- The first line that isn't passed over is a heap line. Of those after it, the first that is neither passed over nor a command has this fault.
pub record HasFaultyLine (lines : List (List ℕ)) (number : ℕ) (fault : LineFault) : Type 0 where
  pub heap_number : ℕ
  pub heap_line : List ℕ
  pub later : List (List ℕ)
  pub first : ComesAfter IsPassedOver 1 lines heap_number heap_line later
  pub base : ℕ
  pub pages : ℕ
  pub heap : IsHeapLine (words_of heap_line) base pages
  pub line : List ℕ
  pub rest : List (List ℕ)
  pub next : ComesAfter IsFine (heap_number + 1) later number line rest
  pub counts : ¬ IsPassedOver line
  pub faulty : HasFault (words_of line) fault

-- ---- texts

abbrev pub IsShort : List ℕ → Type 0
IsShort text = length text ≤ longest_text

-- The first line that isn't passed over is the heap line, and each later line is passed over or a command.
pub record IsTrace (text : List ℕ) (script : Script) : Type 0 where
  pub short : IsShort text
  pub number : ℕ
  pub line : List ℕ
  pub rest : List (List ℕ)
  pub first : ComesAfter IsPassedOver 1 (lines_of text) number line rest
  pub heap : IsHeapLine (words_of line) script.base script.pages
  pub commands : AreCommands (number + 1) rest script.commands

-- the fault of a text that is no trace
abbrev pub IsFaulty : List ℕ → TraceFault → Type 0
IsFaulty text Memory = ⊥
IsFaulty text TooLong = ¬ IsShort text
IsFaulty text (NoHeap number) = IsShort text × LacksHeap (lines_of text) number
IsFaulty text (BadHeap number) = IsShort text × HasBadHeap (lines_of text) number
IsFaulty text (BadCommand number) = IsShort text × HasFaultyLine (lines_of text) number line_fault.BadCommand
IsFaulty text (BadCount number) = IsShort text × HasFaultyLine (lines_of text) number line_fault.BadCount
IsFaulty text (BadRegister number) = IsShort text × HasFaultyLine (lines_of text) number line_fault.BadRegister
IsFaulty text (BadNumber number) = IsShort text × HasFaultyLine (lines_of text) number line_fault.BadNumber
IsFaulty text (BadData number) = IsShort text × HasFaultyLine (lines_of text) number line_fault.BadData
