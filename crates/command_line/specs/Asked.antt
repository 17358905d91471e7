-- What the words of a command line ask for, in the terms of clap's model of a command: the rules of its
-- arguments, the words that it takes, and the matches that it then answers.
use Rattle.std.specs.Prelude.{◌≡◌, ◌≤◌, ℕ, List, [], ◌∷◌, None, Option, Some, codes, drop, pos, true, false}
use Rattle.std.specs.Str.Parse.{IsNumeral, signed_digits_value, without_leading_sign}
pub use Rattle.clap.specs.Walk.{texts}
pub use Rattle.clap.specs.Words.{Text}
use Rattle.clap.specs.Words.{App, IsSignedIn, Row, Rule, fault_of, first_of, one_of, new_app, new_rule, subcommand_of, with_rule, with_subcommand, without_minus}
use Rattle.clap.specs.declared.builder.action.ArgAction.TheVariants.{SetTrue}
use Rattle.clap.specs.declared.builder.value_parser.ValueParser.TheVariants.{Signed}
use Rattle.command_line.specs.declared.asked.Asked.{Asked}
use Rattle.command_line.specs.declared.asked.Options.{Options}
use Rattle.command_line.specs.declared.asked.Asked.TheVariants.{Run, Word}

-- The flag --image.
abbrev pub image_rule : Rule
image_rule = record (new_rule (codes "image")) { long = Some (codes "image"); action = Some SetTrue }

-- The option --workers: a number from 1 to 64, and 1 where it isn't given.
abbrev pub workers_rule : Rule
workers_rule = record (new_rule (codes "workers")) { long = Some (codes "workers"); parser = Some (Signed (pos 1) (pos 64)); defaults = codes "1" ∷ [] }

-- The option --cut: a number from 1 to 256, and 16 where it isn't given.
abbrev pub cut_rule : Rule
cut_rule = record (new_rule (codes "cut")) { long = Some (codes "cut"); parser = Some (Signed (pos 1) (pos 256)); defaults = codes "16" ∷ [] }

-- The subcommand `run [--workers N] [--cut N] [--image]`.
abbrev pub run_app : App
run_app = with_rule (with_rule (with_rule (new_app (codes "run")) image_rule) workers_rule) cut_rule

-- The argument HEX.
abbrev pub hex_rule : Rule
hex_rule = record (new_rule (codes "hex")) { required = true }

-- The subcommand `word HEX`.
abbrev pub word_app : App
word_app = with_rule (new_app (codes "word")) hex_rule

-- The whole command line.
abbrev pub tool_app : App
tool_app = with_subcommand (with_subcommand (new_app (codes "heap_tool")) run_app.top) word_app.top

-- clap finds no fault in the words, so it takes them where memory serves.
unfoldable pub AreAccepted : List Text → Type 0
AreAccepted words = fault_of tool_app words ≡ []

-- The subcommand that clap's matches of the words name, with its entries.
unfoldable pub subcommand_named : List Text → Option (Text × List Row)
subcommand_named words = subcommand_of tool_app words

-- clap takes the words, and its matches name this subcommand, with these entries.
pub record Names (words : List Text) (name : Text) (rows : List Row) : Type 0 where
  pub taken : AreAccepted words
  pub subcommand : subcommand_named words ≡ Some (name, rows)

-- The text of the entry with this id is a decimal number, as clap reads it: `n`, which lies in these limits.
-- Where the option isn't given, the entry's text is the default of its rule.
pub record HasNumber (id : Text) (least most : ℕ) (rows : List Row) (n : ℕ) : Type 0 where
  pub text : Text
  pub entry : first_of id rows ≡ Some text
  pub numeral : IsNumeral 10 (without_leading_sign text)
  pub value : signed_digits_value 10 text ≡ pos n
  pub least_or_more : least ≤ n
  pub most_or_less : n ≤ most

-- The entry with this id has a text that clap's range of these limits lets through, and clap's typed readers
-- get it without a minus.
pub record GivesNumber (id : Text) (least most : ℕ) (rows : List Row) : Type 0 where
  pub text : Text
  pub entry : first_of id rows ≡ Some text
  pub read : one_of id rows ≡ Some (without_minus text)
  pub within : IsSignedIn (pos least) (pos most) text

-- These entries set the options so: clap gives a flag the value `true` or `false`, and a flag without an
-- entry isn't set.
pub record HasOptions (rows : List Row) (options : Options) : Type 0 where
  pub image : one_of (codes "image") rows ≡ Some (codes "true") → options.image ≡ true
  pub no_image : one_of (codes "image") rows ≡ Some (codes "false") → options.image ≡ false
  pub unnamed : one_of (codes "image") rows ≡ None → options.image ≡ false
  pub workers : HasNumber (codes "workers") 1 64 rows options.workers
  pub pages_per_task : HasNumber (codes "cut") 1 256 rows options.pages_per_task

-- The numbers of the options, in their limits.
pub record AreWithinLimits (options : Options) : Type 0 where
  pub worker_or_more : 1 ≤ options.workers
  pub workers_or_less : options.workers ≤ 64
  pub page_or_more : 1 ≤ options.pages_per_task
  pub pages_or_less : options.pages_per_task ≤ 256

-- The words name the subcommand `run`, with these options.
pub record NamesRun (words : List Text) (options : Options) : Type 0 where
  pub rows : List Row
  pub names : Names words (codes "run") rows
  pub set : HasOptions rows options

-- The words with `heap_tool run` in place of the first.
abbrev pub with_run : List Text → List Text
with_run words = codes "heap_tool" ∷ codes "run" ∷ drop 1 words

-- The words of a program that tells states: after its own name those of `run` with these options, without an image.
pub record NamesStates (words : List Text) (options : Options) : Type 0 where
  pub run : NamesRun (with_run words) options
  pub no_image : options.image ≡ false

-- The words name the subcommand `word`, with this text for HEX.
pub record NamesWord (words : List Text) (hex : Text) : Type 0 where
  pub rows : List Row
  pub names : Names words (codes "word") rows
  pub value : first_of (codes "hex") rows ≡ Some hex

-- What the words ask for.
abbrev pub AsksFor : List Text → Asked → Type 0
AsksFor words (Run options) = NamesRun words options
AsksFor words (Word hex) = NamesWord words hex.now

-- And they ask for nothing else.
abbrev pub AsksOnlyFor : List Text → Asked → Type 0
AsksOnlyFor words (Run options) = (other : Options) → NamesRun words other → other ≡ options
AsksOnlyFor words (Word hex) = (other : Text) → NamesWord words other → other ≡ hex.now

-- The words name no subcommand, or `word` without a text.
pub record NamesNothing (words : List Text) : Type 0 where
  pub run : (options : Options) → NamesRun words options → ⊥
  pub word : (hex : Text) → NamesWord words hex → ⊥
