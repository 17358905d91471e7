-- What the words of a command line ask of the program, where HEX is the text of a capability word.
use Rattle.std.specs.Prelude.{◌≡◌, ℕ, List, Ok}
use Rattle.cap_codec.specs.declared.word.Word.{Word as CapabilityWord}
use Rattle.cap_codec.specs.Bytes.{bits_of_bytes}
use Rattle.hex.specs.Hex.{decode_sized}
use Rattle.command_line.specs.declared.asked.Options.{Options}
use Rattle.command_line.specs.Asked.{NamesRun, NamesWord, Text}

-- The text is 32 hexadecimal digits of either case: the 16 bytes of this word.
pub record IsTextOf (hex : Text) (w : CapabilityWord) : Type 0 where
  pub bytes : List ℕ
  pub digits : decode_sized hex 16 ≡ Ok bytes
  pub word : w.bits ≡ bits_of_bytes bytes

-- The words ask for the line of this word.
pub record AsksForLineOf (words : List Text) (w : CapabilityWord) : Type 0 where
  pub hex : Text
  pub named : NamesWord words hex
  pub text : IsTextOf hex w

-- The words ask for nothing: clap doesn't take them, or they ask neither for a run nor for the line of a word.
pub record AskForNothing (words : List Text) : Type 0 where
  pub run : (options : Options) → NamesRun words options → ⊥
  pub word : (w : CapabilityWord) → AsksForLineOf words w → ⊥
