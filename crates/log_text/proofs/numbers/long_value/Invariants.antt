use Rattle.std.proofs.Common.{◌≡◌, ◌<◌, ◌^◌, false, take}
use Rattle.std.specs.Fmt.{digits}
use Rattle.log_text.proofs.numbers.long_value.Given as goal

-- the digits so far are those that are written of the value
abbrev pub invariant-loop-byte : goal.invariant-loop-byte
invariant-loop-byte l = record {
  below : l.value < 16 ^ l.byte-index;
  text : 0 < l.byte-index → digits 16 false l.value ≡ take l.byte-index l.digits;
}
