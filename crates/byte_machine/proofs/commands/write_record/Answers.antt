use Rattle.std.proofs.Common.{◌∙◌, ℕ, ap}
use Rattle.cap_codec.specs.Bytes.{bytes_of}
use Rattle.byte_machine.proofs.RecordLaws.{halves_back}
use Rattle.byte_machine.proofs.commands.write_record.Goals as goal

pub returns-clause-back : goal.returns-clause-back
returns-clause-back c =
    ap (λ (bits : ℕ). bytes_of bits) (halves_back c.from_bytes-word.result.bits c.low_half.result c.high_half.result c.low_half.ensures c.high_half.ensures)
    ∙ c.from_bytes-word.ensures.back
