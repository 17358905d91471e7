use Rattle.std.proofs.Common.{◌∙◌, ◌+◌, ◌*◌, refl, ap}
use Rattle.state_bytes.specs.Text.{kind_number, length_told}
use Rattle.state_bytes.proofs.ReadLaws.{length_read}
use Rattle.state_bytes.proofs.ReplayLaws.{from_place}
use Rattle.state_bytes.proofs.blocks.number_in.Goals as goal

pub returns : goal.returns
returns c m state text inside kind =
    let read = from_place 4 (13 + 21 * c.args.i + 17) (13 + 21 * c.args.i + 17) c.args.bytes.now c.read_u32.result c.read_u32.ensures refl in
    ap (length_told (kind_number kind)) read ∙ length_read m c.args.bytes.now c.args.i kind state.invariant text inside
