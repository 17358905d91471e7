use Rattle.std.proofs.Common.{rules, ◌≡◌, refl}
use Rattle.trace_report.specs.Image.{image_line}
use Rattle.trace_report.proofs.image.push_line.Goals as goal

pub returns : goal.returns
returns c =
    let line : c.as_bytes.result.now ≡ image_line c.args.address (c.args.bits, c.args.tag) =
    rw (
      c.as_bytes.ensures,
      c.put_hexadecimal.ensures.text,
      c.put-3.ensures.text,
      c.put_decimal.ensures.text,
      c.from.ensures,
      c.flag_number.ensures,
      c.put-2.ensures.text,
      c.put_bytes.ensures.text,
      c.to_bytes.ensures.value,
      c.put.ensures.text,
      c.new-line.ensures,
    )
    refl in
    search (rules, line, c.extend_from_slice.ensures.items)
