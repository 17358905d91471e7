use Rattle.std.proofs.Common.{◌∙◌, ◌+◌, ◌*◌, sym}
use Rattle.state_bytes.proofs.PieceLaws.{pieces_of_register, register_stands_by}
use Rattle.state_bytes.proofs.comparing.is_register.Goals as goal

pub returns-then-not-is_16-clause-no : goal.returns-then-not-is_16-clause-no
returns-then-not-is_16-clause-no c = λ stands.
    sym c.if-not-is_16.true ∙ c.is_16.ensures.no (pieces_of_register c.args.registers.now c.args.r c.get-tag.result c.args.bytes.now (c.args.start + 17 * c.args.r) c.get-tag.ensures.value stands).bits_stand

pub returns-clause-yes : goal.returns-clause-yes
returns-clause-yes c = λ yes.
    register_stands_by c.args.registers.now c.args.r c.get-tag.result c.args.bytes.now (c.args.start + 17 * c.args.r) c.get-tag.ensures.value
    (record { bits_stand = c.is_16.ensures.yes c.if-not-is_16.false; tag_stands = c.is_flag.ensures.yes yes })

pub returns-clause-no : goal.returns-clause-no
returns-clause-no c = λ stands.
    c.is_flag.ensures.no (pieces_of_register c.args.registers.now c.args.r c.get-tag.result c.args.bytes.now (c.args.start + 17 * c.args.r) c.get-tag.ensures.value stands).tag_stands
