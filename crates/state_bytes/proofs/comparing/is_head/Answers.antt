use Rattle.std.proofs.Common.{◌∙◌, sym}
use Rattle.state_bytes.proofs.PieceLaws.{head_stands, pieces_of_head}
use Rattle.state_bytes.proofs.comparing.is_head.Goals as goal

pub returns-then-not-is_8-clause-no : goal.returns-then-not-is_8-clause-no
returns-then-not-is_8-clause-no c = λ stands. sym c.if-not-is_8.true ∙ c.is_8.ensures.no (pieces_of_head c.args.bytes.now c.args.base c.args.pages c.args.is_open stands).base_stands

pub returns-then-not-is_4-clause-no : goal.returns-then-not-is_4-clause-no
returns-then-not-is_4-clause-no c = λ stands. sym c.if-not-is_4.true ∙ c.is_4.ensures.no (pieces_of_head c.args.bytes.now c.args.base c.args.pages c.args.is_open stands).pages_stand

pub returns-clause-yes : goal.returns-clause-yes
returns-clause-yes c = λ yes.
    head_stands c.args.bytes.now c.args.base c.args.pages c.args.is_open
    (record { base_stands = c.is_8.ensures.yes c.if-not-is_8.false; pages_stand = c.is_4.ensures.yes c.if-not-is_4.false; flag_stands = c.is_flag.ensures.yes yes })

pub returns-clause-no : goal.returns-clause-no
returns-clause-no c = λ stands. c.is_flag.ensures.no (pieces_of_head c.args.bytes.now c.args.base c.args.pages c.args.is_open stands).flag_stands
