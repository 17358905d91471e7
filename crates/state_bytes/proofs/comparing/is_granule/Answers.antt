use Rattle.std.proofs.Common.{◌≡◌, ◌<◌, ◌+◌, ◌*◌, ℕ, Bool, true, false, refl, rules, arith}
use Rattle.state_bytes.specs.Text.{flag_byte}
use Rattle.state_bytes.proofs.PieceLaws.{granule_stands, pieces_of_granule}
use Rattle.state_bytes.proofs.StandingLaws.{flag_standing, stands_flag, stands_read}
use Rattle.state_bytes.proofs.comparing.is_granule.Goals as goal

pub returns-then-bytes-at-gt1-clause-no : goal.returns-then-bytes-at-gt1-clause-no
returns-then-bytes-at-gt1-clause-no c granule read stands =
    let at = 13 + 21 * c.args.i in
    let tag = (pieces_of_granule c.args.heap.now c.args.i granule.0 _ granule.1 c.args.bytes.now at refl stands).tag_stands in
    absurd (too_large granule.1 (flag_standing c.args.bytes.now (at + 16) granule.1 tag) c.if-bytes-at-gt1.true) where
      too_large : {n : ℕ} (flag : Bool) → n ≡ flag_byte flag → 1 < n → ⊥
      too_large true is large = omega (arith, is, large)
      too_large false is large = omega (arith, is, large)

pub returns-clause-yes : goal.returns-clause-yes
returns-clause-yes c is granule read =
    let at = 13 + 21 * c.args.i in
    granule_stands c.args.heap.now c.args.i granule.0 c.number_at.result granule.1 c.args.bytes.now at c.number_at.ensures
    (record {
      bits_stand = stands_read c.args.bytes.now at 16 granule.0 (omega (arith, c.requires.inside)) (search rules) read.bits;
      tag_stands = stands_flag c.args.bytes.now (at + 16) granule.1 (omega (arith, c.requires.inside)) (omega arith) read.tag;
      number_stands = c.is_4.ensures.yes is;
    })

pub returns-clause-no : goal.returns-clause-no
returns-clause-no c granule read stands =
    c.is_4.ensures.no (pieces_of_granule c.args.heap.now c.args.i granule.0 c.number_at.result granule.1 c.args.bytes.now (13 + 21 * c.args.i) c.number_at.ensures stands).number_stands
