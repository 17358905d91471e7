use Rattle.std.proofs.Common.{◌∙◌, ◌<◌, ◌+◌, ℕ, length, sym, subst, rules, arith}
use Rattle.std.proofs.Common.{List}
use Rattle.state_bytes.specs.Text.{dirty_text}
use Rattle.state_bytes.specs.Writing.{StandsAt}
use Rattle.state_bytes.proofs.PieceLaws.{dirty_long}
use Rattle.state_bytes.proofs.StandingLaws.{stands_begin, stands_each, stands_more}
use Rattle.state_bytes.proofs.PieceLaws.{dirty_is}
use Rattle.state_bytes.proofs.comparing.are_dirty.Goals as goal

pub loop-page-init : goal.loop-page-init
loop-page-init c = stands_begin (dirty_text c.args.memory.now.dirty) c.args.bytes.now c.args.start

pub loop-page-preserved : goal.loop-page-preserved
loop-page-preserved c =
    let long = dirty_long c.args.memory.now.dirty c.loop-page.page in
    stands_more c.args.bytes.now (dirty_text c.args.memory.now.dirty) _ c.args.start (c.args.start + c.loop-page.page) c.loop-page.page (omega (arith, long))
    (dirty_is c.args.memory.now.dirty c.loop-page.page c.dirty.result c.dirty.ensures) c.loop-page.invariant (c.is_flag.ensures.yes c.if-not-is_flag.false)

pub returns-then-not-is_flag-clause-no : goal.returns-then-not-is_flag-clause-no
returns-then-not-is_flag-clause-no c = λ stands.
    let long = dirty_long c.args.memory.now.dirty c.loop-page.page in
    let lt : c.loop-page.page < length c.args.memory.now.dirty = search rules in
    let here = stands_each c.args.bytes.now (dirty_text c.args.memory.now.dirty) c.args.start (c.args.start + c.loop-page.page) c.loop-page.page (length c.args.memory.now.dirty) lt (omega (arith, long)) stands in
    sym c.if-not-is_flag.true
    ∙ c.is_flag.ensures.no (subst (λ (l : List ℕ). StandsAt c.args.bytes.now (c.args.start + c.loop-page.page) l) (sym (dirty_is c.args.memory.now.dirty c.loop-page.page c.dirty.result c.dirty.ensures)) here)
