use Rattle.std.proofs.Common.{◌≡◌, ◌+◌, ◌<◌, false, get_or, eqb, inl, inr, sym, ◌∙◌, add-one, arith}
use Rattle.std.proofs.lemmas.Bool.{cases_lt, true≢false}
use Rattle.std.proofs.lemmas.List.{take_rest}
use Rattle.trace_text.proofs.FirstLine.{lines_at_feed}
use Rattle.trace_text.proofs.words.split_line.Goals as goal

pub returns-then-near-ne0-clause-line : goal.returns-then-near-ne0-clause-line
returns-then-near-ne0-clause-line c =
    let text = c.args.text.now in
    let end = c.lowest_bit-count.result in
    let first = c.lowest_bit-count.ensures in
    let feed = c.near_feeds_of-near.ensures in
    let near : c.lowest_bit-count.result < 32 = elim (cases_lt end 32) [ inl lt ↦ lt | inr le ↦ absurd (true≢false (sym first.one ∙ feed.far end le)) ] in
    let before : (k : _) → k < end → eqb (get_or text k 0) 10 ≡ false = λ k lt. sym (feed.near k (omega (arith, lt, near))) ∙ first.below k lt in
    rw (c.of_text.ensures, take_rest text (end + 1), add-one) (lines_at_feed text end (omega (arith, first.within, c.if-text-lt-LANES.false)) (sym (feed.near end near) ∙ first.one) before)

pub returns-clause-line : goal.returns-clause-line
returns-clause-line c =
    let text = c.args.text.now in
    let end = c.lowest_bit-count-2.result in
    let first = c.lowest_bit-count-2.ensures in
    let feed = c.feeds_of-feeds.ensures in
    let before : (k : _) → k < end → eqb (get_or text k 0) 10 ≡ false = λ k lt. sym (feed k (omega (arith, lt, first.within))) ∙ first.below k lt in
    rw (c.of_text-2.ensures, take_rest text (end + 1), add-one) (lines_at_feed text end (omega (arith, first.within, c.if-text-lt-LANES.false)) (sym (feed end first.within) ∙ first.one) before)
