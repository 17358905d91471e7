use Rattle.std.proofs.Common.{◌≡◌, ◌-◌, List, ℕ, Bool, true, false, bytes_eq, drop, take, sym, ap, ap₂, ◌∙◌, Some}
use Rattle.trace_text.specs.Lines.{words_of}
use Rattle.trace_text.proofs.LineCuts.{cut_goes_on, cut_is, end_within, parts_words-after}
use Rattle.trace_text.proofs.marked.Line.split_at_word.Goals as goal

-- what a test of the bytes between two places tells of the line
told : (bytes line word : List ℕ) (start end : ℕ) (test answer : Bool) → bytes ≡ line → test ≡ bytes_eq (take (end - start) (drop start bytes)) word → test ≡ answer
    → bytes_eq (take (end - start) (drop start line)) word ≡ answer
told bytes line word start end test answer same is answered = ap (λ bs. bytes_eq (take (end - start) (drop start bs)) word) (sym same) ∙ sym is ∙ answered

pub returns-then-eq : goal.returns-then-eq
returns-then-eq c =
    let line = c.args.self.now in
    let start = c.in-Some.start in
    let end = c.in-Some.end in
    let this = told c.self.inside.bytes.now line c.args.word.now start end c.eq.result true c.self.view_is c.eq.ensures c.if-eq.true in
    ap₂ (λ before after. Some (words_of before, words_of after)) c.before-then-eq.ensures c.after.ensures
    ∙ sym (cut_is c.args.word.now line c.loop-start.place start end c.in-Some.ensures.word this) ∙ c.loop-start.invariant.told

pub loop-start-preserved : goal.loop-start-preserved
loop-start-preserved c =
    let line = c.args.self.now in
    let place = c.loop-start.place in
    let start = c.in-Some.start in
    let end = c.in-Some.end in
    let next = c.in-Some.ensures.word in
    let other = told c.self.inside.bytes.now line c.args.word.now start end c.eq.result false c.self.view_is c.eq.ensures c.if-eq.false in
    record {
      within = end_within line place start end next;
      parts = parts_words-after line place start end next;
      told = cut_goes_on c.args.word.now line place start end next c.loop-start.invariant.parts other ∙ c.loop-start.invariant.told;
    }
