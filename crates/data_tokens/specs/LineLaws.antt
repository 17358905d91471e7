-- Tokens added to a line one after the other.
use Rattle.std.proofs.Common.{◌≡◌, ◌∙◌, ◌+◌, ◌++◌, ℕ, suc, List, [], Result, ap, append-nil, append_assoc, sym, arith}
use Rattle.std.specs.Result.{OnOk}
use Rattle.std.proofs.lemmas.Result.{on_ok_weaker}
use Rattle.json.specs.Token.{Token}
use Rattle.data_tokens.specs.Changes.{below}
use Rattle.data_tokens.specs.Line.{LineState, with_tokens}

added_twice : (line : LineState) (first second : List Token) → with_tokens (with_tokens line first) second ≡ with_tokens line (first ++ second)
added_twice line first second = λ i. record line { tokens = append_assoc line.tokens first second i }

-- No token more.
pub added_none : (line : LineState) (none : List Token) → none ≡ [] → line ≡ with_tokens line none
added_none line none is = λ i. record line { tokens = (sym (append-nil line.tokens) ∙ ap (λ (ts : List Token). line.tokens ++ ts) (sym is)) i }

-- The same tokens otherwise said.
pub added_as : {E : Type 0} (r : Result (Unit {0}) E) (line new : LineState) (a all : List Token) → OnOk r (new ≡ with_tokens line a) → a ≡ all → OnOk r (new ≡ with_tokens line all)
added_as r line new a all done is = on_ok_weaker r (λ last. last ∙ ap (with_tokens line) is) done

-- Two pieces, of which the last may have failed.
pub added_two : {E : Type 0} (r : Result (Unit {0}) E) (line one two : LineState) (a b all : List Token)
    → one ≡ with_tokens line a → OnOk r (two ≡ with_tokens one b) → a ++ b ≡ all → OnOk r (two ≡ with_tokens line all)
added_two r line one two a b all first second is =
    on_ok_weaker r (λ last. last ∙ (ap (λ (l : LineState). with_tokens l b) first ∙ (added_twice line a b ∙ ap (with_tokens line) is))) second

-- And three.
pub added_three : {E : Type 0} (r : Result (Unit {0}) E) (line one two three : LineState) (a b c all : List Token)
    → one ≡ with_tokens line a → two ≡ with_tokens one b → OnOk r (three ≡ with_tokens two c) → a ++ (b ++ c) ≡ all → OnOk r (three ≡ with_tokens line all)
added_three r line one two three a b c all first second third is =
    added_two r line one three a (b ++ c) all first (added_two r one two three b c (b ++ c) second third (λ i. b ++ c)) is

-- And four.
pub added_four : {E : Type 0} (r : Result (Unit {0}) E) (line one two three four : LineState) (a b c d all : List Token)
    → one ≡ with_tokens line a → two ≡ with_tokens one b → three ≡ with_tokens two c → OnOk r (four ≡ with_tokens three d) → a ++ (b ++ (c ++ d)) ≡ all → OnOk r (four ≡ with_tokens line all)
added_four r line one two three four a b c d all first second third fourth is =
    added_two r line one four a (b ++ (c ++ d)) all first (added_three r one two three four b c d (b ++ (c ++ d)) second third fourth (λ i. b ++ (c ++ d))) is

-- And six.
pub added_six : {E : Type 0} (r : Result (Unit {0}) E) (line one two three four five six : LineState) (a b c d e f all : List Token)
    → one ≡ with_tokens line a → two ≡ with_tokens one b → three ≡ with_tokens two c → four ≡ with_tokens three d → five ≡ with_tokens four e → OnOk r (six ≡ with_tokens five f)
    → a ++ (b ++ (c ++ (d ++ (e ++ f)))) ≡ all → OnOk r (six ≡ with_tokens line all)
added_six r line one two three four five six a b c d e f all first second third fourth fifth sixth is =
    added_three r line one two six a b (c ++ (d ++ (e ++ f))) all first second (added_four r two three four five six c d e f (c ++ (d ++ (e ++ f))) third fourth fifth sixth (λ i. c ++ (d ++ (e ++ f)))) is

-- What one number more has.
pub added_below : (f : ℕ → List Token) (line now next : LineState) (k : ℕ) (a : List Token)
    → now ≡ with_tokens line (below f k) → next ≡ with_tokens now a → a ≡ f k → next ≡ with_tokens line (below f (k + 1))
added_below f line now next k a before step is =
    step ∙ (ap (λ (l : LineState). with_tokens l a) before ∙ (added_twice line (below f k) a ∙ (ap (λ (ts : List Token). with_tokens line (below f k ++ ts)) is ∙ ap (λ (n : ℕ). with_tokens line (below f n)) more))) where
      more : suc k ≡ k + 1
      more = omega arith
