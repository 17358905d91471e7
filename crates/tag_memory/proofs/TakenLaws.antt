-- Tags that are taken page by page.
use Rattle.std.proofs.Common.{◌≡◌, ◌≢◌, ℕ, ◌+◌, ◌*◌, ◌/◌, ◌<◌, ◌≤◌, Bool, true, false, inl, inr, List, length, get_or, set, sym, refl, ap, ◌∙◌, subst, arith, bit_and, w64, get_or-set_same, get_or-set_other}
use Rattle.std.specs.Int.{bit_not}
use Rattle.std.proofs.lemmas.Bool.{cases_lt, true≢false}
use Rattle.std.proofs.lemmas.List.{get_or_past, get_or_read, length-set}
use Rattle.tag_memory.specs.Cells.{may_hold_at}
use Rattle.tag_memory.specs.Tags.{AreBlank, HasWord, IsBlank}

-- Of the pages before this one the tags of the masks are taken, and each is marked just where one of its tags is
-- left. The rest is as before.
pub record ArePageTagsTaken (masks before after : List ℕ) (held left : List Bool) (page : ℕ) : Type 0 where
  pub count : length after ≡ length before
  pub marks : length left ≡ length held
  pub done : (w : ℕ) → w / 4 < page → get_or after w 0 ≡ bit_and (get_or before w 0) (bit_not w64 (get_or masks w 0))
  pub rest : (w : ℕ) → page ≤ w / 4 → get_or after w 0 ≡ get_or before w 0
  pub kept : (p : ℕ) → page ≤ p → may_hold_at left p ≡ may_hold_at held p
  pub none : (p : ℕ) → p < page → may_hold_at left p ≡ false → IsBlank after p
  pub some : (p : ℕ) → p < page → may_hold_at left p ≡ true → HasWord after p

pub taken-none : (masks before : List ℕ) (held : List Bool) → ArePageTagsTaken masks before before held held 0
taken-none masks before held = record {
  count = refl;
  marks = refl;
  done = λ w below. absurd (omega (arith, below));
  rest = λ w from. refl;
  kept = λ p from. refl;
  none = λ p below. absurd (omega (arith, below));
  some = λ p below. absurd (omega (arith, below));
}

-- A page that another page's words are not of.
same_word : {after : List ℕ} {page : ℕ} (next : List ℕ) → ((w : ℕ) → w / 4 ≢ page → get_or next w 0 ≡ get_or after w 0)
    → (p : ℕ) → p < page → HasWord after p → HasWord next p
same_word {page = page} next rest p below has = record {
  word = has.word;
  inside = has.inside;
  some = λ none. has.some (sym (rest has.word (λ same. absurd (omega (arith, below, same, has.inside)))) ∙ none);
}

-- One page more.
pub taken-more : {masks before after : List ℕ} {held left : List Bool} {page : ℕ} → ArePageTagsTaken masks before after held left page → (next : List ℕ) (answer : Bool) → page < length held
    → length next ≡ length after
    → ((w : ℕ) → w / 4 ≡ page → get_or next w 0 ≡ bit_and (get_or after w 0) (bit_not w64 (get_or masks w 0)))
    → ((w : ℕ) → w / 4 ≢ page → get_or next w 0 ≡ get_or after w 0)
    → (answer ≡ false → IsBlank next page)
    → (answer ≡ true → HasWord next page)
    → ArePageTagsTaken masks before next held (set left page answer) (page + 1)
taken-more {masks = masks} {before = before} {after = after} {held = held} {left = left} {page = page} t next answer inside count words rest none some =
    let here : may_hold_at (set left page answer) page ≡ answer = get_or-set_same left page answer false (omega (arith, inside, t.marks)) in
    let other = λ (p : ℕ) (apart : p ≢ page). get_or-set_other left page p answer false apart in
    record {
      count = count ∙ t.count;
      marks = length-set left page answer ∙ t.marks;
      done = λ w below. elim (cases_lt (w / 4) page) [
        | inl before_it ↦ rest w (λ same. absurd (omega (arith, before_it, same))) ∙ t.done w before_it
        | inr from ↦ words w (omega (arith, below, from)) ∙ ap (λ (word : ℕ). bit_and word (bit_not w64 (get_or masks w 0))) (t.rest w from)
      ];
      rest = λ w from. rest w (λ same. absurd (omega (arith, from, same))) ∙ t.rest w (omega (arith, from));
      kept = λ p from. other p (λ same. absurd (omega (arith, from, same))) ∙ t.kept p (omega (arith, from));
      none = λ p below unmarked. elim (cases_lt p page) [
        | inl before_it ↦ λ w of_page.
            rest w (λ same. absurd (omega (arith, before_it, same, of_page)))
            ∙ t.none p before_it (sym (other p (λ same. absurd (omega (arith, before_it, same)))) ∙ unmarked) w of_page
        | inr from ↦
            let same : p ≡ page = omega (arith, below, from) in
            subst (IsBlank next) (sym same) (none (sym here ∙ (ap (may_hold_at (set left page answer)) (sym same) ∙ unmarked)))
      ];
      some = λ p below marked. elim (cases_lt p page) [
        | inl before_it ↦ same_word next rest p before_it (t.some p before_it (sym (other p (λ same. absurd (omega (arith, before_it, same)))) ∙ marked))
        | inr from ↦
            let same : p ≡ page = omega (arith, below, from) in
            subst (HasWord next) (sym same) (some (sym here ∙ (ap (may_hold_at (set left page answer)) (sym same) ∙ marked)))
      ];
    }

-- Where all pages are done, those that may hold no tags have none.
pub blank-taken : {masks before after : List ℕ} {held left : List Bool} {page : ℕ} → ArePageTagsTaken masks before after held left page → length left ≤ page → length before ≡ 4 * length held → AreBlank after left
unfolding AreBlank
blank-taken {after = after} {page = page} t all long p unmarked w of_page = elim (cases_lt p page) [
  | inl below ↦ t.none p below unmarked w of_page
  | inr past ↦ get_or_past after w 0 (omega (arith, past, all, long, of_page, t.count, t.marks))
]

-- And those that may hold some have one.
pub some-taken : {masks before after : List ℕ} {held left : List Bool} {page : ℕ} → ArePageTagsTaken masks before after held left page → length left ≤ page → (p : ℕ) → may_hold_at left p ≡ true → HasWord after p
some-taken {left = left} {page = page} t all p marked = elim (cases_lt p page) [
  | inl below ↦ t.some p below marked
  | inr past ↦ absurd (true≢false (sym marked ∙ get_or_past left p false (omega (arith, past, all))))
]

-- A page that may hold no tags, before it is its turn.
pub still_blank : {masks before after : List ℕ} {held left : List Bool} {page : ℕ} → ArePageTagsTaken masks before after held left page → (read : Bool) → page < length left → read ≡ get_or left page read → read ≡ false
    → AreBlank before held → IsBlank after page
unfolding AreBlank
still_blank {left = left} {page = page} t read inside e unmarked blank w of_page =
    let now : may_hold_at left page ≡ false = sym (get_or_read left page read inside e false) ∙ unmarked in
    t.rest w (omega (arith, of_page)) ∙ blank page (sym (t.kept page (omega arith)) ∙ now) w of_page
