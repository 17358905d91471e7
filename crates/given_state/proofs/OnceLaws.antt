-- Lines that give each register and each granule once, and one more.
use Rattle.std.proofs.Common.{◌≡◌, ◌∙◌, ◌<◌, suc, drop, ◌+◌, ◌*◌, ◌==◌, ◌&&◌, ℕ, Bool, true, false, List, [], ◌∷◌, ◌++◌, Option, None, Some, inl, inr, if◌then◌else◌, ap, arith, cond, get_or, length, refl, subst, sym, take}
use Rattle.std.proofs.lemmas.Bool.{cases_eq}
use Rattle.std.proofs.lemmas.Bool.Decides.{nat_tests}
use Rattle.std.proofs.lemmas.List.{append-nil, append_assoc, take_more}
use Rattle.std.proofs.Math.Seq.{split_at}
use Rattle.std.specs.BTreeMap.{BTreeMap, Updates, get, is_at}
use Rattle.std.specs.Map.{lookup}
use Rattle.std.specs.Ordering.{nat_cmp}
use Rattle.std.specs.Prelude.{MatchOption}
use Rattle.log_text.specs.Log.{first_line}
use Rattle.log_text.specs.declared.log.Given.{Given}
use Rattle.log_text.specs.declared.log.Given.TheVariants.{Epoch, Granule, Live, Painted, Register, Waiting}
use Rattle.given_state.specs.declared.fault.Lack.{Lack}
use Rattle.given_state.specs.Given.{AreGivenOnce, AreNewAfter, GivesAgain, IsGivenAgain, give_the_same}
use Rattle.given_state.specs.Giving.{AreNoted, IsNotedAs, gives_number, is_number, place_number}

-- ---- first lines

-- The first of two lines, where there is one.
abbrev earlier : Option ℕ → Option ℕ → Option ℕ
earlier (Some line) other = Some line
earlier None other = other

earlier-none : (found : Option ℕ) → earlier found None ≡ found
earlier-none (Some line) = refl
earlier-none None = refl

earlier-if : (b : Bool) (line : ℕ) (a other : Option ℕ) → (if b then Some line else earlier a other) ≡ earlier (if b then Some line else a) other
earlier-if true line a other = refl
earlier-if false line a other = refl

first_line-push : {A : Type 0} (test : A → Bool) (lines : List (ℕ × A)) (one : ℕ × A)
    → first_line test (lines ++ one ∷ []) ≡ earlier (first_line test lines) (if test one.1 then Some one.0 else None)
first_line-push test [] one = refl
first_line-push test (first ∷ lines) one =
    let own : Option ℕ = if test one.1 then Some one.0 else None in
    ap (λ found. if test first.1 then Some first.0 else found) (first_line-push test lines one) ∙ earlier-if (test first.1) first.0 (first_line test lines) own

-- Tests that say the same find the same.
first_line-same : {A : Type 0} (f g : A → Bool) (lines : List (ℕ × A)) → ((a : A) → f a ≡ g a) → first_line f lines ≡ first_line g lines
first_line-same f g [] same = refl
first_line-same f g (first ∷ lines) same =
    ap (λ b. if b then Some first.0 else first_line f lines) (same first.1) ∙ ap (λ found. if g first.1 then Some first.0 else found) (first_line-same f g lines same)

first_line-never : {A : Type 0} (lines : List (ℕ × A)) → first_line (λ (a : A). false) lines ≡ None
first_line-never [] = refl
first_line-never (first ∷ lines) = first_line-never lines

-- ---- numbers

odd_and_even : (r a : ℕ) → (2 * r + 1 == 2 * a) ≡ false
odd_and_even r a = grind (arith, nat_tests)

even_and_odd : (a r : ℕ) → (2 * a == 2 * r + 1) ≡ false
even_and_odd a r = grind (arith, nat_tests)

odd : (r q : ℕ) → (r == q) ≡ (2 * r + 1 == 2 * q + 1)
odd r q = grind (arith, nat_tests)

even : (a b : ℕ) → (a == b) ≡ (2 * a == 2 * b)
even a b = grind (arith, nat_tests)

-- The other line gives what has this number, if there is one.
abbrev gives_this : Option ℕ → Given → Bool
gives_this None other = false
gives_this (Some number) other = gives_number number other

same_number : (given other : Given) → give_the_same given other ≡ gives_this (place_number given) other
same_number (Register r t b) (Register q u c) = odd r q
same_number (Register r t b) (Granule a u c) = sym (odd_and_even r a)
same_number (Register r t b) (Live base top) = refl
same_number (Register r t b) (Waiting base top) = refl
same_number (Register r t b) (Painted base top) = refl
same_number (Register r t b) Epoch = refl
same_number (Granule a t b) (Register q u c) = sym (even_and_odd a q)
same_number (Granule a t b) (Granule e u c) = even a e
same_number (Granule a t b) (Live base top) = refl
same_number (Granule a t b) (Waiting base top) = refl
same_number (Granule a t b) (Painted base top) = refl
same_number (Granule a t b) Epoch = refl
same_number (Live base top) other = refl
same_number (Waiting base top) other = refl
same_number (Painted base top) other = refl
same_number Epoch other = refl

first_same : (given : Given) (o : Option ℕ) (lines : List (ℕ × Given)) → o ≡ place_number given
    → first_line (give_the_same given) lines ≡ first_line (gives_this o) lines
first_same given o lines is =
    first_line-same (give_the_same given) (gives_this o) lines (λ other. same_number given other ∙ ap (λ p. gives_this p other) (sym is))

-- ---- one line more

pub AreNewAfter-push : (before lines : List (ℕ × Given)) (line : ℕ × Given) → AreNewAfter before lines → first_line (give_the_same line.1) (before ++ lines) ≡ None
    → AreNewAfter before (lines ++ line ∷ [])
AreNewAfter-push before [] line new none = (subst (λ (xs : List (ℕ × Given)). first_line (give_the_same line.1) xs ≡ None) (append-nil before) none, tt)
AreNewAfter-push before (first ∷ lines) line new none = (
  new.0,
  AreNewAfter-push (before ++ first ∷ []) lines line new.1
      (subst (λ (xs : List (ℕ × Given)). first_line (give_the_same line.1) xs ≡ None) (sym (append_assoc before (first ∷ []) lines)) none),
)

-- Lines that give each once, and what was noted of them.
pub record AreOnceNoted (map : BTreeMap ℕ ℕ) (lines : List (ℕ × Given)) : Type 0 where
  pub once : AreGivenOnce lines
  pub noted : AreNoted map lines

-- None gives what a line gives that is noted now.
none_gives : (old new : BTreeMap ℕ ℕ) (lines : List (ℕ × Given)) (line : ℕ) (o : Option ℕ) → AreNoted old lines → IsNotedAs old new line o None
    → first_line (gives_this o) lines ≡ None
none_gives old new lines line None noted is = first_line-never lines
none_gives old new lines line (Some number) noted is = sym (noted number) ∙ is.0

noted_more : (old new : BTreeMap ℕ ℕ) (lines : List (ℕ × Given)) (line : ℕ) (o : Option ℕ) (q : ℕ) → AreNoted old lines → IsNotedAs old new line o None
    → get nat_cmp new q ≡ earlier (first_line (gives_number q) lines) (if is_number q o then Some line else None)
noted_more old new lines line None q noted is =
    ap (λ (m : BTreeMap ℕ ℕ). get nat_cmp m q) is.1 ∙ noted q ∙ sym (earlier-none (first_line (gives_number q) lines))
noted_more old new lines line (Some number) q noted is =
    elim (cases_eq q number) [
      | inl same ↦
          let here : (q == number) ≡ true = grind (arith, nat_tests, same) in
          let none : first_line (gives_number q) lines ≡ None = sym (noted q) ∙ ap (get nat_cmp old) same ∙ is.0 in
          ap (get nat_cmp new) same ∙ is.1.1
          ∙ sym (ap (λ b. earlier (first_line (gives_number q) lines) (if b then Some line else None)) here ∙ ap (λ found. earlier found (Some line)) none)
      | inr other ↦
          let here : (q == number) ≡ false = grind (arith, nat_tests, other) in
          let apart : is_at (nat_cmp number) q ≡ false = grind (arith, nat_tests, other) in
          is.1.0 q ∙ ap (λ b. cond b (Some line) (get nat_cmp old q)) apart ∙ noted q
          ∙ sym (ap (λ b. earlier (first_line (gives_number q) lines) (if b then Some line else None)) here ∙ earlier-none (first_line (gives_number q) lines))
    ]

push_noted : (old new : BTreeMap ℕ ℕ) (lines : List (ℕ × Given)) (line : ℕ × Given) (o : Option ℕ) → o ≡ place_number line.1 → AreOnceNoted old lines
    → IsNotedAs old new line.0 o None → AreOnceNoted new (lines ++ line ∷ [])
push_noted old new lines line o at known is = record {
  once = AreNewAfter-push [] lines line known.once (first_same line.1 o lines at ∙ none_gives old new lines line.0 o known.noted is);
  noted = λ q.
      noted_more old new lines line.0 o q known.noted is
      ∙ ap (λ p. earlier (first_line (gives_number q) lines) (if is_number q p then Some line.0 else None)) at
      ∙ sym (first_line-push (gives_number q) lines line);
}

pub AreOnceNoted-more : (old new : BTreeMap ℕ ℕ) (lines : List (ℕ × Given)) (i : ℕ) (none : ℕ × Given) (found : Option ℕ) → i < length lines → AreOnceNoted old (take i lines)
    → found ≡ None → IsNotedAs old new (get_or lines i none).0 (place_number (get_or lines i none).1) found → AreOnceNoted new (take (i + 1) lines)
AreOnceNoted-more old new lines i none found here known is noted =
    let line = get_or lines i none in
    subst (AreOnceNoted new) (sym (take_more lines i none here))
    (push_noted old new (take i lines) line (place_number line.1) refl known (subst (IsNotedAs old new line.0 (place_number line.1)) is noted))

-- What was noted is the line that was the first to give the same.
found_gives : (old new : BTreeMap ℕ ℕ) (lines : List (ℕ × Given)) (line : ℕ) (o : Option ℕ) (found : ℕ) → AreNoted old lines → IsNotedAs old new line o (Some found)
    → first_line (gives_this o) lines ≡ Some found
found_gives old new lines line None found noted is = absurd (none≢some (sym is.0)) where
  none≢some : None ≡ Some found → ⊥
  none≢some same = cc
found_gives old new lines line (Some number) found noted is = sym (noted number) ∙ is

pub IsGivenAgain-at : (old new : BTreeMap ℕ ℕ) (lines : List (ℕ × Given)) (i : ℕ) (none : ℕ × Given) (found : Option ℕ) (earlier : ℕ) (lack : Lack) → i < length lines
    → AreOnceNoted old (take i lines) → found ≡ Some earlier → IsNotedAs old new (get_or lines i none).0 (place_number (get_or lines i none).1) found
    → GivesAgain (get_or lines i none).1 earlier lack → IsGivenAgain lines (get_or lines i none).0 lack
IsGivenAgain-at old new lines i none found earlier lack here known is noted again =
    let line = get_or lines i none in
    let before : IsNotedAs old new line.0 (place_number line.1) (Some earlier) = subst (IsNotedAs old new line.0 (place_number line.1)) is noted in
    record {
      before = take i lines;
      given = line.1;
      after = drop (suc i) lines;
      parts = split_at lines i none here;
      once = known.once;
      earlier = earlier;
      was = first_same line.1 (place_number line.1) (take i lines) refl ∙ found_gives old new (take i lines) line.0 (place_number line.1) earlier known.noted before;
      again = again;
    }

-- A line that gives no word gives none again.
gives_none : (old new : BTreeMap ℕ ℕ) (line : ℕ) (o : Option ℕ) (earlier : ℕ) → o ≡ None → IsNotedAs old new line o (Some earlier) → ⊥
gives_none old new line None earlier is noted = none≢some (sym noted.0) where
  none≢some : None ≡ Some earlier → ⊥
  none≢some same = cc
gives_none old new line (Some number) earlier is noted = some≢none is where
  some≢none : Some number ≡ None → ⊥
  some≢none same = cc

-- So what is found lacks something.
pub lacks_some : (old new : BTreeMap ℕ ℕ) (line : ℕ × Given) (found : Option ℕ) (earlier : ℕ) (lack : Option Lack) → found ≡ Some earlier
    → IsNotedAs old new line.0 (place_number line.1) found → lack ≡ None → MatchOption lack (place_number line.1 ≡ None) (GivesAgain line.1 earlier) → ⊥
lacks_some old new line found earlier lack is noted none again =
    gives_none old new line.0 (place_number line.1) earlier
    (subst (λ (l : Option Lack). MatchOption l (place_number line.1 ≡ None) (GivesAgain line.1 earlier)) none again)
    (subst (IsNotedAs old new line.0 (place_number line.1)) is noted)

pub AreOnceNoted-empty : (map : BTreeMap ℕ ℕ) → map.entries ≡ [] → AreOnceNoted map []
AreOnceNoted-empty map empty = record { once = tt; noted = λ q. ap (λ (entries : List (ℕ × ℕ)). lookup (is_at (nat_cmp q)) entries) empty }
