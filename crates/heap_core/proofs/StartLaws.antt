-- Blocks made due by the bits of their first granules.
use Rattle.std.proofs.Common.{◌≡◌, ◌≢◌, ◌==◌, if◌then◌else◌, ◌<◌, ◌≤◌, ◌+◌, ◌*◌, ◌/◌, ◌%◌, ◌&&◌, inl, inr, nat_lt, ℕ, Bool, true, false, List, length, get_or, set, refl, sym, ap, ◌∙◌, arith}
use Rattle.std.proofs.lemmas.Bool.{both_ways, cases_eq, eq-eqb, ne_eqb, cases_lt, le-ltb, lt-ltb}
use Rattle.std.proofs.lemmas.Grind.{get_or-set_at}
use Rattle.std.proofs.lemmas.List.{get_or-set_other, get_or_past}
use Rattle.tag_memory.specs.Laws.{is_set_zero}
use Rattle.tag_memory.specs.Tags.{is_set, is_set_for}

-- ---- one bit more

below_other : (i j : ℕ) → i ≢ j → nat_lt i j ≡ nat_lt i (j + 1)
below_other i j other =
    elim (cases_lt i j) [
      | inl before ↦ rw (lt-ltb i j before, lt-ltb i (j + 1) (omega (arith, before))) refl
      | inr from ↦ rw (le-ltb i j from, le-ltb i (j + 1) (omega (arith, from, other))) refl
    ]

-- Blocks that start at the bits of a word are made due, one by one: those of `rest` are left.
pub record AreLeft (marks : List Bool) (w word rest : ℕ) : Type 0 where
  pub ones : (i : ℕ) → is_set rest i ≡ true → is_set word i ≡ true
  pub live : (i : ℕ) → i < 64 → is_set rest i ≡ true → get_or marks (64 * w + i) false ≡ false
  pub due : (i : ℕ) → i < 64 → is_set rest i ≡ false → get_or marks (64 * w + i) false ≡ is_set word i

pub AreLeft-all : (marks : List Bool) (w word : ℕ) → ((i : ℕ) → i < 64 → get_or marks (64 * w + i) false ≡ false) → AreLeft marks w word word
AreLeft-all marks w word none = record { ones = λ i one. one; live = λ i lt one. none i lt; due = λ i lt unset. none i lt ∙ sym unset }

pub AreLeft-less : (marks : List Bool) (w word rest less j : ℕ) → AreLeft marks w word rest → 64 * w + j < length marks → is_set rest j ≡ true
    → ((i : ℕ) → is_set less i ≡ (if i == j then false else is_set rest i)) → AreLeft (set marks (64 * w + j) true) w word less
AreLeft-less marks w word rest less j are inside one bits =
    let here : (i : ℕ) → i ≡ j → is_set less i ≡ false = λ i same. bits i ∙ rw (eq-eqb i j same) refl in
    let there : (i : ℕ) → i ≢ j → is_set rest i ≡ is_set less i = λ i other. sym (bits i ∙ rw (ne_eqb i j other) refl) in
    let kept : (i : ℕ) → i ≢ j → get_or (set marks (64 * w + j) true) (64 * w + i) false ≡ get_or marks (64 * w + i) false =
    λ i other. get_or-set_other marks (64 * w + j) (64 * w + i) true false (λ e. other (omega (arith, e))) in
    record {
      ones = λ i is. elim (cases_eq i j) [
        | inl same ↦ absurd (both_ways _ (here i same) is)
        | inr other ↦ are.ones i (there i other ∙ is)
      ];
      live = λ i lt is. elim (cases_eq i j) [
        | inl same ↦ absurd (both_ways _ (here i same) is)
        | inr other ↦ kept i other ∙ are.live i lt (there i other ∙ is)
      ];
      due = λ i lt unset. elim (cases_eq i j) [
        | inl same ↦
            get_or-set_at marks (64 * w + j) (64 * w + i) true false (omega (arith, same)) inside
            ∙ sym (ap (is_set word) same ∙ are.ones j one)
        | inr other ↦ kept i other ∙ are.due i lt (there i other ∙ unset)
      ];
    }

-- No other word's marks change.
pub due_elsewhere : (marks : List Bool) (w j k : ℕ) → j < 64 → k / 64 ≢ w → get_or (set marks (64 * w + j) true) k false ≡ get_or marks k false
due_elsewhere marks w j k below other = get_or-set_other marks (64 * w + j) k true false (λ e. other (omega (arith, e, below)))

-- ---- one word more

pub word_more : (new old : List Bool) (starts : List ℕ) (w word : ℕ) → word ≡ get_or starts w 0
    → ((j : ℕ) → j < 64 → get_or new (64 * w + j) false ≡ is_set word j)
    → ((k : ℕ) → k / 64 ≢ w → get_or new k false ≡ get_or old k false)
    → ((k : ℕ) → get_or old k false ≡ (nat_lt (k / 64) w && is_set_for starts k))
    → (k : ℕ) → get_or new k false ≡ (nat_lt (k / 64) (w + 1) && is_set_for starts k)
word_more new old starts w word is here rest before k =
    elim (cases_eq (k / 64) w) [
      | inl same ↦
          let at : 64 * w + k % 64 ≡ k = omega (arith, same) in
          let there : get_or new k false ≡ is_set word (k % 64) = ap (λ (i : ℕ). get_or new i false) (sym at) ∙ here (k % 64) (omega arith) in
          let bit : is_set word (k % 64) ≡ is_set_for starts k = ap (λ (x : ℕ). is_set x (k % 64)) (is ∙ ap (λ (v : ℕ). get_or starts v 0) (sym same)) in
          there ∙ (bit ∙ sym (ap (λ (b : Bool). b && is_set_for starts k) (lt-ltb (k / 64) (w + 1) (omega (arith, same)))))
      | inr other ↦ rest k other ∙ (before k ∙ ap (λ (b : Bool). b && is_set_for starts k) (below_other (k / 64) w other))
    ]

-- All words.
pub all_words : (starts : List ℕ) (w k : ℕ) → length starts ≤ w → (nat_lt (k / 64) w && is_set_for starts k) ≡ is_set_for starts k
all_words starts w k all =
    elim (cases_lt (k / 64) w) [
      | inl before ↦ ap (λ (b : Bool). b && is_set_for starts k) (lt-ltb (k / 64) w before)
      | inr past ↦
          let none : is_set_for starts k ≡ false = ap (λ (x : ℕ). is_set x (k % 64)) (get_or_past starts (k / 64) 0 (omega (arith, all, past))) ∙ is_set_zero (k % 64) in
          ap (λ (b : Bool). b && is_set_for starts k) (le-ltb (k / 64) w past) ∙ sym none
    ]
