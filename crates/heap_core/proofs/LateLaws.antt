-- Marks of two kinds over one table: of the blocks that are due, and of the late ones.
use Rattle.std.proofs.Common.{◌&&◌, ◌≡◌, ◌≢◌, ◌<◌, ◌≤◌, ◌+◌, ◌*◌, ◌/◌, ◌%◌, ◌||◌, inl, inr, nat_lt, not, ℕ, zero, suc, Bool, true, false, List, [], ◌∷◌, length, get_or, set, length-set, replicate, refl, sym, ap, ◌∙◌, subst, arith}
use Rattle.std.proofs.lemmas.Bool.{cases_Bool, cases_eq, cases_lt, le-ltb, lt-ltb, true≢false}
use Rattle.std.proofs.lemmas.Bool.Decides.{nat_tests}
use Rattle.std.proofs.lemmas.List.{ext_get_or, get_or-set_other, get_or-set_same, get_or_past}
use Rattle.granule_rows.specs.Runs.{is_within}
use Rattle.heap_model.specs.Blocks.{Span, bytes_in}
use Rattle.heap_core.specs.Consistent.{AreLate, either_mark, heap_state}
use Rattle.heap_model.specs.Shadow.{bits_of}
use Rattle.heap_core.specs.Table.{IsGap, blocks_of, is_marked, is_unmarked, kept_lengths}
use Rattle.heap_core.proofs.KeptLaws.{get_or-kept}
use Rattle.heap_core.proofs.RunLaws.{run_is_empty}
use Rattle.heap_model.specs.ShadowLaws.{get_or-bits_of, length-bits_of}
use Rattle.heap_core.proofs.SumLaws.{bytes_in-cons}
use Rattle.tag_memory.specs.Laws.{is_set_zero}
use Rattle.tag_memory.specs.Tags.{is_set, is_set_for}

-- ---- either mark

pub length-either : (marks lates : List Bool) → length (either_mark marks lates) ≡ length marks
length-either [] lates = refl
length-either (mark ∷ marks) [] = refl
length-either (mark ∷ marks) (late ∷ lates) = ap suc (length-either marks lates)

pub get_or-either : (marks lates : List Bool) (k : ℕ) → length lates ≡ length marks → get_or (either_mark marks lates) k false ≡ (get_or marks k false || get_or lates k false)
get_or-either [] [] k same = refl
get_or-either [] (late ∷ lates) k same = absurd (omega arith)
get_or-either (mark ∷ marks) [] k same = absurd (omega arith)
get_or-either (mark ∷ marks) (late ∷ lates) zero same = refl
get_or-either (mark ∷ marks) (late ∷ lates) (suc k) same = get_or-either marks lates k (omega arith)

or_true : (a : Bool) → (a || true) ≡ true
or_true true = refl
or_true false = refl

pub either-set_left : (marks lates : List Bool) (k : ℕ) → either_mark (set marks k true) lates ≡ set (either_mark marks lates) k true
either-set_left [] lates k = refl
either-set_left (mark ∷ marks) [] zero = refl
either-set_left (mark ∷ marks) [] (suc k) = refl
either-set_left (mark ∷ marks) (late ∷ lates) zero = refl
either-set_left (mark ∷ marks) (late ∷ lates) (suc k) = ap (λ rest. (mark || late) ∷ rest) (either-set_left marks lates k)

pub either-set_right : (marks lates : List Bool) (k : ℕ) → length lates ≡ length marks → either_mark marks (set lates k true) ≡ set (either_mark marks lates) k true
either-set_right [] lates k same = refl
either-set_right (mark ∷ marks) [] k same = absurd (omega arith)
either-set_right (mark ∷ marks) (late ∷ lates) zero same = ap (λ b. b ∷ either_mark marks lates) (or_true mark)
either-set_right (mark ∷ marks) (late ∷ lates) (suc k) same = ap (λ rest. (mark || late) ∷ rest) (either-set_right marks lates k (omega arith))

-- A new block has neither.
pub either-set_none : (marks lates : List Bool) (p : ℕ) → length lates ≡ length marks → get_or lates p false ≡ false
    → either_mark (set marks p false) lates ≡ set (either_mark marks lates) p false
either-set_none [] lates p same none = refl
either-set_none (mark ∷ marks) [] p same none = absurd (omega arith)
either-set_none (mark ∷ marks) (late ∷ lates) zero same none = ap (λ b. b ∷ either_mark marks lates) none
either-set_none (mark ∷ marks) (late ∷ lates) (suc p) same none = ap (λ rest. (mark || late) ∷ rest) (either-set_none marks lates p (omega arith) none)

-- Where no block is due the late marks are all, and where none is late those of the due ones.
pub either-none_left : (n : ℕ) (lates : List Bool) → length lates ≡ n → either_mark (replicate n false) lates ≡ lates
either-none_left zero [] same = refl
either-none_left zero (late ∷ lates) same = absurd (omega arith)
either-none_left (suc n) [] same = absurd (omega arith)
either-none_left (suc n) (late ∷ lates) same = ap (λ rest. late ∷ rest) (either-none_left n lates (omega arith))

or_false : (a b : Bool) → b ≡ false → (a || b) ≡ a
or_false true b none = refl
or_false false b none = none

pub either-none_right : (marks lates : List Bool) → ((k : ℕ) → get_or lates k false ≡ false) → either_mark marks lates ≡ marks
either-none_right [] lates none = refl
either-none_right (mark ∷ marks) [] none = refl
either-none_right (mark ∷ marks) (late ∷ lates) none =
    λ i. or_false mark late (none 0) i ∷ either-none_right marks lates (λ k. none (suc k)) i

-- ---- the lists of blocks

-- No block is due where no mark stands.
pub no_due : (base i : ℕ) (lengths : List ℕ) (marks : List Bool) → ((k : ℕ) → get_or marks k false ≡ false) → blocks_of is_marked base i lengths marks ≡ []
no_due base i [] marks none = refl
no_due base i (n ∷ lengths) [] none = refl
no_due base i (n ∷ lengths) (mark ∷ marks) none =
    let here : mark ≡ false = none 0 in
    rw (here, no_due base (i + 1) lengths marks (λ k. none (suc k))) (grind arith)

-- And no mark stands where the blocks with one have no bytes.
pub no_bytes : (base i : ℕ) (lengths : List ℕ) (marks : List Bool) → length marks ≡ length lengths → ((k : ℕ) → get_or marks k false ≡ true → 0 < get_or lengths k 0)
    → bytes_in (blocks_of is_marked base i lengths marks) ≡ 0 → (k : ℕ) → get_or marks k false ≡ false
no_bytes base i [] [] same some none k = refl
no_bytes base i [] (mark ∷ marks) same some none k = absurd (omega arith)
no_bytes base i (n ∷ lengths) [] same some none k = absurd (omega arith)
no_bytes base i (n ∷ lengths) (true ∷ marks) same some none k =
    let here : 0 < n = some 0 refl in
    let bytes = none in
    absurd (omega (arith, here, rw (lt-ltb 0 n here) at bytes, bytes_in-cons (base + 16 * i, 16 * n) (blocks_of is_marked base (i + 1) lengths marks)))
no_bytes base i (n ∷ lengths) (false ∷ marks) same some none zero = refl
no_bytes base i (n ∷ lengths) (false ∷ marks) same some none (suc k) =
    let bytes = none in
    no_bytes base (i + 1) lengths marks (omega arith) (λ j. some (suc j)) (rw (and_false (nat_lt 0 n)) at bytes) k where
      and_false : (a : Bool) → (a && false) ≡ false
      and_false true = refl
      and_false false = refl

-- The blocks with either mark are those with the one and those with the other.
pub bytes_in-either : (base i : ℕ) (lengths : List ℕ) (marks lates : List Bool) → length marks ≡ length lengths → length lates ≡ length lengths
    → ((k : ℕ) → get_or lates k false ≡ true → get_or marks k false ≡ false)
    → bytes_in (blocks_of is_marked base i lengths (either_mark marks lates)) ≡ bytes_in (blocks_of is_marked base i lengths marks) + bytes_in (blocks_of is_marked base i lengths lates)
bytes_in-either base i [] marks lates same also apart = omega arith
bytes_in-either base i (n ∷ lengths) [] lates same also apart = absurd (omega arith)
bytes_in-either base i (n ∷ lengths) (mark ∷ marks) [] same also apart = absurd (omega arith)
bytes_in-either base i (n ∷ lengths) (mark ∷ marks) (late ∷ lates) same also apart =
    let rest = bytes_in-either base (i + 1) lengths marks lates (omega arith) (omega arith) (λ k. apart (suc k)) in
    let block : Span = (base + 16 * i, 16 * n) in
    let both = blocks_of is_marked base (i + 1) lengths (either_mark marks lates) in
    let due = blocks_of is_marked base (i + 1) lengths marks in
    let others = blocks_of is_marked base (i + 1) lengths lates in
    elim (cases_lt 0 n) [
      | inl some ↦ elim (cases_Bool late) [
        | inl is ↦ (let not_due : mark ≡ false = apart 0 is in rw (lt-ltb 0 n some, is, not_due) (omega (arith, rest, bytes_in-cons block both, bytes_in-cons block others)))
        | inr not_late ↦ elim (cases_Bool mark) [
          | inl is ↦ rw (lt-ltb 0 n some, is, not_late) (omega (arith, rest, bytes_in-cons block both, bytes_in-cons block due))
          | inr not_due ↦ rw (lt-ltb 0 n some, not_late, not_due) rest
        ]
      ]
      | inr none ↦ rw (le-ltb 0 n none) rest
    ]

-- Once the blocks that are due are gone, the live ones are those before, ..
pub live_blocks-dropped : (base i : ℕ) (lengths : List ℕ) (marks lates : List Bool) → length marks ≡ length lengths → length lates ≡ length lengths
    → blocks_of is_unmarked base i (kept_lengths is_unmarked lengths marks) lates ≡ blocks_of is_unmarked base i lengths (either_mark marks lates)
live_blocks-dropped base i [] marks lates same also = refl
live_blocks-dropped base i (n ∷ lengths) [] lates same also = absurd (omega arith)
live_blocks-dropped base i (n ∷ lengths) (mark ∷ marks) [] same also = absurd (omega arith)
live_blocks-dropped base i (n ∷ lengths) (mark ∷ marks) (late ∷ lates) same also =
    let rest = live_blocks-dropped base (i + 1) lengths marks lates (omega arith) (omega arith) in
    elim (cases_Bool mark) [
      | inl is ↦ rw (is, rest) (grind arith)
      | inr is ↦ rw (is, rest) refl
    ]

-- .. and so are the late ones.
pub late_blocks-dropped : (base i : ℕ) (lengths : List ℕ) (marks lates : List Bool) → length marks ≡ length lengths → length lates ≡ length lengths
    → ((k : ℕ) → get_or lates k false ≡ true → get_or marks k false ≡ false)
    → blocks_of is_marked base i (kept_lengths is_unmarked lengths marks) lates ≡ blocks_of is_marked base i lengths lates
late_blocks-dropped base i [] marks lates same also apart = refl
late_blocks-dropped base i (n ∷ lengths) [] lates same also apart = absurd (omega arith)
late_blocks-dropped base i (n ∷ lengths) (mark ∷ marks) [] same also apart = absurd (omega arith)
late_blocks-dropped base i (n ∷ lengths) (mark ∷ marks) (late ∷ lates) same also apart =
    let rest = late_blocks-dropped base (i + 1) lengths marks lates (omega arith) (omega arith) (λ k. apart (suc k)) in
    elim (cases_Bool late) [
      | inl is ↦ (let not_due : mark ≡ false = apart 0 is in rw (is, not_due, rest) refl)
      | inr not_late ↦ elim (cases_Bool mark) [
        | inl is ↦ rw (is, not_late, rest) (grind arith)
        | inr not_due ↦ rw (not_late, not_due, rest) refl
      ]
    ]

-- ---- the bits of a row as marks

pub bits_of-none : (words : List ℕ) → ((k : ℕ) → is_set_for words k ≡ false) → (k : ℕ) → get_or (bits_of words) k false ≡ false
bits_of-none words none k =
    elim (cases_lt k (64 * length words)) [
      | inl lt ↦ get_or-bits_of words k lt ∙ none k
      | inr past ↦ get_or_past_bits words k past
    ] where
      get_or_past_bits : (ws : List ℕ) (j : ℕ) → 64 * length ws ≤ j → get_or (bits_of ws) j false ≡ false
      get_or_past_bits ws j past = get_or_past (bits_of ws) j false (omega (arith, past, length-bits_of ws))

-- The mark of a granule, read from the row.
pub read_late : (words seen : List ℕ) (k : ℕ) (b : Bool) → k < 64 * length words → seen ≡ words → b ≡ is_set_for seen k → get_or (bits_of words) k false ≡ b
read_late words seen k b inside same is = get_or-bits_of words k inside ∙ (ap (λ (xs : List ℕ). is_set_for xs k) (sym same) ∙ sym is)

pub bits_of-set : (old new : List ℕ) (start : ℕ) → length new ≡ length old → start < 64 * length old
    → ((k : ℕ) → is_set_for new k ≡ (is_within start (start + 1) k || is_set_for old k))
    → bits_of new ≡ set (bits_of old) start true
bits_of-set old new start same inside bits =
    ext_get_or false (bits_of new) (set (bits_of old) start true) (length-bits_of new ∙ ap (λ n. 64 * n) same ∙ sym (length-set (bits_of old) start true ∙ length-bits_of old))
    (λ k lt.
    let within : k < 64 * length new = omega (arith, lt, length-bits_of new) in
    let here : k < 64 * length old = omega (arith, within, same) in
    elim (cases_eq k start) [
      | inl is ↦
          let at : is_within start (start + 1) k ≡ true = grind (arith, nat_tests) in
          let there : get_or (set (bits_of old) start true) k false ≡ true = subst (λ (j : ℕ). get_or (set (bits_of old) start true) j false ≡ true) (sym is) (get_or-set_same (bits_of old) start true false (omega (arith, inside, length-bits_of old))) in
          get_or-bits_of new k within ∙ (bits k ∙ ap (λ b. b || is_set_for old k) at) ∙ sym there
      | inr other ↦
          let at : is_within start (start + 1) k ≡ false = grind (arith, nat_tests) in
          get_or-bits_of new k within ∙ (bits k ∙ ap (λ b. b || is_set_for old k) at) ∙ sym (get_or-set_other (bits_of old) start k true false other ∙ get_or-bits_of old k here)
    ])

-- ---- late blocks

pub AreLate-none : {lengths : List ℕ} {marks lates : List Bool} {is_open : Bool} → length lates ≡ length lengths → ((k : ℕ) → get_or lates k false ≡ false) → AreLate lengths marks lates is_open
AreLate-none same none = record {
  same = same;
  some = λ k is. absurd (true≢false (sym is ∙ none k));
  apart = λ k is. absurd (true≢false (sym is ∙ none k));
  closed = λ _ k. none k;
}

-- No block is late where an epoch is open and the late ones have no bytes, and where none is open.
pub none_late : (base : ℕ) {lengths : List ℕ} {marks lates : List Bool} {is_open : Bool} → AreLate lengths marks lates is_open
    → (is_open ≡ true → bytes_in (heap_state base lengths marks lates is_open).waiting ≡ 0) → (k : ℕ) → get_or lates k false ≡ false
none_late base {lengths} {lates} {is_open = true} are none = no_bytes base 0 lengths lates are.same are.some (none refl)
none_late base {is_open = false} are none = are.closed refl

-- An epoch is open where a block is late.
pub is_open-late : (base : ℕ) {lengths : List ℕ} {marks lates : List Bool} {is_open : Bool} (late : ℕ) → AreLate lengths marks lates is_open
    → 16 * late ≡ bytes_in (blocks_of is_marked base 0 lengths lates) → late ≢ 0 → is_open ≡ true
is_open-late base {is_open = true} late are bytes some = refl
is_open-late base {lengths} {lates} {is_open = false} late are bytes some =
    let none : bytes_in (blocks_of is_marked base 0 lengths lates) ≡ 0 = ap bytes_in (no_due base 0 lengths lates (are.closed refl)) in
    absurd (some (omega (arith, bytes, none)))

-- No late block starts in a gap.
pub none_in_gap : {lengths : List ℕ} {marks lates : List Bool} {is_open : Bool} {p n : ℕ} → AreLate lengths marks lates is_open → IsGap lengths p n → get_or lates p false ≡ false
none_in_gap {lates} {p} are run =
    elim (cases_Bool (get_or lates p false)) [
      | inl is ↦ absurd (omega (arith, are.some p is, run_is_empty p run (omega arith) (omega (arith, run.some))))
      | inr is ↦ is
    ]

pub AreLate-put : {lengths : List ℕ} {marks lates : List Bool} {is_open : Bool} {p n : ℕ} → AreLate lengths marks lates is_open → IsGap lengths p n
    → AreLate (set lengths p n) (set marks p false) lates is_open
AreLate-put {lengths} {marks} {lates} {p} {n} are run =
    let none = none_in_gap are run in
    let elsewhere : (k : ℕ) → get_or lates k false ≡ true → k ≢ p = λ k is here. true≢false (sym is ∙ (ap (λ (j : ℕ). get_or lates j false) here ∙ none)) in
    record {
      same = are.same ∙ sym (length-set lengths p n);
      some = λ k is. rw (get_or-set_other lengths p k n 0 (elsewhere k is)) (are.some k is);
      apart = λ k is. get_or-set_other marks p k false false (elsewhere k is) ∙ are.apart k is;
      closed = are.closed;
    }

-- One late block more, in an open epoch.
pub AreLate-late : {lengths : List ℕ} {marks lates : List Bool} {is_open : Bool} (k : ℕ) → is_open ≡ true → AreLate lengths marks lates is_open → 0 < get_or lengths k 0 → get_or marks k false ≡ false
    → AreLate lengths marks (set lates k true) is_open
AreLate-late {lengths} {marks} {lates} k open_now are block live =
    let before : (j : ℕ) → j ≢ k → get_or (set lates k true) j false ≡ true → get_or lates j false ≡ true = λ j other is. sym (get_or-set_other lates k j true false other) ∙ is in
    record {
      same = length-set lates k true ∙ are.same;
      some = λ j is. elim (cases_eq j k) [ inl here ↦ subst (λ (i : ℕ). 0 < get_or lengths i 0) (sym here) block | inr other ↦ are.some j (before j other is) ];
      apart = λ j is. elim (cases_eq j k) [ inl here ↦ ap (λ (i : ℕ). get_or marks i false) here ∙ live | inr other ↦ are.apart j (before j other is) ];
      closed = λ e. absurd (true≢false (sym open_now ∙ e));
    }

-- ---- the end of an epoch

-- A late block stays where the blocks that are due are dropped.
pub late_stays : {lengths : List ℕ} {marks : List Bool} (words : List ℕ) {is_open : Bool} → length marks ≡ length lengths → AreLate lengths marks (bits_of words) is_open
    → (k : ℕ) → is_set_for words k ≡ true → 0 < get_or (kept_lengths is_unmarked lengths marks) k 0
late_stays {lengths} {marks} words same are k row =
    let inside : k < 64 * length words = elim (cases_lt k (64 * length words)) [
      | inl lt ↦ lt
      | inr past ↦
          let none : is_set_for words k ≡ false = ap (λ (x : ℕ). is_set x (k % 64)) (get_or_past words (k / 64) 0 (omega (arith, past))) ∙ is_set_zero (k % 64) in
          absurd (true≢false (sym row ∙ none))
    ] in
    let late : get_or (bits_of words) k false ≡ true = get_or-bits_of words k inside ∙ row in
    let below : k < length lengths = omega (arith, inside, are.same, length-bits_of words) in
    omega (arith, are.some k late, get_or-kept is_unmarked lengths marks k false same below (ap not (are.apart k late)))

-- Marks that are the bits of a row.
pub marks_of_bits : (marks : List Bool) (words : List ℕ) → length marks ≡ 64 * length words → ((k : ℕ) → get_or marks k false ≡ is_set_for words k) → marks ≡ bits_of words
marks_of_bits marks words same each =
    ext_get_or false marks (bits_of words) (same ∙ sym (length-bits_of words)) (λ k lt. each k ∙ sym (get_or-bits_of words k (omega (arith, lt, same))))
