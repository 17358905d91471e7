-- Each step of a board keeps its rule.
use Rattle.std.proofs.Common.{◌≡◌, ◌≢◌, ℕ, ◌+◌, ◌-◌, ◌*◌, ◌^◌, ◌<◌, ◌≤◌, List, [], ◌∷◌, ◌++◌, length, replicate, get_or, set, sym, refl, ap, ◌∙◌, subst, ⊎_elim, arith}
use Rattle.std.proofs.lemmas.List.{length-replicate, set-get_or}
use Rattle.std.proofs.lemmas.List.Sums.{sum_by_push}
use Rattle.std.proofs.Math.Decide.{ℕ_discrete}
use Rattle.std.proofs.lemmas.Nat.{or_lt}
use Rattle.std.proofs.lemmas.Nat.Bits.{bit_at-lt, bit_at-zero, bit_at_or}
use Rattle.std.specs.Int.{bit_at}
use Rattle.std.specs.List.{sum_by}
use Rattle.std.specs.Prelude.{bit_or}
use Rattle.atomic_table.proofs.Lists.{at_set, at_snoc, set_else}
use Rattle.atomic_table.specs.Table.{Allows, Final, Joins, Me, Seen, Splits, keeps, opening, step}
use mathlib.Core.Logic.{dite}
use mathlib.Core.Option.{none, some, some-ne-none}
use lib.ListN.{get_elem?}
use Rattle.mark_board.specs.declared.rule.Shape.{Shape}
use Rattle.mark_board.specs.declared.rule.View.{View}
use Rattle.mark_board.specs.Bits.{Apart, LiesOnBoard, Within, bit, with_bits, bits_without}
use Rattle.mark_board.specs.Board.{IsSeat, words_for}
use Rattle.mark_board.specs.Identity.{BoardId}
use Rattle.mark_board.specs.Laws.{bit-gains_other, bit-gains_same, bit-none, bit-united, bit-without, gains-keep, length-gains, same_bits}
use Rattle.mark_board.specs.Rule.{IsHonest, IsLawful, IsLawfulState, Marks, Settles, both_parts, cut_part, first_view, kept_part, marked_view, seat_of, settled_view, spent_view, view}
use Rattle.mark_board.proofs.Totals.{all_here, total-at, total-set}
use Rattle.mark_board.proofs.Views.{inside-gains, none-within, own-marked, own-united, without-below, words-gains, words-none, words-united}

-- Each view, by its number.
abbrev Each : (View → Type 0) → List View → Type 0
Each F views = (id : ℕ) (v : View) → get_elem? views id ≡ some v → F v

each-set : (F : View → Type 0) (views : List View) (id : ℕ) (w : View) → F w → Each F views → Each F (set views id w)
each-set F views id w this others j u e = ⊎_elim
    (λ (x : (j ≡ id) × (w ≡ u)). subst F x.1 this)
    (λ (x : (j ≢ id) × (get_elem? views j ≡ some u)). others j u x.1)
    (at_set views id j w u e)

each-snoc : (F : View → Type 0) (views : List View) (w : View) → F w → Each F views → Each F (views ++ w ∷ [])
each-snoc F views w this others j u e = ⊎_elim
    (λ (old : get_elem? views j ≡ some u). others j u old)
    (λ (is : w ≡ u). subst F is this)
    (at_snoc views w u j e)

kept_else : (views : List View) (id : ℕ) (w : View) (j : ℕ) (u : View) → j ≢ id → get_elem? views j ≡ some u → get_elem? (set views id w) j ≡ some u
kept_else views id w j u two e = set_else views id j w two ∙ e

-- The empty set shares no bit with itself.
apart-none : Apart [] []
apart-none w j = let z : bit [] w j ≡ 0 = bit_at-zero j in omega arith

-- The same view with other parts, as a step leaves it.
honest-view : (shape : Shape) (words : List ℕ) (v : View) (parts : ℕ) → 0 < v.parts → 0 < parts → IsHonest shape words v → IsHonest shape words (view v.shape parts v.mine v.seen)
honest-view shape words v parts had part h = record {
  mine_words = h.mine_words;
  seen_words = h.seen_words;
  own = h.own;
  set = h.set;
  none = λ no_part. absurd (omega arith);
  known = λ _. h.known had;
  apart = apart-none;
}

-- The table of a new board.
pub opens : (shape : Shape) → 0 < shape.parts → IsLawfulState shape (opening (replicate (words_for shape.bits) 0) [] (first_view shape))
opens shape some_part =
    let n : ℕ = words_for shape.bits in
    record {
      width = length-replicate n 0;
      are_words = words-none n;
      inside = λ w j past. bit-none n w j;
      parts = omega arith;
      first = λ w j. let z = bit-none n w j in omega arith;
      honest = λ id v e. each-snoc (IsHonest shape (replicate n 0)) [] (first_view shape)
          (record {
            mine_words = words-none n;
            seen_words = words-none n;
            own = none-within n (replicate n 0);
            set = none-within n (replicate n 0);
            none = λ _. bit-none n;
            known = λ _. refl;
            apart = apart-none;
          })
          (λ j u at. absurd (some-ne-none u (sym at))) id v e;
    }

module _ (ws : List ℕ) (i k : ℕ) (inside : i < length ws) (v : View) (mine_wide : length v.mine ≡ length ws) (seen_wide : length v.seen ≡ length ws) (fits : k < 2 ^ 64) (word : get_or ws i 0 < 2 ^ 64) where
  abbrev x : ℕ
  x = get_or ws i 0

  abbrev ws' : List ℕ
  ws' = with_bits ws i k

  abbrev w : View
  w = marked_view v i k x

  -- The total of the bits of `mine` at one place.
  one_place : (a j t t' : ℕ) → Within v.mine v.seen → Within v.seen ws → t' + bit v.mine a j ≡ t + bit w.mine a j → t ≡ bit ws a j → t' ≡ bit ws' a j
  one_place a j t t' own set sum is = dite (ℕ_discrete a i)
      (λ here.
      let q : t' + bit v.mine i j ≡ t + bit w.mine i j = subst (λ (z : ℕ). t' + bit v.mine z j ≡ t + bit w.mine z j) here sum in
      let r : t ≡ bit ws i j = subst (λ (z : ℕ). t ≡ bit ws z j) here is in
      subst (λ (z : ℕ). t' ≡ bit ws' z j) (sym here)
      (let g = bit-gains_same ws i k j inside in
      let m = bit-gains_same v.mine i (bits_without k x) j (omega arith) in
      let n = bit-without k x j fits word in
      let a1 = own i j in
      let a2 = set i j in
      let b1 = bit_at-lt k j in
      let b2 = bit_at-lt x j in
      omega arith))
      (λ other.
      let g = bit-gains_other ws i k a j other in
      let m = bit-gains_other v.mine i (bits_without k x) a j other in
      omega arith)

  seen_set : Within v.seen ws → Within w.seen ws'
  seen_set set a j = dite (ℕ_discrete a i)
      (λ here. subst (λ (z : ℕ). bit w.seen z j ≤ bit ws' z j) (sym here)
      (let g = bit-gains_same ws i k j inside in
      let s = bit-gains_same v.seen i (bit_or x k) j (omega arith) in
      let o = bit_at_or x k j in
      let a1 = set i j in
      omega arith))
      (λ other.
      let g = bit-gains_other ws i k a j other in
      let s = bit-gains_other v.seen i (bit_or x k) a j other in
      let a1 = set a j in
      omega arith)

  pub lawful-marked : (shape : Shape) (views : List View) (id : ℕ) → 0 < v.parts → ((j : ℕ) → shape.bits ≤ 64 * i + j → bit_at k j ≡ 0) → IsLawful shape ws views → get_elem? views id ≡ some v → IsLawful shape ws' (set views id w)
  lawful-marked shape views id some_part mask r at =
      let h = r.honest id v at in
      record {
        width = length-gains ws i k ∙ r.width;
        are_words = words-gains ws i k inside fits r.are_words;
        inside = inside-gains shape.bits ws i k inside mask r.inside;
        parts = (let s = total-set (λ u. u.parts) views id v w at in let p = r.parts in omega arith);
        first = λ a j. one_place a j (sum_by (λ u. bit u.mine a j) views) (sum_by (λ u. bit u.mine a j) (set views id w)) h.own h.set (total-set (λ u. bit u.mine a j) views id v w at) (r.first a j);
        honest = each-set (IsHonest shape ws') views id w
            (record {
              mine_words = words-gains v.mine i (bits_without k x) (omega arith) (without-below k x fits) h.mine_words;
              seen_words = words-gains v.seen i (bit_or x k) (omega arith) (or_lt 64 x k word fits) h.seen_words;
              own = own-marked v.mine v.seen i k x (omega arith) (omega arith) fits word h.own;
              set = seen_set h.set;
              none = λ no_part. absurd (omega arith);
              known = h.known;
              apart = apart-none;
            })
            (λ j u e. let o = r.honest j u e in record {
              mine_words = o.mine_words;
              seen_words = o.seen_words;
              own = o.own;
              set = λ a b. let g = gains-keep ws i k a b inside in let s = o.set a b in omega arith;
              none = o.none;
              known = o.known;
              apart = o.apart;
            });
      }

pub marks : (shape : Shape) (slots id : ℕ) (z : BoardId) (me : Me (Unit {0}) View) (i k : ℕ) → i < words_for shape.bits → k < 2 ^ 64 → ((j : ℕ) → shape.bits ≤ 64 * i + j → bit_at k j ≡ 0) → IsSeat (seat_of z me.0)
    → Allows (IsLawfulState shape) slots id me i (λ n. bit_or n k) (Marks (step slots i k 0 none) me)
marks shape slots id z me i k there fits mask sound s r _ at small =
    let v : View = me.0 in
    let h = r.honest id v at in
    let is = h.known sound.some in
    let wide : length s.words ≡ words_for v.shape.bits = r.width ∙ ap (λ (t : Shape). words_for t.bits) (sym is) in
    let bits : v.shape.bits ≡ shape.bits = ap (λ (t : Shape). t.bits) is in (
      marked_view v i k (get_or s.words i 0),
      keeps,
      tt,
      lawful-marked s.words i k (let e = r.width in omega arith) v (sound.mine_width ∙ sym wide) (sound.seen_width ∙ sym wide) fits small shape s.views id sound.some mask r at,
      ((λ j. h.set i j), (λ j past. r.inside i j (omega arith)), refl),
    )

pub cuts : (shape : Shape) (id : ℕ) (v : View) → 1 < v.parts → Splits (IsLawfulState shape) id v (kept_part v) (cut_part v)
cuts shape id v more s r at =
    let h = r.honest id v at in
    let n : ℕ = length v.mine in
    let l : View = kept_part v in
    let w : View = cut_part v in
    record {
      width = r.width;
      are_words = r.are_words;
      inside = r.inside;
      parts = (let a = total-set (λ u. u.parts) s.views id v l at in let b = sum_by_push (λ u. u.parts) (set s.views id l) w in let p = r.parts in omega arith);
      first = λ i j.
          let a = total-set (λ u. bit u.mine i j) s.views id v l at in
          let b = sum_by_push (λ u. bit u.mine i j) (set s.views id l) w in
          let p = r.first i j in
          let z = bit-none n i j in
          omega arith;
      honest = each-snoc (IsHonest shape s.words) (set s.views id l) w
          (record {
            mine_words = words-none n;
            seen_words = h.seen_words;
            own = none-within n v.seen;
            set = h.set;
            none = λ no_part. absurd (omega arith);
            known = λ _. h.known (omega arith);
            apart = apart-none;
          })
          (each-set (IsHonest shape s.words) s.views id l (honest-view shape s.words v (v.parts - 1) (omega arith) (omega arith) h) r.honest);
    }

pub unites : (shape : Shape) (id : ℕ) (v : View) (other : ℕ) (w : View) → 0 < v.parts → Joins (IsLawfulState shape) id v other w (both_parts v w) spent_view
unites shape id v other w some_part s r at two at' =
    let both : View = both_parts v w in
    let mid : List View = set s.views id both in
    let was : get_elem? s.views other ≡ some w = ⊎_elim
    (λ (x : (other ≡ id) × (both ≡ w)). absurd (two x.0))
    (λ (x : (other ≢ id) × (get_elem? s.views other ≡ some w)). x.1)
    (at_set s.views id other both w at') in
    let h = r.honest id v at in
    let k = r.honest other w was in
    let apart : Apart v.mine w.mine = λ i j.
    let f : View → ℕ = λ u. bit u.mine i j in
    let a = total-set f s.views id v spent_view at in
    let z : bit [] i j ≡ 0 = bit_at-zero j in
    let b = total-at f (set s.views id spent_view) other w (kept_else s.views id spent_view other w two was) in
    let p = r.first i j in
    let c = bit_at-lt (get_or s.words i 0) j in
    omega arith in
    record {
      width = r.width;
      are_words = r.are_words;
      inside = r.inside;
      parts = (let a = total-set (λ u. u.parts) s.views id v both at in let b = total-set (λ u. u.parts) mid other w spent_view at' in let p = r.parts in omega arith);
      first = λ i j.
          let f : View → ℕ = λ u. bit u.mine i j in
          let a = total-set f s.views id v both at in
          let b = total-set f mid other w spent_view at' in
          let p = r.first i j in
          let z : bit [] i j ≡ 0 = bit_at-zero j in
          let m = bit-united v.mine w.mine i j in
          let d = apart i j in
          omega arith;
      honest = each-set (IsHonest shape s.words) mid other spent_view
          (record {
            mine_words = words-none 0;
            seen_words = words-none 0;
            own = λ i j. let z : bit [] i j ≡ 0 = bit_at-zero j in omega arith;
            set = λ i j. let z : bit [] i j ≡ 0 = bit_at-zero j in omega arith;
            none = λ _ i j. bit_at-zero j;
            known = λ part. absurd (omega arith);
            apart = apart-none;
          })
          (each-set (IsHonest shape s.words) s.views id both
          (record {
            mine_words = words-united v.mine w.mine h.mine_words k.mine_words;
            seen_words = words-united v.seen w.seen h.seen_words k.seen_words;
            own = own-united v.mine w.mine v.seen w.seen h.own k.own;
            set = λ i j. let q = bit-united v.seen w.seen i j in let a = h.set i j in let b = k.set i j in omega arith;
            none = λ no_part. absurd (omega arith);
            known = λ _. h.known some_part;
            apart = apart;
          })
          r.honest);
    }

pub settles : (shape : Shape) (slots id : ℕ) (me : Me (Unit {0}) View) → 0 < me.0.parts → Allows (IsLawfulState shape) slots id me 0 (λ n. n) (Settles (step slots 0 0 0 none) me)
settles shape slots id me some_part s r _ at _ =
    let v : View = me.0 in
    let h = r.honest id v at in
    let w : View = settled_view v in
    let known : v.shape.parts ≡ shape.parts = ap (λ (t : Shape). t.parts) (h.known some_part) in (
      w,
      keeps,
      tt,
      subst (λ (ws : List ℕ). IsLawful shape ws (set s.views id w)) (sym (set-get_or s.words 0 0)) (record {
        width = r.width;
        are_words = r.are_words;
        inside = r.inside;
        parts = (let a = total-set (λ u. u.parts) s.views id v w at in let p = r.parts in omega arith);
        first = λ i j. let a = total-set (λ u. bit u.mine i j) s.views id v w at in let p = r.first i j in omega arith;
        honest = each-set (IsHonest shape s.words) s.views id w (honest-view shape s.words v v.parts some_part some_part h) r.honest;
      }),
      (h.apart, (let t = total-at (λ u. u.parts) s.views id v at in let p = r.parts in omega arith), refl),
    )

-- The words at the end are what a seat with all parts has set first, and what it has seen.
pub ends : (shape : Shape) (ws : List ℕ) (xs : List (Unit {0})) (id : ℕ) (z : BoardId) (v : View) → v.parts ≡ shape.parts → IsSeat (seat_of z v) → Final (Seen (IsLawfulState shape) id v) ws xs
    → (ws ≡ v.mine) × (ws ≡ v.seen) × LiesOnBoard shape.bits ws
ends shape ws xs id z v all sound last =
    let r = last.1.0 in
    let h = r.honest id v last.1.1 in
    let wide : length last.0.words ≡ words_for v.shape.bits = r.width ∙ ap (λ (t : Shape). words_for t.bits) (sym (h.known sound.some)) in
    let same : (i j : ℕ) → bit last.0.words i j ≡ bit v.mine i j = λ i j.
    sym (r.first i j) ∙ all_here (λ u. bit u.mine i j) (λ u. u.parts) last.0.views id v (λ k u e no_part. (r.honest k u e).none no_part i j) last.1.1 (r.parts ∙ sym all) in (
      sym last.2 ∙ same_bits last.0.words v.mine (wide ∙ sym sound.mine_width) same,
      sym last.2 ∙ same_bits last.0.words v.seen (wide ∙ sym sound.seen_width) (λ i j. let a = same i j in let b = h.own i j in let c = h.set i j in omega arith),
      subst (λ (words : List ℕ). LiesOnBoard shape.bits words) last.2 r.inside,
    )
