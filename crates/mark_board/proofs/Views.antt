-- What holds of every seat, kept by each step on its view.
use Rattle.std.proofs.Common.{◌≡◌, ℕ, ◌+◌, ◌*◌, ◌^◌, ◌<◌, ◌≤◌, zero, suc, List, [], ◌∷◌, length, replicate, get_or, sym, ap, ◌∙◌, subst, arith, get_or-set_other, get_or-set_same}
use Rattle.std.proofs.lemmas.List.{length-replicate}
use Rattle.std.proofs.Math.Decide.{ℕ_discrete}
use Rattle.std.proofs.lemmas.Nat.{and_le_l, or_lt}
use Rattle.std.proofs.lemmas.Nat.Bits.{bit_at_or}
use Rattle.std.specs.Int.{bit_at, bit_not, w64}
use Rattle.std.specs.Prelude.{bit_or}
use Rattle.atomic_table.specs.Table.{Me}
use mathlib.Core.Logic.{dite}
use Rattle.mark_board.specs.declared.rule.View.{View}
use Rattle.mark_board.specs.Bits.{AreWords, LiesOnBoard, Within, bit, with_bits, union, bits_without}
use Rattle.mark_board.specs.Board.{IsSeat, words_for}
use Rattle.mark_board.specs.Identity.{BoardId}
use Rattle.mark_board.specs.Laws.{bit-gains_other, bit-gains_same, bit-none, bit-united, bit-without, length-gains, length-united}
use Rattle.mark_board.specs.Rule.{IsKept, both_parts, cut_part, kept_part, marked_view, seat_of, settled_view}

pub own-marked : (mine seen : List ℕ) (i k x : ℕ) → i < length mine → i < length seen → k < 2 ^ 64 → x < 2 ^ 64 → Within mine seen → Within (with_bits mine i (bits_without k x)) (with_bits seen i (bit_or x k))
own-marked mine seen i k x in_mine in_seen fits word own w j = dite (ℕ_discrete w i)
    (λ here. subst (λ (z : ℕ). bit (with_bits mine i (bits_without k x)) z j ≤ bit (with_bits seen i (bit_or x k)) z j) (sym here)
    (let m = bit-gains_same mine i (bits_without k x) j in_mine in
    let n = bit-without k x j fits word in
    let s = bit-gains_same seen i (bit_or x k) j in_seen in
    let o = bit_at_or x k j in
    let a = own i j in
    omega arith))
    (λ other.
    let m = bit-gains_other mine i (bits_without k x) w j other in
    let s = bit-gains_other seen i (bit_or x k) w j other in
    let a = own w j in
    omega arith)

pub inside-gains : (bits : ℕ) (words : List ℕ) (i more : ℕ) → i < length words → ((j : ℕ) → bits ≤ 64 * i + j → bit_at more j ≡ 0) → LiesOnBoard bits words → LiesOnBoard bits (with_bits words i more)
inside-gains bits words i more there none inside w j past = dite (ℕ_discrete w i)
    (λ here. subst (λ (z : ℕ). bit (with_bits words i more) z j ≡ 0) (sym here)
    (let q : bits ≤ 64 * i + j = omega arith in
    let g = bit-gains_same words i more j there in
    let a = inside i j q in
    let b = none j q in
    omega arith))
    (λ other. bit-gains_other words i more w j other ∙ inside w j past)

pub own-united : (a b c d : List ℕ) → Within a c → Within b d → Within (union a b) (union c d)
own-united a b c d first second w j =
    let m = bit-united a b w j in
    let q = bit-united c d w j in
    let x = first w j in
    let y = second w j in
    omega arith

inside-united : (bits : ℕ) (a b : List ℕ) → LiesOnBoard bits a → LiesOnBoard bits b → LiesOnBoard bits (union a b)
inside-united bits a b first second w j past =
    let m = bit-united a b w j in
    let x = first w j past in
    let y = second w j past in
    omega arith

pub inside-or : (bits i x k : ℕ) → ((j : ℕ) → bits ≤ 64 * i + j → bit_at x j ≡ 0) → ((j : ℕ) → bits ≤ 64 * i + j → bit_at k j ≡ 0) → (j : ℕ) → bits ≤ 64 * i + j → bit_at (bit_or x k) j ≡ 0
inside-or bits i x k first second j past =
    let o = bit_at_or x k j in
    let a = first j past in
    let b = second j past in
    omega arith

-- ---- words of 64 bits

pub words-none : (count : ℕ) → AreWords (replicate count 0)
words-none zero w = omega arith
words-none (suc count) zero = omega arith
words-none (suc count) (suc w) = words-none count w

pub words-gains : (words : List ℕ) (i more : ℕ) → i < length words → more < 2 ^ 64 → AreWords words → AreWords (with_bits words i more)
words-gains words i more there fits are w =
    let word : ℕ = bit_or (get_or words i 0) more in
    dite (ℕ_discrete w i)
    (λ here. subst (λ (z : ℕ). get_or (with_bits words i more) z 0 < 2 ^ 64) (sym here)
    (subst (λ (z : ℕ). z < 2 ^ 64) (sym (get_or-set_same words i word 0 there)) (or_lt 64 (get_or words i 0) more (are i) fits)))
    (λ other. subst (λ (z : ℕ). z < 2 ^ 64) (sym (get_or-set_other words i w word 0 other)) (are w))

pub words-united : (a b : List ℕ) → AreWords a → AreWords b → AreWords (union a b)
words-united [] b first second w = second w
words-united (x ∷ xs) [] first second w = first w
words-united (x ∷ xs) (y ∷ ys) first second zero = or_lt 64 x y (first zero) (second zero)
words-united (x ∷ xs) (y ∷ ys) first second (suc w) = words-united xs ys (λ k. first (suc k)) (λ k. second (suc k)) w

pub without-below : (mask word : ℕ) → mask < 2 ^ 64 → bits_without mask word < 2 ^ 64
without-below mask word fits = let few = and_le_l mask (bit_not w64 word) in omega arith

-- ---- what holds of a seat

pub none-within : (count : ℕ) (words : List ℕ) → Within (replicate count 0) words
none-within count words w j = let z = bit-none count w j in omega arith

pub sound-marked : (z : BoardId) (v : View) (i k x : ℕ) → i < words_for v.shape.bits → k < 2 ^ 64 → x < 2 ^ 64
    → ((j : ℕ) → v.shape.bits ≤ 64 * i + j → bit_at x j ≡ 0) → ((j : ℕ) → v.shape.bits ≤ 64 * i + j → bit_at k j ≡ 0)
    → IsSeat (seat_of z v) → IsSeat (seat_of z (marked_view v i k x))
sound-marked z v i k x there fits word found mask s = record {
  mine_width = length-gains v.mine i (bits_without k x) ∙ s.mine_width;
  seen_width = length-gains v.seen i (bit_or x k) ∙ s.seen_width;
  mine_words = words-gains v.mine i (bits_without k x) (let e = s.mine_width in omega arith) (without-below k x fits) s.mine_words;
  seen_words = words-gains v.seen i (bit_or x k) (let e = s.seen_width in omega arith) (or_lt 64 x k word fits) s.seen_words;
  own = own-marked v.mine v.seen i k x (let e = s.mine_width in omega arith) (let e = s.seen_width in omega arith) fits word s.own;
  inside = inside-gains v.shape.bits v.seen i (bit_or x k) (let e = s.seen_width in omega arith) (inside-or v.shape.bits i x k found mask) s.inside;
  some = s.some;
  parts = s.parts;
}

-- The same of an equal view at the same board.
kept-same : (parts : ℕ) (z z' : BoardId) (me me' : Me (Unit {0}) View) → IsKept parts z me → z' ≡ z → me' ≡ me → IsKept parts z' me'
kept-same parts z z' me me' kept board is = subst (λ (m : Me (Unit {0}) View). IsKept parts z' m) (sym is) (subst (λ (b : BoardId). IsKept parts b me) (sym board) kept)

pub sound-kept : (z : BoardId) (v : View) → 1 < v.parts → IsSeat (seat_of z v) → IsSeat (seat_of z (kept_part v))
sound-kept z v more s = record {
  mine_width = s.mine_width;
  seen_width = s.seen_width;
  mine_words = s.mine_words;
  seen_words = s.seen_words;
  own = s.own;
  inside = s.inside;
  some = omega arith;
  parts = let e = s.parts in omega arith;
}

pub sound-cut : (z : BoardId) (v : View) → IsSeat (seat_of z v) → IsSeat (seat_of z (cut_part v))
sound-cut z v s = record {
  mine_width = length-replicate (length v.mine) 0 ∙ s.mine_width;
  seen_width = s.seen_width;
  mine_words = words-none (length v.mine);
  seen_words = s.seen_words;
  own = none-within (length v.mine) v.seen;
  inside = s.inside;
  some = omega arith;
  parts = let e = s.some in let f = s.parts in omega arith;
}

pub sound-both : (z z' : BoardId) (v w : View) → w.shape.bits ≡ v.shape.bits → v.parts + w.parts ≤ v.shape.parts → IsSeat (seat_of z v) → IsSeat (seat_of z' w) → IsSeat (seat_of z (both_parts v w))
sound-both z z' v w same few s t =
    let wide = ap words_for same in
    record {
      mine_width = length-united v.mine w.mine (s.mine_width ∙ sym wide ∙ sym t.mine_width) ∙ t.mine_width ∙ wide;
      seen_width = length-united v.seen w.seen (s.seen_width ∙ sym wide ∙ sym t.seen_width) ∙ t.seen_width ∙ wide;
      mine_words = words-united v.mine w.mine s.mine_words t.mine_words;
      seen_words = words-united v.seen w.seen s.seen_words t.seen_words;
      own = own-united v.mine w.mine v.seen w.seen s.own t.own;
      inside = inside-united v.shape.bits v.seen w.seen s.inside (subst (λ (n : ℕ). LiesOnBoard n w.seen) same t.inside);
      some = let e = s.some in omega arith;
      parts = few;
    }

-- What a mark leaves a seat with.
pub kept-marked : (parts : ℕ) (z z' : BoardId) (me me' : Me (Unit {0}) View) (i k x : ℕ) → i < words_for me.0.shape.bits → k < 2 ^ 64 → x < 2 ^ 64
    → ((j : ℕ) → me.0.shape.bits ≤ 64 * i + j → bit_at x j ≡ 0) → ((j : ℕ) → me.0.shape.bits ≤ 64 * i + j → bit_at k j ≡ 0)
    → IsKept parts z me → z' ≡ z → me' ≡ (marked_view me.0 i k x, me.1) → IsKept parts z' me'
kept-marked parts z z' me me' i k x there fits word found mask kept board is = kept-same parts z z' (marked_view me.0 i k x, me.1) me'
    (kept.0, kept.1, sound-marked z me.0 i k x there fits word found mask kept.2) board is

-- What a join leaves the first of two seats with.
pub kept-joined : (parts more : ℕ) (z z' y : BoardId) (me me' other : Me (Unit {0}) View) → other.0.shape.bits ≡ me.0.shape.bits → me.0.parts + other.0.parts ≤ me.0.shape.parts
    → IsKept parts z me → IsKept more y other → z' ≡ z → me' ≡ (settled_view (both_parts me.0 other.0), me.1) → IsKept (parts + more) z' me'
kept-joined parts more z z' y me me' other same few kept taken board is = kept-same (parts + more) z z' (settled_view (both_parts me.0 other.0), me.1) me'
    ((let a = kept.0 in let b = taken.0 in omega arith), kept.1, sound-both z y me.0 other.0 same few kept.2 taken.2) board is
