-- What the clauses of a board give its callers: the bits of sets that gain, of sets that are united, of
-- masks, and of a seat that has seen all that it looks for.
use Rattle.std.proofs.Common.{◌≡◌, ◌≢◌, ℕ, zero, suc, ◌+◌, ◌-◌, ◌*◌, ◌^◌, ◌<◌, ◌≤◌, List, [], ◌∷◌, length, replicate, get_or, min, max, sym, refl, ap, ◌∙◌, subst, arith, get_or-set_same, get_or-set_other, length-set}
use Rattle.std.proofs.Math.Decide.{dec_lt, ℕ_discrete}
use Rattle.std.proofs.lemmas.Nat.{or_comm, pow_below}
use Rattle.std.proofs.lemmas.Nat.Bits.{bit_at_above, bit_at_and, bit_at_not, bit_at_or, bit_at-zero, same_from_bits}
use Rattle.std.specs.Int.{bit_at, bit_not, w64}
use Rattle.std.specs.Prelude.{bit_or}
use mathlib.Core.Logic.{dite}
use Rattle.mark_board.specs.Bits.{LiesOnBoard, bit, with_bits, union, bits_without}
use Rattle.mark_board.specs.Board.{BoardState, IsMaskOf, IsOf, IsSeat, SeatState, word_count}

-- The empty set has no bit.
pub bit-none : (count w j : ℕ) → bit (replicate count 0) w j ≡ 0
bit-none zero w j = bit_at-zero j
bit-none (suc count) zero j = bit_at-zero j
bit-none (suc count) (suc w) j = bit-none count w j

-- A bit is in two sets together where it is in one of them.
pub bit-united : (first second : List ℕ) (w j : ℕ) → bit (union first second) w j ≡ max (bit first w j) (bit second w j)
bit-united [] ys w j = let z : bit [] w j ≡ 0 = bit_at-zero j in omega arith
bit-united (x ∷ xs) [] w j = let z : bit [] w j ≡ 0 = bit_at-zero j in omega arith
bit-united (x ∷ xs) (y ∷ ys) zero j = bit_at_or x y j
bit-united (x ∷ xs) (y ∷ ys) (suc w) j = bit-united xs ys w j

pub length-united : (first second : List ℕ) → length first ≡ length second → length (union first second) ≡ length second
length-united [] ys same = refl
length-united (x ∷ xs) [] same = same
length-united (x ∷ xs) (y ∷ ys) same = ap suc (length-united xs ys (omega arith))

pub length-gains : (words : List ℕ) (w more : ℕ) → length (with_bits words w more) ≡ length words
length-gains words w more = length-set words w (bit_or (get_or words w 0) more)

-- A set that gains bits of a word has in that word its own and these,
pub bit-gains_same : (words : List ℕ) (w more j : ℕ) → w < length words → bit (with_bits words w more) w j ≡ max (bit words w j) (bit_at more j)
bit-gains_same words w more j inside = ap (λ (z : ℕ). bit_at z j) (get_or-set_same words w (bit_or (get_or words w 0) more) 0 inside) ∙ bit_at_or (get_or words w 0) more j

-- in all others its own,
pub bit-gains_other : (words : List ℕ) (w more v j : ℕ) → v ≢ w → bit (with_bits words w more) v j ≡ bit words v j
bit-gains_other words w more v j other = ap (λ (z : ℕ). bit_at z j) (get_or-set_other words w v (bit_or (get_or words w 0) more) 0 other)

-- and keeps what it had.
pub gains-keep : (words : List ℕ) (w more v j : ℕ) → w < length words → bit words v j ≤ bit (with_bits words w more) v j
gains-keep words w more v j inside = dite (ℕ_discrete v w)
    (λ here. subst (λ (z : ℕ). bit words z j ≤ bit (with_bits words w more) z j) (sym here) (let e = bit-gains_same words w more j inside in omega arith))
    (λ other. let e = bit-gains_other words w more v j other in omega arith)

-- A set that gains no bit stays.
pub gains-none : (words : List ℕ) (w : ℕ) → with_bits words w 0 ≡ words
gains-none [] w = refl
gains-none (x ∷ xs) zero = λ k. or_comm x 0 k ∷ xs
gains-none (x ∷ xs) (suc w) = λ k. x ∷ gains-none xs w k

without_below : (mask word j : ℕ) → mask < 2 ^ 64 → word < 2 ^ 64 → Dec (j < 64) → bit_at (bits_without mask word) j ≡ min (bit_at mask j) (1 - bit_at word j)
without_below mask word j m w (yes h) = bit_at_and mask (bit_not w64 word) j ∙ ap (λ (z : ℕ). min (bit_at mask j) z) (bit_at_not w64 word j w h)
without_below mask word j m w (no h) =
    let a = bit_at_and mask (bit_not w64 word) j in
    let b = bit_at_above mask 64 j m (omega arith) in
    let x : ℕ = bit_at (bit_not w64 word) j in
    let y : ℕ = bit_at word j in
    let k : ℕ = bit_at mask j in
    let l : ℕ = bit_at (bits_without mask word) j in
    omega arith

-- A bit of a mask that a word hasn't.
pub bit-without : (mask word j : ℕ) → mask < 2 ^ 64 → word < 2 ^ 64 → bit_at (bits_without mask word) j ≡ min (bit_at mask j) (1 - bit_at word j)
bit-without mask word j m w = without_below mask word j m w (dec_lt j 64)

-- Two sets of one width with the same bits are equal.
pub same_bits : (first second : List ℕ) → length first ≡ length second → ((w j : ℕ) → bit first w j ≡ bit second w j) → first ≡ second
same_bits [] [] width same = refl
same_bits [] (y ∷ ys) width same = absurd (omega arith)
same_bits (x ∷ xs) [] width same = absurd (omega arith)
same_bits (x ∷ xs) (y ∷ ys) width same =
    let p : x ≡ y = same_from_bits x y (same zero) in
    let q : xs ≡ ys = same_bits xs ys (omega arith) (λ w. same (suc w)) in
    λ k. p k ∷ q k

-- What is known of a seat of this board.
pub seat-of_board : (board : BoardState) (seat : SeatState) → IsOf board seat → IsSeat seat
    → (length seat.mine ≡ word_count board) × (length seat.seen ≡ word_count board) × (seat.parts ≤ board.parts) × LiesOnBoard board.bits seat.seen
seat-of_board board seat is s = subst (λ (b : BoardState). (length seat.mine ≡ word_count b) × (length seat.seen ≡ word_count b) × (seat.parts ≤ b.parts) × LiesOnBoard b.bits seat.seen) is
    (s.mine_width, s.seen_width, s.parts, s.inside)

-- A mask of a board has no bit at or past the board's end.
pub mask-inside : (board : BoardState) (word mask j : ℕ) → IsMaskOf board word mask → board.bits ≤ 64 * word + j → bit_at mask j ≡ 0
mask-inside board word mask j fits past = bit_at_above mask (board.bits - 64 * word) j fits (omega arith)

-- One bit before the board's end is a mask of it,
pub mask-one : (board : BoardState) (word j : ℕ) → 64 * word + j < board.bits → IsMaskOf board word (2 ^ j)
mask-one board word j before = pow_below j (board.bits - 64 * word) (omega arith)

-- and so are any bits of a word that lies before it.
pub mask-whole : (board : BoardState) (word mask : ℕ) → 64 * word + 64 ≤ board.bits → mask < 2 ^ 64 → IsMaskOf board word mask
mask-whole board word mask before fits =
    let n : ℕ = board.bits - 64 * word in
    dite (ℕ_discrete n 64)
    (λ is. subst (λ (z : ℕ). mask < 2 ^ z) (sym is) fits)
    (λ other. let p : 2 ^ 64 < 2 ^ n = pow_below 64 n (omega arith) in omega arith)
