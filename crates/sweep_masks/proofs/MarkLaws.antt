-- Marks of one bit, and the bits that a seat has after them.
use Rattle.std.proofs.Common.{◌≡◌, ◌≢◌, ℕ, ◌+◌, ◌*◌, ◌/◌, ◌%◌, ◌^◌, ◌<◌, ◌≤◌, ◌-◌, List, length, arith, subst, sym, ap, ◌∙◌}
use mathlib.Core.Logic.{dite}
use Rattle.std.proofs.Math.Decide.{ℕ_discrete}
use Rattle.std.specs.Prelude.{bit_and, bit_or}
use Rattle.std.specs.Int.{bit_at, bit_not, w64}
use Rattle.std.proofs.lemmas.Nat.{one_shl, div-add-mod', mod_below, and_comm}
use Rattle.std.proofs.lemmas.Nat.Bits.{and_pow, bit_at-lt, bit_at_or, bit_at-pow_same}
use Rattle.mark_board.specs.Bits.{Within, with_bits, bits_without}
use Rattle.mark_board.specs.Board.{BoardState, IsMaskOf, IsOf, IsSeat, SeatState}
use Rattle.mark_board.specs.Laws.{bit-gains_same, gains-keep, gains-none, mask-one, seat-of_board}
use Rattle.sweep_masks.specs.Claims.{HasAll, with_task}
use Rattle.mark_board.specs.Bits.{has}

-- The mask of a task, as it is computed.
abbrev pub mask : ℕ → ℕ
mask k = 1 * 2 ^ (k % 64) % 2 ^ 64

pub mask_is : (k : ℕ) → mask k ≡ 2 ^ (k % 64)
mask_is k = one_shl (k % 64) 64 (mod_below k 64 (omega arith))

pub IsMaskOf-task : (board : BoardState) (k : ℕ) → k < board.bits → IsMaskOf board (k / 64) (mask k)
IsMaskOf-task board k below =
    let whole = div-add-mod' k 64 in
    subst (λ (z : ℕ). z < 2 ^ (board.bits - 64 * (k / 64))) (sym (mask_is k)) (mask-one board (k / 64) (k % 64) (omega arith))

times_bit : (b m : ℕ) → b < 2 → b * m ≢ 0 → b * m ≡ m
times_bit b m small some_bit = dite (ℕ_discrete b 0)
    (λ z. absurd (some_bit (ap (λ (n : ℕ). n * m) z ∙ omega arith)))
    (λ n. let one : b ≡ 1 = omega arith in ap (λ (y : ℕ). y * m) one ∙ omega arith)

-- What a mark of one bit answers, if anything.
pub won : (k found : ℕ) → bits_without (mask k) found ≢ 0 → bits_without (mask k) found ≡ 2 ^ (k % 64)
won k found some_bit =
    let m : ℕ = 2 ^ (k % 64) in
    let x : ℕ = bit_not w64 found in
    let e : bits_without (mask k) found ≡ bit_at x (k % 64) * m = ap (λ (z : ℕ). bit_and z x) (mask_is k) ∙ and_comm m x ∙ and_pow x (k % 64) in
    e ∙ times_bit (bit_at x (k % 64)) m (bit_at-lt x (k % 64)) (λ z. some_bit (e ∙ z))

-- A mark of task k adds it to a run that ends there.
run_on : (ws : List ℕ) (a k found : ℕ) → k / 64 < length ws → HasAll ws a k → HasAll (with_bits ws (k / 64) (bit_or found (mask k))) a (k + 1)
run_on ws a k found inside run j low high =
    let ws' : List ℕ = with_bits ws (k / 64) (bit_or found (mask k)) in
    dite (ℕ_discrete j k)
    (λ here. subst (λ (z : ℕ). has ws' z ≡ 1) (sym here)
    (let g = bit-gains_same ws (k / 64) (bit_or found (mask k)) (k % 64) inside in
    let o = bit_at_or found (mask k) (k % 64) in
    let p = ap (λ (z : ℕ). bit_at z (k % 64)) (mask_is k) ∙ bit_at-pow_same (k % 64) in
    let b = bit_at-lt found (k % 64) in
    let c : has ws k < 2 = bit_at-lt _ (k % 64) in omega arith))
    (λ other.
    let g = gains-keep ws (k / 64) (bit_or found (mask k)) (j / 64) (j % 64) inside in
    let r = run j low (omega arith) in
    let c : has ws' j < 2 = bit_at-lt _ (j % 64) in omega arith)

kept : (first ws : List ℕ) (k found : ℕ) → k / 64 < length ws → Within first ws → Within first (with_bits ws (k / 64) (bit_or found (mask k)))
kept first ws k found inside h i j = let a = h i j in let g = gains-keep ws (k / 64) (bit_or found (mask k)) i j inside in omega arith

-- What a mark of task k found and answered, with the seat before and after.
pub record IsMarked (k answer : ℕ) (old new : SeatState) : Type 0 where
  pub found : ℕ
  pub answered : answer ≡ bits_without (mask k) found
  pub seen : new.seen ≡ with_bits old.seen (k / 64) (bit_or found (mask k))
  pub mine : new.mine ≡ with_bits old.mine (k / 64) answer

pub bit_inside : (board : BoardState) (seat : SeatState) (k : ℕ) → IsOf board seat → IsSeat seat → k < board.bits → k / 64 < length seat.seen
bit_inside board seat k of is below = let (mine, seen, parts, inside) = seat-of_board board seat of is in omega arith

-- What the seat has seen after it.
pub saw : {k answer : ℕ} {old new : SeatState} (first : List ℕ) (a : ℕ) → IsMarked k answer old new → k / 64 < length old.seen → Within first old.seen → HasAll old.seen a k
    → Within first new.seen × HasAll new.seen a (k + 1)
saw {k} {old} first a m inside within run =
    subst (λ (z : List ℕ). Within first z × HasAll z a (k + 1)) (sym m.seen) (kept first old.seen k m.found inside within, run_on old.seen a k m.found inside run)

-- A seat's own bits after a mark that answered something, and after one that answered nothing.
pub took : {k answer : ℕ} {old new : SeatState} (first : List ℕ) → IsMarked k answer old new → old.mine ≡ first → answer ≢ 0 → new.mine ≡ with_task first k
took {k} first m same some_bit = m.mine ∙ (λ i. with_bits (same i) (k / 64) ((m.answered ∙ won k m.found (λ z. some_bit (m.answered ∙ z))) i))

pub missed : {k answer : ℕ} {old new : SeatState} (first : List ℕ) → IsMarked k answer old new → old.mine ≡ first → answer ≡ 0 → new.mine ≡ first
missed {k} {old} first m same none = m.mine ∙ ap (with_bits old.mine (k / 64)) none ∙ gains-none old.mine (k / 64) ∙ same

-- The bit that a mark won was not the seat's own before.
pub free : {k answer : ℕ} {old new : SeatState} (first : List ℕ) → IsMarked k answer old new → old.mine ≡ first → answer ≢ 0 → bit_at answer (k % 64) + has old.mine k ≤ 1 → has first k ≡ 0
free {k} {answer} {old} first m same some_bit apart =
    let is : answer ≡ 2 ^ (k % 64) = m.answered ∙ won k m.found (λ z. some_bit (m.answered ∙ z)) in
    let one : bit_at answer (k % 64) ≡ 1 = ap (λ (z : ℕ). bit_at z (k % 64)) is ∙ bit_at-pow_same (k % 64) in
    let e : has old.mine k ≡ has first k = ap (λ (z : List ℕ). has z k) same in omega arith
