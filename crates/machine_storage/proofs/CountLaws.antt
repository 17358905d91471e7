-- The bits of masks, counted.
use Rattle.std.proofs.Common.{◌≡◌, ◌∙◌, ◌<◌, ◌+◌, ◌*◌, ◌/◌, ◌%◌, ◌^◌, ℕ, suc, Bool, cond, List, [], ◌∷◌, length, get_or, drop, take, refl, sym, ap, arith}
use native.Mathlib.Decide.{ℕ_discrete}
use mathlib.Core.Logic.{dite}
use Rattle.std.specs.Prelude.{count_by, count_ones, sum_by}
use Rattle.std.proofs.lemmas.Bool.{ne_eqb}
use Rattle.std.proofs.lemmas.List.{get_or-drop, get_or-take, length-drop, length-take}
use Rattle.std.proofs.lemmas.List.Sums.{sum_by-cons, sum_by-drop_more, sum_by-take-drop}
use Rattle.heap_model.specs.Blocks.{Span}
use Rattle.heap_model.specs.Sweep.{takes_tag}
use Rattle.tag_memory.specs.Cells.{Cell, null_cell, register_at}
use Rattle.tag_memory.specs.Laws.{is_set_for-at, ones-row}
use Rattle.tag_memory.specs.Tags.{is_set, is_set_for}

-- The ones of masks are as many as pass the test whose answers are their bits.
pub ones-masks : {X : Type 0} (p : X → Bool) (masks : List ℕ) (xs : List X) (d : X) → 64 * length masks ≡ length xs → ((w : ℕ) → get_or masks w 0 < 2 ^ 64)
    → ((i : ℕ) → i < length xs → is_set_for masks i ≡ p (get_or xs i d)) → sum_by count_ones masks ≡ count_by p xs
ones-masks {X = X} p [] [] d long fits each = refl
ones-masks {X = X} p [] (x ∷ xs) d long fits each = absurd (omega (arith, long))
ones-masks {X = X} p (mask ∷ masks) xs d long fits each =
    let row = ones-row p (take 64 xs) d 64 mask (length-take 64 xs ∙ omega (arith, long)) (fits 0) (λ j h.
    let here : 64 * 0 + j ≡ j = omega arith in
    sym (is_set_for-at (mask ∷ masks) 0 j h) ∙ (ap (is_set_for (mask ∷ masks)) here ∙ (each j (omega (arith, h, long)) ∙ ap p (sym (get_or-take 64 xs j d h))))) in
    let more = ones-masks p masks (drop 64 xs) d (omega (arith, length-drop 64 xs, long)) (λ w. fits (suc w)) (λ i h.
    let quotient : (64 + i) / 64 ≡ suc (i / 64) = omega arith in
    let remainder : (64 + i) % 64 ≡ i % 64 = omega arith in
    let there : is_set (get_or (mask ∷ masks) (suc (i / 64)) 0) (i % 64) ≡ p (get_or xs (64 + i) d) =
    (λ k. is_set (get_or (mask ∷ masks) (sym quotient k) 0) (sym remainder k)) ∙ each (64 + i) (omega (arith, h, length-drop 64 xs)) in
    there ∙ ap p (sym (get_or-drop 64 xs i d))) in
    omega (arith, sum_by-cons count_ones mask masks, row, more, sum_by-take-drop (λ (x : X). cond (p x) 1 0) xs 64)

-- What a register reads as is what stands there.
pub register_at-is : (registers : List Cell) → get_or registers 0 null_cell ≡ null_cell → (r : ℕ) → register_at registers r ≡ get_or registers r null_cell
register_at-is registers null r = dite (ℕ_discrete r 0)
    (λ here. ap (register_at registers) here ∙ (sym null ∙ ap (λ (k : ℕ). get_or registers k null_cell) (sym here)))
    (λ other. rw (ne_eqb r 0 other) refl)

-- The ones of a mask of registers are the tags that it takes; that of register 0 is none.
pub ones-registers : (held : List Span) (registers : List Cell) (mask : ℕ) → length registers ≡ 32 → get_or registers 0 null_cell ≡ null_cell → mask < 2 ^ 32
    → ((r : ℕ) → r < 32 → is_set mask r ≡ takes_tag held (register_at registers r)) → count_ones mask ≡ count_by (takes_tag held) (drop 1 registers)
ones-registers held registers mask long null fits each =
    let all = ones-row (takes_tag held) registers null_cell 32 mask long fits (λ r h. each r h ∙ ap (takes_tag held) (register_at-is registers null r)) in
    let number : Cell → ℕ = λ cell. cond (takes_tag held cell) 1 0 in
    let first : number (get_or registers 0 null_cell) ≡ 0 = ap number null in
    omega (arith, all, first, sum_by-drop_more number registers 0 null_cell (omega (arith, long)))
