-- Blocks by their bounds, in lists to which others are added, or from which they are taken.
use Rattle.std.proofs.Common.{◌≡◌, ◌∙◌, ◌<◌, ◌-◌, ◌||◌, not, ℕ, Bool, true, false, List, [], ◌∷◌, Option, None, Some, refl, sym, subst, nat_lt, arith}
use Rattle.std.proofs.lemmas.Bool.{cond_both, true≢false}
use Rattle.std.proofs.lemmas.Bool.Decides.{nat_tests}
use Rattle.heap_model.specs.Blocks.{Span, blocks_with, blocks_without, has_bounds, is_block, start_of}
use Rattle.heap_model.specs.Heap.{HeapState}
use Rattle.heap_model.specs.Laws.{has_bounds-is}
use Rattle.log_text.specs.declared.log.Given.{Given}
use Rattle.given_state.specs.Given.{MayLie, all_claimed, block_in, with_claimed, with_released}
use Rattle.given_state.specs.Giving.{IsLive}

or_left : (a b : Bool) → a ≡ true → (a || b) ≡ true
or_left a b is = rw is refl

or_right : (a b : Bool) → b ≡ true → (a || b) ≡ true
or_right true b is = refl
or_right false b is = is

or_cases : (a b : Bool) → (a || b) ≡ true → a ≡ false → b ≡ true
or_cases true b either none = absurd (true≢false none)
or_cases false b either none = either

has_bounds-own : (base top : ℕ) → base < top → has_bounds base top (base, top - base) ≡ true
has_bounds-own base top order = grind (arith, nat_tests)

-- A block that is added is there.
is_block-new : (base top : ℕ) (blocks : List Span) → base < top → is_block (blocks_with (base, top - base) blocks) base top ≡ true
is_block-new base top [] order = or_left (has_bounds base top (base, top - base)) false (has_bounds-own base top order)
is_block-new base top (b ∷ blocks) order =
    let new : Span = (base, top - base) in
    cond_both (nat_lt base (start_of b)) (new ∷ b ∷ blocks) (b ∷ blocks_with new blocks) (λ xs. is_block xs base top ≡ true)
    (λ _. or_left (has_bounds base top new) (is_block (b ∷ blocks) base top) (has_bounds-own base top order))
    (λ _. or_right (has_bounds base top b) (is_block (blocks_with new blocks) base top) (is_block-new base top blocks order))

-- The others stay.
is_block-with : (new : Span) (base top : ℕ) (blocks : List Span) → is_block blocks base top ≡ true → is_block (blocks_with new blocks) base top ≡ true
is_block-with new base top [] is = absurd (true≢false (sym is))
is_block-with new base top (b ∷ blocks) is =
    cond_both (nat_lt (start_of new) (start_of b)) (new ∷ b ∷ blocks) (b ∷ blocks_with new blocks) (λ xs. is_block xs base top ≡ true)
    (λ _. or_right (has_bounds base top new) (is_block (b ∷ blocks) base top) is)
    (λ _. here (has_bounds base top b) (λ none. is_block-with new base top blocks (or_cases (has_bounds base top b) (is_block blocks base top) is none))) where
      here : (found : Bool) → (found ≡ false → is_block (blocks_with new blocks) base top ≡ true) → (found || is_block (blocks_with new blocks) base top) ≡ true
      here true later = refl
      here false later = later refl

-- They stay where one is taken that starts elsewhere.
is_block-without : (base top b t : ℕ) (blocks : List Span) → (base ≡ b → ⊥) → is_block blocks b t ≡ true → is_block (blocks_without base top blocks) b t ≡ true
is_block-without base top b t [] other is = is
is_block-without base top b t (x ∷ blocks) other is =
    cond_both (not (has_bounds base top x)) (x ∷ blocks_without base top blocks) (blocks_without base top blocks) (λ xs. is_block xs b t ≡ true)
    (λ _. here (has_bounds b t x) (λ none. is_block-without base top b t blocks other (or_cases (has_bounds b t x) (is_block blocks b t) is none)))
    (λ gone. is_block-without base top b t blocks other (or_cases (has_bounds b t x) (is_block blocks b t) is (elsewhere gone (has_bounds b t x) refl))) where
      here : (found : Bool) → (found ≡ false → is_block (blocks_without base top blocks) b t ≡ true) → (found || is_block (blocks_without base top blocks) b t) ≡ true
      here true later = refl
      here false later = later refl

      was : (found : Bool) → not found ≡ false → found ≡ true
      was true gone = refl
      was false gone = absurd (true≢false gone)

      elsewhere : not (has_bounds base top x) ≡ false → (found : Bool) → has_bounds b t x ≡ found → found ≡ false
      elsewhere gone false at = refl
      elsewhere gone true at =
          absurd (other (sym ((has_bounds-is base top x (was (has_bounds base top x) gone)).0) ∙ (has_bounds-is b t x at).0))

-- ---- live blocks

-- The block with these bounds is live.
abbrev pub LivesAt : HeapState → ℕ × ℕ → Type 0
LivesAt s b = is_block s.live b.0 b.1 ≡ true

pub IsLive-if : (s : HeapState) (o : Option (ℕ × ℕ)) → ((b : ℕ × ℕ) → o ≡ Some b → LivesAt s b) → IsLive s o
IsLive-if s None live = tt
IsLive-if s (Some b) live = live b refl

pub LivesAt-claimed : (s : HeapState) (o : Option (ℕ × ℕ)) (b : ℕ × ℕ) → LivesAt s b → LivesAt (with_claimed s o) b
LivesAt-claimed s None b live = live
LivesAt-claimed s (Some new) b live = is_block-with (new.0, new.1 - new.0) b.0 b.1 s.live live

pub LivesAt-new : (s : HeapState) (o : Option (ℕ × ℕ)) (b : ℕ × ℕ) → o ≡ Some b → MayLie s o → LivesAt (with_claimed s o) b
LivesAt-new s o b is may =
    subst (λ (p : Option (ℕ × ℕ)). MayLie s p → LivesAt (with_claimed s p) b) (sym is) (λ claimable. is_block-new b.0 b.1 s.live claimable.order) may

pub LivesAt-all_claimed : (s : HeapState) (lines : List (ℕ × Given)) (b : ℕ × ℕ) → LivesAt s b → LivesAt (all_claimed s lines) b
LivesAt-all_claimed s [] b live = live
LivesAt-all_claimed s (line ∷ lines) b live = LivesAt-all_claimed (with_claimed s (block_in line.1)) lines b (LivesAt-claimed s (block_in line.1) b live)

pub LivesAt-released : (s : HeapState) (o : Option (ℕ × ℕ)) (b : ℕ × ℕ) → ((gone : ℕ × ℕ) → o ≡ Some gone → gone.0 ≡ b.0 → ⊥) → LivesAt s b → LivesAt (with_released s o) b
LivesAt-released s None b other live = live
LivesAt-released s (Some gone) b other live = is_block-without gone.0 gone.1 b.0 b.1 s.live (other gone refl) live
