-- Lines that are safe have no first flaw.
use Rattle.std.proofs.Common.{◌≡◌, ◌∙◌, ℕ, List, [], ◌∷◌, ◌++◌, Option, None, Some, refl, subst, sym, arith}
use Rattle.std.specs.Prelude.{All}
use Rattle.std.proofs.lemmas.List.{append-nil, append_assoc}
use Rattle.std.proofs.lemmas.List.Elements.{All-contains, Contains-append_right}
use Rattle.tag_memory.specs.Cells.{Cell}
use Rattle.heap_model.specs.Heap.{HeapState, empty_heap}
use Rattle.heap_model.specs.Laws.{no_reason}
use Rattle.heap_model.specs.declared.block.Obstacle.{Obstacle}
use Rattle.log_text.specs.declared.log.Given.{Given}
use Rattle.log_text.specs.declared.log.Given.TheVariants.{Epoch, Granule, Live, Painted, Register, Waiting}
use Rattle.machine_steps.specs.Safety.{IsGuarded}
use Rattle.given_state.specs.declared.fault.Lack.{Lack}
use Rattle.given_state.specs.declared.fault.Lack.TheVariants.{Block, GranuleAgain, NoGranule, NotNull, RegisterAgain, Unguarded}
use Rattle.log_text.specs.Log.{first_line}
use Rattle.given_state.specs.Given.{AreGivenOnce, AreNewAfter, AreSafe, HasGranule, IsFirstFlaw, IsGivenAgain, KeepsNull, LacksGranule, LacksGuard, LacksHold, LacksHoldFirst, LacksPlace, LacksPlaceFirst, LacksRegister, give_the_same, MayAllHold, MayAllLie, MayHold, MayLie, all_claimed, block_in, cell_with, given_heap, with_claimed}

-- ---- blocks

no_place : (s : HeapState) (o : Option (ℕ × ℕ)) (reason : Obstacle) → MayLie s o → LacksPlace s o reason → ⊥
no_place s None reason may lacks = lacks
no_place s (Some b) reason may lacks = no_reason s b.0 b.1 reason may lacks

-- The block of a line among others.
MayLie-at : (s : HeapState) (before : List (ℕ × Given)) (line : ℕ × Given) (after : List (ℕ × Given)) → MayAllLie s (before ++ line ∷ after)
    → MayLie (all_claimed s before) (block_in line.1)
MayLie-at s [] line after may = may.0
MayLie-at s (first ∷ before) line after may = MayLie-at (with_claimed s (block_in first.1)) before line after may.1

no_place_first : (s : HeapState) (lines : List (ℕ × Given)) (line : ℕ) (reason : Obstacle) → MayAllLie s lines → LacksPlaceFirst s lines line reason → ⊥
no_place_first s lines line reason may first =
    no_place (all_claimed s first.before) (block_in first.given) reason
    (MayLie-at s first.before (line, first.given) first.after (subst (MayAllLie s) first.parts may)) first.lacks

-- ---- words

no_guard : (s : HeapState) (c : Cell) (lack : Lack) → IsGuarded s c → LacksGuard s c lack → ⊥
no_guard s c (Unguarded base top) guarded lacks = lacks.lacks guarded
no_guard s c NoGranule guarded lacks = lacks
no_guard s c (Block reason) guarded lacks = lacks
no_guard s c NotNull guarded lacks = lacks
no_guard s c (RegisterAgain r line) guarded lacks = lacks
no_guard s c (GranuleAgain address line) guarded lacks = lacks

no_register : (s : HeapState) (r : ℕ) (c : Cell) (lack : Lack) → KeepsNull r c → IsGuarded s c → LacksRegister s r c lack → ⊥
no_register s r c NotNull null guarded lacks = lacks null
no_register s r c NoGranule null guarded lacks = lacks.1
no_register s r c (Unguarded base top) null guarded lacks = lacks.1.lacks guarded
no_register s r c (Block reason) null guarded lacks = lacks.1
no_register s r c (RegisterAgain number line) null guarded lacks = lacks.1
no_register s r c (GranuleAgain address line) null guarded lacks = lacks.1

no_granule : (s : HeapState) (address : ℕ) (c : Cell) (lack : Lack) → HasGranule s address → IsGuarded s c → LacksGranule s address c lack → ⊥
no_granule s address c NoGranule there guarded lacks = lacks there
no_granule s address c (Block reason) there guarded lacks = lacks.1
no_granule s address c (Unguarded base top) there guarded lacks = lacks.1.lacks guarded
no_granule s address c NotNull there guarded lacks = lacks.1
no_granule s address c (RegisterAgain number line) there guarded lacks = lacks.1
no_granule s address c (GranuleAgain at line) there guarded lacks = lacks.1

no_hold : (s : HeapState) (given : Given) (lack : Lack) → MayHold s given → LacksHold s given lack → ⊥
no_hold s (Register r tag bytes) lack may lacks = no_register s r (cell_with tag bytes) lack may.0 may.1 lacks
no_hold s (Granule address tag bytes) lack may lacks = no_granule s address (cell_with tag bytes) lack may.0 may.1 lacks
no_hold s (Live base top) lack may lacks = lacks
no_hold s (Waiting base top) lack may lacks = lacks
no_hold s (Painted base top) lack may lacks = lacks
no_hold s Epoch lack may lacks = lacks

no_hold_first : (s : HeapState) (lines : List (ℕ × Given)) (line : ℕ) (lack : Lack) → MayAllHold s lines → LacksHoldFirst s lines line lack → ⊥
no_hold_first s lines line lack may first =
    let P : ℕ × Given → Type 0 = λ l. MayHold s l.1 in
    let all : All P (first.before ++ (line, first.given) ∷ first.after) = subst (All P) first.parts may in
    no_hold s first.given lack (
    All-contains P (first.before ++ (line, first.given) ∷ first.after) (line, first.given) all
    (Contains-append_right first.before ((line, first.given) ∷ first.after) (line, first.given) (0, omega arith, refl))
    ) first.lacks

-- ---- words that are given again

-- None before a line gives the same.
none_before : (before lines : List (ℕ × Given)) (line : ℕ × Given) (after : List (ℕ × Given)) → AreNewAfter before (lines ++ line ∷ after)
    → first_line (give_the_same line.1) (before ++ lines) ≡ None
none_before before [] line after new = subst (λ (xs : List (ℕ × Given)). first_line (give_the_same line.1) xs ≡ None) (sym (append-nil before)) new.0
none_before before (first ∷ lines) line after new =
    subst (λ (xs : List (ℕ × Given)). first_line (give_the_same line.1) xs ≡ None) (append_assoc before (first ∷ []) lines)
    (none_before (before ++ first ∷ []) lines line after new.1)

not_again : (lines : List (ℕ × Given)) (line : ℕ) (lack : Lack) → AreGivenOnce lines → IsGivenAgain lines line lack → ⊥
not_again lines line lack once again =
    let none : first_line (give_the_same again.given) again.before ≡ None =
    none_before [] again.before (line, again.given) again.after (subst AreGivenOnce again.parts once) in
    absurd (none≢some (sym none ∙ again.was)) where
      none≢some : None ≡ Some again.earlier → ⊥
      none≢some same = cc

pub AreSafe-first : (base pages : ℕ) (lines : List (ℕ × Given)) (line : ℕ) (lack : Lack) → AreSafe base pages lines → IsFirstFlaw base pages lines line lack → ⊥
AreSafe-first base pages lines line (Block reason) safe first = no_place_first (empty_heap base pages) lines line reason safe.blocks first
AreSafe-first base pages lines line NoGranule safe first = no_hold_first (given_heap base pages lines) lines line NoGranule safe.words first.1.1
AreSafe-first base pages lines line NotNull safe first = no_hold_first (given_heap base pages lines) lines line NotNull safe.words first.1.1
AreSafe-first base pages lines line (Unguarded from end) safe first = no_hold_first (given_heap base pages lines) lines line (Unguarded from end) safe.words first.1.1
AreSafe-first base pages lines line (RegisterAgain r earlier) safe first = not_again lines line (RegisterAgain r earlier) safe.once first.1
AreSafe-first base pages lines line (GranuleAgain address earlier) safe first = not_again lines line (GranuleAgain address earlier) safe.once first.1
