-- The blocks that lines give, once all are handed out: each is live when its turn comes to be given up.
use Rattle.std.proofs.Common.{◌≡◌, ◌<◌, ◌-◌, ℕ, Bool, true, false, List, [], ◌∷◌, Option, Some, inl, inr, if◌then◌else◌, sym, subst, arith}
use Rattle.std.specs.Prelude.{All}
use Rattle.std.proofs.lemmas.List.Elements.{All-cons, All-contains, All-head, All-nil, All-tail}
use Rattle.std.specs.List.{list_any}
use Rattle.heap_model.specs.Blocks.{IsApart}
use Rattle.heap_model.specs.Claim.{IsClaimable}
use Rattle.heap_model.specs.Heap.{HeapState}
use Rattle.heap_model.specs.Laws.{Contains-block}
use Rattle.heap_model.specs.Quarantine.{with_epoch}
use Rattle.heap_model.specs.declared.block.Kind.{Kind}
use Rattle.heap_model.specs.declared.block.Kind.TheVariants as kind
use Rattle.log_text.specs.declared.log.Given.{Given}
use Rattle.log_text.specs.declared.log.Given.TheVariants.{Epoch, Granule, Live, Painted, Register, Waiting}
use Rattle.given_state.specs.Given.{MayAllLie, MayLie, all_claimed, all_released, block_in, block_of_kind, gives_epoch, with_claimed, with_epoch_given, with_released}
use Rattle.given_state.specs.Giving.{AreLiveInTurn}
use Rattle.given_state.proofs.BlockLaws.{IsLive-if, LivesAt, LivesAt-all_claimed, LivesAt-claimed, LivesAt-new, LivesAt-released}

-- ---- blocks of different lines

-- The blocks of these two lines start at different addresses.
abbrev pub Differ : ℕ × Given → ℕ × Given → Type 0
Differ l m = (b c : ℕ × ℕ) → block_in l.1 ≡ Some b → block_in m.1 ≡ Some c → b.0 ≡ c.0 → ⊥

abbrev pub AllDiffer : List (ℕ × Given) → Type 0
AllDiffer [] = Unit {0}
AllDiffer (line ∷ lines) = All (Differ line) lines × AllDiffer lines

-- A block that may lie beside a live one starts elsewhere.
starts_elsewhere : (s : HeapState) (o : Option (ℕ × ℕ)) (b c : ℕ × ℕ) → b.0 < b.1 → LivesAt s b → MayLie s o → o ≡ Some c → b.0 ≡ c.0 → ⊥
starts_elsewhere s o b c order live may is same =
    let claimable : IsClaimable s c.0 c.1 = subst (MayLie s) is may in
    let apart = All-contains (IsApart (c.0, c.1 - c.0)) s.live (b.0, b.1 - b.0) claimable.free.live (Contains-block b.0 b.1 s.live live) in
    clash apart claimable.order where
      clash : IsApart (c.0, c.1 - c.0) (b.0, b.1 - b.0) → c.0 < c.1 → ⊥
      clash (inl before) some = omega (arith, before, same, some)
      clash (inr after) some = omega (arith, after, same, order)

differ_from : (s : HeapState) (lines : List (ℕ × Given)) (b : ℕ × ℕ) → b.0 < b.1 → LivesAt s b → MayAllLie s lines
    → All (λ m. (c : ℕ × ℕ) → block_in m.1 ≡ Some c → b.0 ≡ c.0 → ⊥) lines
differ_from s [] b order live may = All-nil (λ m. (c : ℕ × ℕ) → block_in m.1 ≡ Some c → b.0 ≡ c.0 → ⊥)
differ_from s (line ∷ lines) b order live may =
    All-cons (λ m. (c : ℕ × ℕ) → block_in m.1 ≡ Some c → b.0 ≡ c.0 → ⊥) line lines
    (λ c is same. starts_elsewhere s (block_in line.1) b c order live may.0 is same)
    (differ_from (with_claimed s (block_in line.1)) lines b order (LivesAt-claimed s (block_in line.1) b live) may.1)

order_of : (s : HeapState) (o : Option (ℕ × ℕ)) (b : ℕ × ℕ) → o ≡ Some b → MayLie s o → b.0 < b.1
order_of s o b is may = let claimable : IsClaimable s b.0 b.1 = subst (MayLie s) is may in claimable.order

all_differ : (s : HeapState) (lines : List (ℕ × Given)) → MayAllLie s lines → AllDiffer lines
all_differ s [] may = tt
all_differ s (line ∷ lines) may =
    let next = with_claimed s (block_in line.1) in (
      λ k d lt b c is other same. differ_from next lines b (order_of s (block_in line.1) b is may.0) (LivesAt-new s (block_in line.1) b is may.0) may.1 k d lt c other same,
      all_differ next lines may.1,
    )

-- ---- live blocks

-- The block that the line gives is live.
abbrev pub LivesIn : HeapState → ℕ × Given → Type 0
LivesIn s line = (b : ℕ × ℕ) → block_in line.1 ≡ Some b → LivesAt s b

-- It is live if it is of this kind.
abbrev pub LivesOf : Kind → HeapState → ℕ × Given → Type 0
LivesOf one s line = (b : ℕ × ℕ) → block_of_kind one line.1 ≡ Some b → LivesAt s b

all_live : (s : HeapState) (lines : List (ℕ × Given)) → MayAllLie s lines → All (LivesIn (all_claimed s lines)) lines
all_live s [] may = All-nil (LivesIn s)
all_live s (line ∷ lines) may =
    let next = with_claimed s (block_in line.1) in
    All-cons (LivesIn (all_claimed next lines)) line lines
    (λ b is. LivesAt-all_claimed next lines b (LivesAt-new s (block_in line.1) b is may.0)) (all_live next lines may.1)

-- A block of a kind is a block.
block_of_kind-in : (one : Kind) (given : Given) (b : ℕ × ℕ) → block_of_kind one given ≡ Some b → block_in given ≡ Some b
block_of_kind-in kind.Live (Live base top) b is = is
block_of_kind-in kind.Live (Waiting base top) b is = cc
block_of_kind-in kind.Live (Painted base top) b is = cc
block_of_kind-in kind.Live Epoch b is = is
block_of_kind-in kind.Live (Register register tag bytes) b is = is
block_of_kind-in kind.Live (Granule address tag bytes) b is = is
block_of_kind-in kind.Waiting (Live base top) b is = cc
block_of_kind-in kind.Waiting (Waiting base top) b is = is
block_of_kind-in kind.Waiting (Painted base top) b is = cc
block_of_kind-in kind.Waiting Epoch b is = is
block_of_kind-in kind.Waiting (Register register tag bytes) b is = is
block_of_kind-in kind.Waiting (Granule address tag bytes) b is = is
block_of_kind-in kind.Painted (Live base top) b is = cc
block_of_kind-in kind.Painted (Waiting base top) b is = cc
block_of_kind-in kind.Painted (Painted base top) b is = is
block_of_kind-in kind.Painted Epoch b is = is
block_of_kind-in kind.Painted (Register register tag bytes) b is = is
block_of_kind-in kind.Painted (Granule address tag bytes) b is = is

all_live_of : (one : Kind) (s : HeapState) (lines : List (ℕ × Given)) → All (LivesIn s) lines → All (LivesOf one s) lines
all_live_of one s lines live = λ k d lt b is. live k d lt b (block_of_kind-in one _ b is)

-- No line gives a block that waits and one that is painted.
one_kind : (given : Given) (b c : ℕ × ℕ) → block_of_kind kind.Waiting given ≡ Some b → block_of_kind kind.Painted given ≡ Some c → ⊥
one_kind (Live base top) b c waits painted = cc
one_kind (Waiting base top) b c waits painted = cc
one_kind (Painted base top) b c waits painted = cc
one_kind Epoch b c waits painted = cc
one_kind (Register register tag bytes) b c waits painted = cc
one_kind (Granule address tag bytes) b c waits painted = cc

-- The other lines' blocks of a kind stay live when this line's block is given up.
still_live : (one other : Kind) (s : HeapState) (line : ℕ × Given) (lines : List (ℕ × Given)) → All (LivesOf one s) lines → All (Differ line) lines
    → All (LivesOf one (with_released s (block_of_kind other line.1))) lines
still_live one other s line lines live differ =
    λ k d lt b is. LivesAt-released s (block_of_kind other line.1) b
    (λ gone was same. differ k d lt gone b (block_of_kind-in other line.1 gone was) (block_of_kind-in one _ b is) same) (live k d lt b is)

in_turn : (one : Kind) (s : HeapState) (lines : List (ℕ × Given)) → All (LivesOf one s) lines → AllDiffer lines → AreLiveInTurn one s lines
in_turn one s [] live differ = tt
in_turn one s (line ∷ lines) live differ = (
  IsLive-if s (block_of_kind one line.1) (All-head (LivesOf one s) line lines live),
  in_turn one (with_released s (block_of_kind one line.1)) lines (still_live one one s line lines (All-tail (LivesOf one s) line lines live) differ.0) differ.1,
)

LivesAt-all_released : (one : Kind) (s : HeapState) (lines : List (ℕ × Given)) (b : ℕ × ℕ) → All (λ m. (c : ℕ × ℕ) → block_of_kind one m.1 ≡ Some c → c.0 ≡ b.0 → ⊥) lines
    → LivesAt s b → LivesAt (all_released one s lines) b
LivesAt-all_released one s [] b other live = live
LivesAt-all_released one s (line ∷ lines) b other live =
    let P : ℕ × Given → Type 0 = λ m. (c : ℕ × ℕ) → block_of_kind one m.1 ≡ Some c → c.0 ≡ b.0 → ⊥ in
    LivesAt-all_released one (with_released s (block_of_kind one line.1)) lines b (All-tail P line lines other)
    (LivesAt-released s (block_of_kind one line.1) b (All-head P line lines other) live)

-- Those that wait are live after the painted ones were given up.
live_after : (s : HeapState) (lines : List (ℕ × Given)) → All (LivesOf kind.Waiting s) lines → AllDiffer lines
    → All (LivesOf kind.Waiting (all_released kind.Painted s lines)) lines
live_after s [] live differ = All-nil (LivesOf kind.Waiting s)
live_after s (line ∷ lines) live differ =
    let next = with_released s (block_of_kind kind.Painted line.1) in
    All-cons (LivesOf kind.Waiting (all_released kind.Painted next lines)) line lines
    (λ b is. LivesAt-all_released kind.Painted next lines b
    (λ k d lt c painted same. differ.0 k d lt b c (block_of_kind-in kind.Waiting line.1 b is) (block_of_kind-in kind.Painted _ c painted) (sym same))
    (LivesAt-released s (block_of_kind kind.Painted line.1) b (λ gone was same. one_kind line.1 b gone is was) (All-head (LivesOf kind.Waiting s) line lines live b is)))
    (live_after next lines (still_live kind.Waiting kind.Painted s line lines (All-tail (LivesOf kind.Waiting s) line lines live) differ.0) differ.1)

-- An epoch that begins leaves the live blocks as they are.
told_live : (told : Bool) (s : HeapState) (b : ℕ × ℕ) → LivesAt s b → LivesAt (if told then with_epoch s else s) b
told_live true s b live = live
told_live false s b live = live

live_told : (one : Kind) (s : HeapState) (lines : List (ℕ × Given)) → All (LivesOf one s) lines → All (LivesOf one (with_epoch_given s lines)) lines
live_told one s lines live = λ k d lt b is. told_live (list_any (λ line. gives_epoch line.1) lines) s b (live k d lt b is)

-- ---- what the two passes over the lines want

pub painted_in_turn : (first claimed : HeapState) (lines : List (ℕ × Given)) → MayAllLie first lines → claimed ≡ all_claimed first lines
    → AreLiveInTurn kind.Painted claimed lines
painted_in_turn first claimed lines may claims =
    subst (λ (h : HeapState). AreLiveInTurn kind.Painted h lines) (sym claims) (
    in_turn kind.Painted (all_claimed first lines) lines (all_live_of kind.Painted (all_claimed first lines) lines (all_live first lines may)) (all_differ first lines may))

pub waiting_in_turn : (first claimed painted opened : HeapState) (lines : List (ℕ × Given)) → MayAllLie first lines → claimed ≡ all_claimed first lines
    → painted ≡ all_released kind.Painted claimed lines → opened ≡ with_epoch_given painted lines → AreLiveInTurn kind.Waiting opened lines
waiting_in_turn first claimed painted opened lines may claims paints opens =
    let differ = all_differ first lines may in
    let there : All (LivesOf kind.Waiting claimed) lines =
    subst (λ (h : HeapState). All (LivesOf kind.Waiting h) lines) (sym claims) (all_live_of kind.Waiting (all_claimed first lines) lines (all_live first lines may)) in
    let after : All (LivesOf kind.Waiting painted) lines = subst (λ (h : HeapState). All (LivesOf kind.Waiting h) lines) (sym paints) (live_after claimed lines there differ) in
    let in_epoch : All (LivesOf kind.Waiting opened) lines = subst (λ (h : HeapState). All (LivesOf kind.Waiting h) lines) (sym opens) (live_told kind.Waiting painted lines after) in
    in_turn kind.Waiting opened lines in_epoch differ
