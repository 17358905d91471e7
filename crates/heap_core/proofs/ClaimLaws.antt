-- Bounds that become those of a block: they are free granules of the table.
use Rattle.std.proofs.Common.{◌≡◌, ◌<◌, ◌+◌, ◌-◌, ◌*◌, ℕ, Bool, List, false, length, set, refl, arith}
use Rattle.std.specs.Prelude.{All, ◌++◌, Option, Some, None, IsSome, Result, Ok, Err}
use Rattle.std.specs.List.{Contains}
use Rattle.std.proofs.lemmas.List.Elements.{All-contains, All-contains_itself, All-nil, All-weaker, Contains-append_left, Contains-append_right}
use Rattle.cap_codec.specs.Rounding.{IsExact}
use Rattle.heap_model.specs.Claim.{AreFitting, CouldBeClaimed, FindsOver, IsClaim, IsClaimable, IsReason}
use Rattle.heap_core.specs.Consistent.{AreLate, heap_state}
use Rattle.heap_model.specs.Heap.{HeapState, IsSound}
use Rattle.heap_model.specs.Laws.{no_reason}
use Rattle.heap_model.specs.Place.{with_block}
use Rattle.heap_model.specs.Quarantine.{without_waiting}
use Rattle.heap_core.specs.Table.{IsGap, IsTable}
use Rattle.heap_model.specs.Blocks.{IsApart, Span}
use Rattle.heap_model.specs.declared.block.Block.{Block}
use Rattle.heap_model.specs.declared.block.Obstacle.{Obstacle}
use Rattle.heap_core.proofs.HeapLaws.{heap_state-set}
use Rattle.heap_core.proofs.PlaceLaws.{IsFreeBlock-from_run, IsGap-from_block}

-- The bounds from `start` to `top` are those of n granules of a heap at `base`, from granule p on.
pub record AreGranules (base start top p n : ℕ) : Type 0 where
  pub at : base + 16 * p ≡ start
  pub length : 16 * n ≡ top - start
  pub order : start < top

pub IsClaimable-gap : {base : ℕ} {lengths : List ℕ} {marks : List Bool} (lates : List Bool) {is_open : Bool} {start top p n : ℕ} → IsTable base lengths marks
    → AreGranules base start top p n → IsGap lengths p n → IsExact start top → IsClaimable (heap_state base lengths marks lates is_open) start top
IsClaimable-gap lates {is_open} table are run exact =
    record { order = are.order; free = rw (are.at, are.length) at (IsFreeBlock-from_run lates {is_open = is_open} table run); exact = exact }

-- Granules of which no block has any are free.
pub IsGap-unused : {base : ℕ} {lengths : List ℕ} {marks lates : List Bool} {is_open : Bool} {start top p n : ℕ} → IsTable base lengths marks → AreLate lengths marks lates is_open
    → AreGranules base start top p n → IsClaimable (heap_state base lengths marks lates is_open) start top → IsGap lengths p n
IsGap-unused table late are may = IsGap-from_block table late (rw (are.at, are.length) may.free)

pub heap_state-claimed : {base : ℕ} {lengths : List ℕ} {marks lates : List Bool} {is_open : Bool} {start top p n : ℕ} → length marks ≡ length lengths → AreLate lengths marks lates is_open
    → AreGranules base start top p n → IsGap lengths p n
    → heap_state base (set lengths p n) (set marks p false) lates is_open ≡ with_block (heap_state base lengths marks lates is_open) start (top - start)
heap_state-claimed {base} same late are run = rw (are.at, are.length) at (heap_state-set {base = base} same late run)

pub AreGranules-fit : {s : HeapState} {start top p n : ℕ} → AreFitting s start top p n → AreGranules s.base start top p n
AreGranules-fit fit = record { at = fit.at; length = fit.length; order = fit.could.order }

-- What holds of each block of two lists holds of each of either.
module _ (P : Span → Type 0) (xs ys : List Span) (all : All P (xs ++ ys)) where
  pub All-left : All P xs
  All-left = All-weaker (Contains xs) P (λ x is. All-contains P (xs ++ ys) x all (Contains-append_left xs ys x is)) xs (All-contains_itself xs)

  pub All-right : All P ys
  All-right = All-weaker (Contains ys) P (λ x is. All-contains P (xs ++ ys) x all (Contains-append_right xs ys x is)) ys (All-contains_itself ys)

-- Where no block is in the way they may be claimed.
pub IsClaimable-unused : {s : HeapState} {start top : ℕ} → CouldBeClaimed s start top → All (IsApart (start, top - start)) s.live
    → All (IsApart (start, top - start)) (s.waiting ++ s.painted) → IsClaimable s start top
IsClaimable-unused {s} {start} {top} could live held = record {
  order = could.order;
  free = record {
    start = could.even.0;
    whole = omega (arith, could.even.0, could.even.1, could.order);
    some = omega (arith, could.order);
    from = could.inside.0;
    end = omega (arith, could.order, could.inside.1);
    live = live;
    waiting = All-left (IsApart (start, top - start)) s.waiting s.painted held;
    painted = All-right (IsApart (start, top - start)) s.waiting s.painted held;
  };
  exact = could.exact;
}

-- Where they may not be claimed, and no live block is in the way, some held one is.
pub some_due : (s : HeapState) (start top : ℕ) (found : Option Block) → CouldBeClaimed s start top → ¬ IsClaimable s start top → All (IsApart (start, top - start)) s.live
    → FindsOver (s.waiting ++ s.painted) start top found → IsSome found
some_due s start top (Some block) could refused live found = refl
some_due s start top None could refused live found = absurd (refused (IsClaimable-unused could live found))

-- Where bounds may be claimed, the claim is not refused, whatever was before.
pub IsClaim-again : (before now : HeapState) (start top : ℕ) (claim : Result (Unit {0}) Obstacle) (new : HeapState) → IsClaimable now start top → IsClaim now now start top claim new
    → IsClaim before now start top claim new
IsClaim-again before now start top (Ok done) new may is = is
IsClaim-again before now start top (Err obstacle) new may is = absurd (no_reason now start top obstacle may is.0)

-- Once the blocks that wait are free, where no live block is in the way and no epoch is open.
pub IsClaimable-dropped : {s : HeapState} {start top p n : ℕ} → s.is_open ≡ false → IsSound s → AreFitting s start top p n
    → All (IsApart (s.base + 16 * p, s.base + 16 * (p + n) - (s.base + 16 * p))) s.live → IsClaimable (without_waiting s) start top
IsClaimable-dropped {s} {start} {top} {p} {n} closed sound fit live =
    let end : s.base + 16 * (p + n) ≡ top = omega (arith, fit.at, fit.length, fit.could.order) in
    IsClaimable-unused (record { even = fit.could.even; order = fit.could.order; inside = fit.could.inside; exact = fit.could.exact })
    (rw (fit.at, end) at live) (rw (sound.closed closed) (All-nil (IsApart (start, top - start))))
