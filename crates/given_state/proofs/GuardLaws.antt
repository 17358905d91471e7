-- What is guarded, and what a word lacks that isn't.
use Rattle.std.proofs.Common.{◌≡◌, ◌∙◌, ◌<◌, ◌+◌, ◌*◌, ℕ, false, length, sym, ap, arith}
use Rattle.std.proofs.lemmas.Bool.{true≢false}
use Rattle.cap_codec.specs.Words.{bounds_in}
use Rattle.cap_codec.specs.declared.word.Bounds.{Bounds}
use Rattle.heap_model.specs.Heap.{HeapState}
use Rattle.tag_memory.specs.Cells.{Cell, MemoryState}
use Rattle.heap_machine.specs.Making.{LieTogether}
use Rattle.machine_steps.specs.Safety.{IsGuarded}
use Rattle.given_state.specs.declared.fault.Lack.{Lack}
use Rattle.given_state.specs.declared.fault.Lack.TheVariants.{Block, GranuleAgain, NoGranule, NotNull, RegisterAgain, Unguarded}
use Rattle.given_state.specs.Given.{HasGranule, IsUnguarded, LacksGranule, LacksGuard}

pub IsGuarded-untagged : (heap : HeapState) (c : Cell) → c.1 ≡ false → IsGuarded heap c
IsGuarded-untagged heap c none = record { within = λ tagged. absurd (true≢false (sym tagged ∙ none)) }

pub IsUnguarded-range : (heap : HeapState) (c : Cell) (range : Bounds) → range ≡ bounds_in c.0 → ¬ IsGuarded heap c → IsUnguarded heap c range.base range.top
IsUnguarded-range heap c range is lacks =
    record { lacks = lacks; base_is = ap (λ (b : Bounds). b.base) is; top_is = ap (λ (b : Bounds). b.top) is }

-- ---- granules

pub HasGranule-none : (s : HeapState) (m : MemoryState) (address : ℕ) → LieTogether s m → ((i : ℕ) → address ≡ m.base + 16 * i → i < length m.granules → ⊥) → ¬ HasGranule s address
HasGranule-none s m address together none there =
    none there.0 (omega (arith, there.1.at, together.base)) (omega (arith, there.1.before_end, together.granules))

pub LacksGranule-guard : (s : HeapState) (address : ℕ) (c : Cell) (lack : Lack) → HasGranule s address → LacksGuard s c lack → LacksGranule s address c lack
LacksGranule-guard s address c NoGranule there lacks = absurd lacks
LacksGranule-guard s address c (Block reason) there lacks = (there, lacks)
LacksGranule-guard s address c NotNull there lacks = (there, lacks)
LacksGranule-guard s address c (RegisterAgain number line) there lacks = (there, lacks)
LacksGranule-guard s address c (GranuleAgain at line) there lacks = (there, lacks)
LacksGranule-guard s address c (Unguarded base top) there lacks = (there, lacks)
