-- In each state a command has one answer and leaves one state.
use Rattle.std.proofs.Common.{◌≡◌, ◌+◌, ◌∙◌, ℕ, Bool, false, Option, Some, None, List, [], ◌∷◌, inl, inr, true, refl, sym, ap}
use Rattle.std.specs.Prelude.{◌⊎◌}
use Rattle.std.proofs.lemmas.Bool.{true≢false}
use Rattle.heap_model.specs.Blocks.{Span}
use Rattle.heap_model.specs.Place.{block_length, with_live}
use Rattle.tag_memory.specs.Cells.{null_cell}
use Rattle.trace_text.specs.declared.trace.Command.{Command}
use Rattle.trace_text.specs.declared.trace.Command.TheVariants.{Malloc, Free, Copy, SetAddr, Narrow, AndPerm, StoreCap, LoadCap, Write, Show, Sweep, Begin, End}
use Rattle.heap_reply.specs.declared.reply.Reply.{Reply}
use Rattle.heap_reply.specs.declared.reply.Reply.TheVariants.{Block, BlockAfter, NoSpace, NoSpaceAfter}
use Rattle.heap_reply.specs.declared.reply.Reply.TheVariants as reply
use Rattle.heap_reply.specs.declared.reply.Trap.{Trap}
use Rattle.machine_steps.specs.State.{State, with_register}
use Rattle.cap_codec.specs.Words.{capability_of}
use Rattle.machine_steps.specs.Step.{Effect, HandsOut, MaySweep, SweepsFirst, Step, StepAfter, checks, first_failed, after_sweep, sweep_takes}
use Rattle.machine_steps.proofs.OnePlace.{IsPlace-only, IsPlace-some}

-- The state after a block.
abbrev with_block : State → ℕ → ℕ → ℕ → ℕ → State
with_block old rd size base top =
    record (with_register old rd (capability_of base top, true)) { heap = with_live old.heap size base }

-- ---- no other

same_as : {r s a : Reply} {m n b : State} → (r ≡ a) × (m ≡ b) → (s ≡ a) × (n ≡ b) → (r ≡ s) × (m ≡ n)
same_as p q = (p.0 ∙ sym q.0, p.1 ∙ sym q.1)

-- One block is handed out.
record AreOne (b c t u : ℕ) (m n : State) : Type 0 where
  pub base : b ≡ c
  pub top : t ≡ u
  pub state : m ≡ n

HandsOut-only : (old : State) (rd size b t c u : ℕ) (m n : State) → HandsOut old rd size b t m → HandsOut old rd size c u n → AreOne b c t u m n
HandsOut-only old rd size b t c u m n p q =
    let base : b ≡ c = IsPlace-only old.heap size b c p.place q.place in
    let top : t ≡ u = p.end ∙ ap (λ (x : ℕ). x + block_length size) base ∙ sym q.end in
    let same : with_block old rd size b t ≡ with_block old rd size c u = cc in
    record { base = base; top = top; state = p.state ∙ same ∙ sym q.state }

Malloc-only : (old : State) (rd size : ℕ) (r s : Reply) (m n : State) → Effect old (Malloc rd size) r m → Effect old (Malloc rd size) s n → (r ≡ s) × (m ≡ n)
Malloc-only old rd size (Block b t) (Block c u) m n p q =
    let one = HandsOut-only old rd size b t c u m n p q in
    let base = one.base in
    let top = one.top in
    let r : Block b t ≡ Block c u = cc in
    (r, one.state)
Malloc-only old rd size (Block b t) (BlockAfter c u k) m n p q = absurd (q.0.none b p.place.free)
Malloc-only old rd size (Block b t) NoSpace m n p q = absurd (q.1.none b p.place.free)
Malloc-only old rd size (Block b t) (NoSpaceAfter k) m n p q = absurd (q.0.none b p.place.free)
Malloc-only old rd size (BlockAfter b t k) (Block c u) m n p q = absurd (p.0.none c q.place.free)
Malloc-only old rd size (BlockAfter b t k) (BlockAfter c u l) m n p q =
    let one = HandsOut-only (after_sweep old) rd size b t c u m n p.1 q.1 in
    let base = one.base in
    let top = one.top in
    let count : k ≡ l = p.0.cleared_is ∙ sym q.0.cleared_is in
    let r : BlockAfter b t k ≡ BlockAfter c u l = cc in
    (r, one.state)
Malloc-only old rd size (BlockAfter b t k) NoSpace m n p q = absurd (q.0 p.0.may)
Malloc-only old rd size (BlockAfter b t k) (NoSpaceAfter l) m n p q = absurd (q.1.none b p.1.place.free)
Malloc-only old rd size NoSpace (Block c u) m n p q = absurd (p.1.none c q.place.free)
Malloc-only old rd size NoSpace (BlockAfter c u k) m n p q = absurd (p.0 q.0.may)
Malloc-only old rd size NoSpace NoSpace m n p q = (refl, p.1.state ∙ sym q.1.state)
Malloc-only old rd size NoSpace (NoSpaceAfter k) m n p q = absurd (p.0 q.0.may)
Malloc-only old rd size (NoSpaceAfter k) (Block c u) m n p q = absurd (p.0.none c q.place.free)
Malloc-only old rd size (NoSpaceAfter k) (BlockAfter c u l) m n p q = absurd (p.1.none c q.1.place.free)
Malloc-only old rd size (NoSpaceAfter k) NoSpace m n p q = absurd (q.0 p.0.may)
Malloc-only old rd size (NoSpaceAfter k) (NoSpaceAfter l) m n p q =
    let count : k ≡ l = p.0.cleared_is ∙ sym q.0.cleared_is in (ap NoSpaceAfter count, p.1.state ∙ sym q.1.state)
Malloc-only old rd size (Block b t) other m n p q = absurd q
Malloc-only old rd size (BlockAfter b t k) other m n p q = absurd q
Malloc-only old rd size NoSpace other m n p q = absurd q
Malloc-only old rd size (NoSpaceAfter k) other m n p q = absurd q
Malloc-only old rd size other s m n p q = absurd p

Effect-only : (old : State) (c : Command) (r s : Reply) (m n : State) → Effect old c r m → Effect old c s n → (r ≡ s) × (m ≡ n)
Effect-only old (Malloc rd size) r s m n p q = Malloc-only old rd size r s m n p q
Effect-only old (Free rs) r s m n p q = same_as p q
Effect-only old (Copy rd rs) r s m n p q = same_as p q
Effect-only old (SetAddr rd rs a) r s m n p q = same_as p q
Effect-only old (Narrow rd rs length) r s m n p q = same_as p q
Effect-only old (AndPerm rd rs mask) r s m n p q = same_as p q
Effect-only old (StoreCap ra rs) r s m n p q = same_as p q
Effect-only old (LoadCap rd ra) r s m n p q = same_as p q
Effect-only old (Write ra bytes) r s m n p q = same_as p q
Effect-only old (Show rs) r s m n p q = same_as p q
Effect-only old Sweep r s m n p q = same_as p q
Effect-only old Begin r s m n p q = same_as p q
Effect-only old End r s m n p q = same_as p q

StepAfter-only : (t : Option Trap) (old : State) (c : Command) (r s : Reply) (m n : State)
    → StepAfter t old c r m → StepAfter t old c s n → (r ≡ s) × (m ≡ n)
StepAfter-only None old c r s m n p q = Effect-only old c r s m n p q
StepAfter-only (Some t) old c r s m n p q = same_as p q

pub Step-only : (old : State) (c : Command) (r s : Reply) (m n : State) → Step old c r m → Step old c s n → (r ≡ s) × (m ≡ n)
Step-only old c r s m n p q = StepAfter-only (first_failed (checks old c)) old c r s m n p q

-- ---- some

-- Whether a malloc may sweep can be told.
may_or_not : (s : State) → MaySweep s ⊎ (MaySweep s → ⊥)
may_or_not s = go s.heap.is_open s.heap.waiting refl refl where
  go : (is_open : Bool) (waiting : List Span) → s.heap.is_open ≡ is_open → s.heap.waiting ≡ waiting → MaySweep s ⊎ (MaySweep s → ⊥)
  go true waiting opened are = inr (λ may. absurd (true≢false (sym opened ∙ may.closed)))
  go false [] closed are = inr (λ may. absurd (may.waiting are))
  go false (b ∷ blocks) closed are = inl (record { closed = closed; waiting = λ none. (let e : b ∷ blocks ≡ [] = sym are ∙ none in absurd cc) })

-- Where a block has no place, and others are held.
Sweep-some : (old : State) (rd size cleared : ℕ) → SweepsFirst old size cleared → (r : Reply) × (m : State) × Effect old (Malloc rd size) r m
Sweep-some old rd size cleared first =
    elim (IsPlace-some (after_sweep old).heap size) [
      | inl found ↦
          let base = found.0 in
          let top = base + block_length size in
          (BlockAfter base top cleared, with_block (after_sweep old) rd size base top, (first, record { place = found.1; end = refl; state = refl }))
      | inr none ↦ (NoSpaceAfter cleared, with_register (after_sweep old) rd null_cell, (first, record { none = none; state = refl }))
    ]

Malloc-some : (old : State) (rd size : ℕ) → (r : Reply) × (m : State) × Effect old (Malloc rd size) r m
Malloc-some old rd size =
    elim (IsPlace-some old.heap size) [
      | inl found ↦
          let base = found.0 in
          let top = base + block_length size in
          (Block base top, with_block old rd size base top, record { place = found.1; end = refl; state = refl })
      | inr none ↦
          elim (may_or_not old) [
            | inl may ↦ Sweep-some old rd size (sweep_takes old) (record { none = none; may = may; cleared_is = refl })
            | inr not ↦ (NoSpace, with_register old rd null_cell, (not, record { none = none; state = refl }))
          ]
    ]

Effect-some : (old : State) (c : Command) → (r : Reply) × (m : State) × Effect old c r m
Effect-some old (Malloc rd size) = Malloc-some old rd size
Effect-some old (Free rs) = (_, _, (refl, refl))
Effect-some old (Copy rd rs) = (_, _, (refl, refl))
Effect-some old (SetAddr rd rs a) = (_, _, (refl, refl))
Effect-some old (Narrow rd rs length) = (_, _, (refl, refl))
Effect-some old (AndPerm rd rs mask) = (_, _, (refl, refl))
Effect-some old (StoreCap ra rs) = (_, _, (refl, refl))
Effect-some old (LoadCap rd ra) = (_, _, (refl, refl))
Effect-some old (Write ra bytes) = (_, _, (refl, refl))
Effect-some old (Show rs) = (_, _, (refl, refl))
Effect-some old Sweep = (_, _, (refl, refl))
Effect-some old Begin = (_, _, (refl, refl))
Effect-some old End = (_, _, (refl, refl))

StepAfter-some : (t : Option Trap) (old : State) (c : Command) → (r : Reply) × (m : State) × StepAfter t old c r m
StepAfter-some None old c = Effect-some old c
StepAfter-some (Some t) old c = (reply.Trap t, old, (refl, refl))

pub Step-some : (old : State) (c : Command) → (r : Reply) × (m : State) × Step old c r m
Step-some old c = StepAfter-some (first_failed (checks old c)) old c
