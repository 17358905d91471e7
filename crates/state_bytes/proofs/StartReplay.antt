-- What may be made of a heap, beside what is made already, and how an epoch begins.
use Rattle.std.proofs.Common.{◌≡◌, ◌∙◌, inl, inr, nat_lt, ℕ, Bool, true, false, List, [], get_or, refl, sym, ap, subst}
use Rattle.std.specs.Prelude.{All}
use Rattle.std.proofs.lemmas.List.Elements.{All-filter, All-nil}
use Rattle.heap_model.specs.Blocks.{IsApart, Span, start_of}
use Rattle.heap_model.specs.Heap.{HeapState}
use Rattle.heap_model.specs.Quarantine.{with_epoch}
use Rattle.heap_machine.specs.Storage.{MachineState}
use Rattle.state_bytes.specs.Replay.{IsStart, blocks_below}
use Rattle.heap_model.specs.declared.block.Kind.TheVariants.{Live, Painted, Waiting}
use Rattle.state_bytes.specs.State.{IsState}
use Rattle.state_bytes.proofs.OneText.{sizes_of}
use Rattle.state_bytes.proofs.UptoLaws.{IsReplay}

-- Where there are no others, each block is apart from all of them.
apart_none : (xs : List Span) → All (λ block. All (IsApart block) []) xs
apart_none xs = λ k d lt. All-nil (IsApart (get_or xs k d))

-- Blocks that are apart from others are so from those of them that start before an address.
apart_upto : (a : ℕ) (xs ys : List Span) → All (λ block. All (IsApart block) ys) xs → All (λ block. All (IsApart block) (blocks_below a ys)) xs
apart_upto a xs ys apart = λ k d lt. All-filter (λ (b : Span). nat_lt (start_of b) a) (IsApart (get_or xs k d)) ys (apart k d lt)

swapped : (b c : Span) → IsApart b c → IsApart c b
swapped b c (inl before) = inr before
swapped b c (inr behind) = inl behind

apart_swapped : (xs ys : List Span) → All (λ block. All (IsApart block) ys) xs → All (λ block. All (IsApart block) xs) ys
apart_swapped xs ys apart = λ k d lt j e less. swapped (get_or xs j e) (get_or ys k d) (apart j e less k d lt)

pub painted_replay : (m : MachineState) (s : HeapState) → IsState m → s ≡ record m.state.heap { live = []; waiting = []; painted = []; is_open = false } → IsReplay m.state.heap s m.state.heap.painted
painted_replay m s e is =
    let sound = e.invariant.sound.safe.heap in
    let painted = m.state.heap.painted in
    subst (λ (h : HeapState). IsReplay m.state.heap h m.state.heap.painted) (sym is)
    (record { base = refl; size = refl; even = (sizes_of m e.invariant).even; inside = sound.painted_inside; order = sound.painted_order; exact = e.exact.each Painted; live = apart_none painted; waiting = apart_none painted; painted = apart_none painted })

-- Beside the live blocks that start before an address.
pub waiting_replay : (m : MachineState) (a : ℕ) → IsState m → IsReplay m.state.heap (record m.state.heap { live = blocks_below a m.state.heap.live; waiting = [] }) m.state.heap.waiting
waiting_replay m a e =
    let sound = e.invariant.sound.safe.heap in
    let live = m.state.heap.live in
    let waiting = m.state.heap.waiting in
    record { base = refl; size = refl; even = (sizes_of m e.invariant).even; inside = sound.waiting_inside; order = sound.waiting_order; exact = e.exact.each Waiting; live = apart_upto a waiting live (apart_swapped live waiting sound.apart_waiting); waiting = apart_none waiting; painted = sound.apart_held }

-- Beside the blocks that wait and start before an address.
pub live_replay : (m : MachineState) (a : ℕ) → IsState m → IsReplay m.state.heap (record m.state.heap { live = []; waiting = blocks_below a m.state.heap.waiting }) m.state.heap.live
live_replay m a e =
    let sound = e.invariant.sound.safe.heap in
    let live = m.state.heap.live in
    record { base = refl; size = refl; even = (sizes_of m e.invariant).even; inside = sound.live_inside; order = sound.live_order; exact = e.exact.each Live; live = apart_none live; waiting = apart_upto a live m.state.heap.waiting sound.apart_waiting; painted = sound.apart_painted }

-- Without an epoch nothing is painted.
pub closed_start : (m : MachineState) (s : HeapState) (o : Bool) → IsState m → IsStart m.state.heap s o → o ≡ false → s ≡ record m.state.heap { live = []; waiting = [] }
closed_start m s o e start closed =
    let is : m.state.heap.is_open ≡ false = sym start.open_is ∙ closed in
    let none : m.state.heap.painted ≡ [] = e.invariant.sound.safe.heap.closed is in
    start.empty ∙ (λ j. record m.state.heap { live = []; waiting = []; painted = sym none j; is_open = sym is j })

-- And with one, the blocks that were made to wait are painted.
pub open_start : (m : MachineState) (s now new : HeapState) (o : Bool) → IsStart m.state.heap s o → o ≡ true → now ≡ record s { waiting = m.state.heap.painted } → new ≡ with_epoch now
    → new ≡ record m.state.heap { live = []; waiting = [] }
open_start m s now new o start open_is now_is new_is =
    let is : true ≡ m.state.heap.is_open = sym open_is ∙ start.open_is in
    new_is ∙ (ap with_epoch (now_is ∙ ap (λ (h : HeapState). record h { waiting = m.state.heap.painted }) start.empty) ∙ (λ j. record m.state.heap { live = []; waiting = []; is_open = is j }))
