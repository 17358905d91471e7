-- The line of a command is that of its step, and what is seen after it is the new state's.
use Rattle.std.proofs.Common.{◌≡◌, ◌∙◌, ◌*◌, ◌++◌, ◌∷◌, [], ℕ, List, true, append-nil, append_assoc, length, refl, subst, sym, ap, arith}
use Rattle.std.specs.List.Sorted.{IsPermutation}
use Rattle.std.proofs.lemmas.List.Sorted.{IsPermutation-trans}
use Rattle.heap_model.specs.Blocks.{Span}
use Rattle.heap_model.specs.Heap.{IsSound, due}
use Rattle.machine_steps.specs.Safety.{IsSafe}
use Rattle.machine_steps.specs.State.{State}
use Rattle.machine_steps.specs.Step.{Step}
use Rattle.heap_reply.specs.declared.reply.Reply.{Reply}
use Rattle.json.specs.Token.{Token}
use Rattle.trace_text.specs.declared.trace.Command.{Command}
use Rattle.data_tokens.specs.Blocks.{blocks_tokens}
use Rattle.data_tokens.specs.Changes.{granules_tokens, registers_tokens}
use Rattle.data_tokens.specs.Spans.{spans_of}
use Rattle.state_data.specs.States.{Tells, data_line_text, line_tokens, parts_tokens, pass_tokens, tells_pass}
use Rattle.state_data.specs.Recording.{IsNextSnapshot, IsPutInOrder, IsSnapshot, Recorded, Records, before_of, changed_blocks_tokens, due_in_snapshot, freed_base, changed_granules_tokens, is_stale, open_after, painted_after, taken_tags_tokens, step_tokens, waiting_after, written_granule}
use Rattle.state_data.specs.declared.snapshot.Before.{Before}
use Rattle.state_data.specs.declared.snapshot.Snapshot.{Snapshot}
use Rattle.tag_memory.specs.Tags.{is_set_for}
use Rattle.state_data.proofs.AfterLaws.{are_after, painted_after-same, waiting_after-kept}
use Rattle.state_data.proofs.BlockLaws.{changed_blocks_tokens-is, changed_blocks_tokens-same, some_bytes}
use Rattle.state_data.proofs.Did.{Step-did}
use Rattle.data_tokens.specs.ListedBlocks.{in_order-is}
use Rattle.state_data.proofs.MemoryLaws.{count-is, due-snapshot, changed_granules_tokens-is, taken_tags_tokens-is, tag-kept}

-- What is seen stays the state's while the blocks that wait are put in order; then, if the reply tells of a pass, they are
-- the heap's list.
pub snapshot-in_order : {snapshot ordered : Snapshot} {r : Reply} {s : State} → IsSnapshot snapshot s → IsPutInOrder snapshot ordered r → IsSnapshot ordered s
snapshot-in_order is put = record {
  registers = put.registers ∙ is.registers;
  count = ap (λ tags. 64 * length tags.items) put.tags ∙ is.count;
  bits = λ k lt. ap (λ tags. is_set_for tags.items k) put.tags ∙ is.bits k lt;
  waiting = IsPermutation-trans _ _ _ put.waiting is.waiting;
  painted = ap (λ painted. spans_of painted.items) put.painted ∙ is.painted;
  is_open = put.is_open ∙ is.is_open;
}

pub waiting-in_order : (snapshot ordered : Snapshot) (r : Reply) (s : State) → IsSnapshot ordered s → IsPutInOrder snapshot ordered r → IsSound s.heap → tells_pass r ≡ true → spans_of ordered.waiting.items ≡ s.heap.waiting
waiting-in_order snapshot ordered r s is put sound pass =
    in_order-is (spans_of ordered.waiting.items) s.heap.waiting is.waiting (put.order pass) sound.waiting_order (some_bytes s.heap s.heap.waiting sound.waiting_inside)

told-is : {old : State} (n : ℕ) (c : Command) (r : Reply) (new : State) {snapshot : Snapshot} (before : Before) → IsSnapshot snapshot old → (tells_pass r ≡ true → spans_of snapshot.waiting.items ≡ old.heap.waiting)
    → IsSafe old → IsSafe new → Step old c r new → before ≡ before_of old c
    → step_tokens n c r snapshot before new.registers new.granules ≡ line_tokens n c r old new
told-is {old} n c r new {snapshot} before is order safe after step read =
    let held : tells_pass r ≡ true → due_in_snapshot snapshot ≡ due old.heap = λ pass. due-snapshot snapshot old is (order pass) in
    let did = Step-did old c r new step in
    let granules : changed_granules_tokens before.granule r snapshot.tags.items new.granules ≡ granules_tokens old.granules new.granules =
    ap (λ (b : Before). changed_granules_tokens b.granule r snapshot.tags.items new.granules) read ∙ changed_granules_tokens-is old (written_granule old c) (freed_base old c) r snapshot.tags.items new did is.bits in
    let blocks : changed_blocks_tokens r (due_in_snapshot snapshot) before.base ≡ blocks_tokens old.heap new.heap =
    changed_blocks_tokens-same r (due_in_snapshot snapshot) (due old.heap) before.base held ∙ ap (λ (b : Before). changed_blocks_tokens r (due old.heap) b.base) read
    ∙ changed_blocks_tokens-is old (written_granule old c) (freed_base old c) r new did safe.heap after.heap in
    let pass : taken_tags_tokens r snapshot new.granules ≡ pass_tokens r old = taken_tags_tokens-is old (written_granule old c) (freed_base old c) r snapshot new did is held in
    λ i. parts_tokens n c r (registers_tokens (is.registers i) new.registers) (granules i) (blocks i) (pass i)

snapshot-is : (old : State) (c : Command) (r : Reply) (new : State) (snapshot later : Snapshot) (before : Before) → IsSnapshot snapshot old → (tells_pass r ≡ true → spans_of snapshot.waiting.items ≡ old.heap.waiting)
    → IsSafe old → Step old c r new → before ≡ before_of old c → IsNextSnapshot snapshot later before r new → IsSnapshot later new
snapshot-is old c r new snapshot later before is order safe step read follows =
    let did = Step-did old c r new step in
    let after = are_after old (written_granule old c) (freed_base old c) r new did safe.heap in
    let count = count-is old (written_granule old c) (freed_base old c) r new did in
    record {
      registers = follows.registers;
      count = follows.count;
      bits = follows.bits (λ k lt fresh.
          is.bits k (omega (arith, lt, count))
          ∙ sym (tag-kept old (written_granule old c) (freed_base old c) r new did k lt (ap (λ (b : Before). is_stale b.granule r k) (sym read) ∙ fresh)));
      waiting =
          let told : spans_of later.waiting.items ≡ waiting_after r old.heap.is_open (spans_of snapshot.waiting.items) (freed_base old c) =
          follows.waiting ∙ (λ i. waiting_after r (is.is_open i) (spans_of snapshot.waiting.items) (read i).base) in
          subst (λ (blocks : List Span). IsPermutation blocks new.heap.waiting) (sym told)
          (IsPermutation-trans _ _ _ (waiting_after-kept r old.heap.is_open (spans_of snapshot.waiting.items) old.heap.waiting (freed_base old c) is.waiting) after.waiting);
      painted =
          follows.painted
          ∙ ((λ i. painted_after r (spans_of snapshot.waiting.items) (is.painted i))
          ∙ (painted_after-same r (spans_of snapshot.waiting.items) old.heap.waiting old.heap.painted order ∙ after.painted));
      is_open = follows.is_open ∙ (ap (open_after r) is.is_open ∙ after.is_open);
    }

pub records : {old new : State} {n : ℕ} {c : Command} {r : Reply} {snapshot ordered later : Snapshot} {before : Before} {text told : List ℕ}
    → IsSnapshot snapshot old → IsPutInOrder snapshot ordered r → IsSafe old → IsSafe new → Step old c r new → before ≡ before_of old c → IsNextSnapshot ordered later before r new
    → told ≡ text ++ data_line_text (step_tokens n c r ordered before new.registers new.granules) → Records old n c new later text told
records {old} {new} {n} {c} {r} {snapshot} {ordered} {later} {before} {text} is put safe after step read follows line =
    let now : IsSnapshot ordered old = snapshot-in_order is put in
    let order : tells_pass r ≡ true → spans_of ordered.waiting.items ≡ old.heap.waiting = waiting-in_order snapshot ordered r old now put safe.heap in
    record {
      reply = r;
      step = step;
      safe = after;
      is_snapshot = snapshot-is old c r new ordered later before now order safe step read follows;
      text = line ∙ ap (λ (tokens : List Token). text ++ data_line_text tokens) (told-is n c r new before now order safe after step read);
    }

-- There are as many granules after a command as before it.
pub count-after : {old : State} (c : Command) (r : Reply) (new : State) {snapshot : Snapshot} → IsSnapshot snapshot old → Step old c r new → 64 * length snapshot.tags.items ≡ length new.granules
count-after {old} c r new is step = is.count ∙ sym (count-is old (written_granule old c) (freed_base old c) r new (Step-did old c r new step))

-- ---- one command more

Tells-push : (first : State) (items : List (ℕ × Command)) (lines : List ℕ) (mid new : State) (c : ℕ × Command) (r : Reply) → Tells first items lines mid → Step mid c.1 r new
    → Tells first (items ++ c ∷ []) (lines ++ data_line_text (line_tokens c.0 c.1 r mid new)) new
Tells-push first [] lines mid new c r tells step =
    subst (λ (s : State). Tells s (c ∷ []) (lines ++ data_line_text (line_tokens c.0 c.1 r mid new)) new) tells.1
    (r, new, [], step, (refl, refl), (λ i. tells.0 i ++ data_line_text (line_tokens c.0 c.1 r mid new)) ∙ sym (append-nil (data_line_text (line_tokens c.0 c.1 r mid new))))
Tells-push first (item ∷ items) lines mid new c r (reply, next, rest, done, more, is) step = (
  reply,
  next,
  rest ++ data_line_text (line_tokens c.0 c.1 r mid new),
  done,
  Tells-push next items rest mid new c r more step,
  ap (λ (text : List ℕ). text ++ data_line_text (line_tokens c.0 c.1 r mid new)) is ∙ append_assoc (data_line_text (line_tokens item.0 item.1 reply first next)) rest (data_line_text (line_tokens c.0 c.1 r mid new)),
)

pub Recorded-push : (first : State) (items : List (ℕ × Command)) (mid new : State) (snapshot later : Snapshot) (before text told : List ℕ) (c : ℕ × Command)
    → Recorded first items mid snapshot before text → Records mid c.0 c.1 new later text told → Recorded first (items ++ c ∷ []) new later before told
Recorded-push first items mid new snapshot later before text told c so_far more = record {
  lines = so_far.lines ++ data_line_text (line_tokens c.0 c.1 more.reply mid new);
  tells = Tells-push first items so_far.lines mid new c more.reply so_far.tells more.step;
  safe = more.safe;
  is_snapshot = more.is_snapshot;
  text_is = more.text ∙ (ap (λ (t : List ℕ). t ++ data_line_text (line_tokens c.0 c.1 more.reply mid new)) so_far.text_is ∙ append_assoc before so_far.lines (data_line_text (line_tokens c.0 c.1 more.reply mid new)));
}
