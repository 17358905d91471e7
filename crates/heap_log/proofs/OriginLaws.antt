-- The last line that passes a test, among so many lines and one more.
use Rattle.std.proofs.Common.{◌≡◌, ◌<◌, ◌+◌, ◌∙◌, ℕ, suc, Bool, true, false, List, [], ◌∷◌, ◌++◌, Option, None, Some, ap, drop, get_or, length, refl, subst, sym, take}
use Rattle.std.specs.Prelude.{if◌then◌else◌}
use Rattle.std.proofs.Math.Seq.{split_at}
use Rattle.std.proofs.lemmas.List.{take_more}
use Rattle.heap_model.specs.declared.block.Block.{Block}
use Rattle.log_text.specs.declared.log.Event.{Event}
use Rattle.machine_steps.specs.State.{State}
use Rattle.heap_log.specs.declared.verdict.Difference.{Difference}
use Rattle.heap_log.specs.Judged.{AllFollow, EventFollows, IsFound}
use Rattle.heap_log.specs.Origin.{IsLastFree, frees, last_line, later}
use Rattle.heap_log.proofs.FollowLaws.{AllFollow-cut, AllFollow-push}

later-if : (b : Bool) (line : ℕ) (a other : Option ℕ) → later (if b then Some line else a) other ≡ (if b then Some line else later a other)
later-if true line a other = refl
later-if false line a other = refl

last_line-push : {A : Type 0} (test : A → Bool) (lines : List (ℕ × A)) (one : ℕ × A)
    → last_line test (lines ++ one ∷ []) ≡ (if test one.1 then Some one.0 else last_line test lines)
last_line-push test [] one = refl
last_line-push test (first ∷ lines) one =
    let own : Option ℕ = if test first.1 then Some first.0 else None in
    ap (λ found. later found own) (last_line-push test lines one) ∙ later-if (test one.1) one.0 (last_line test lines) own

pub last_line-more : {A : Type 0} (test : A → Bool) (lines : List (ℕ × A)) (i : ℕ) (none : ℕ × A) (b : Bool) (found new : Option ℕ) → i < length lines
    → b ≡ test (get_or lines i none).1 → found ≡ last_line test (take i lines) → new ≡ (if b then Some (get_or lines i none).0 else found)
    → new ≡ last_line test (take (i + 1) lines)
last_line-more test lines i none b found new here passes before is =
    let line = (get_or lines i none).0 in
    let pushed = last_line-push test (take i lines) (get_or lines i none) in
    let whole : last_line test (take (i + 1) lines) ≡ (if test (get_or lines i none).1 then Some line else last_line test (take i lines)) =
    ap (last_line test) (take_more lines i none here) ∙ pushed in
    is ∙ ap (λ t. if t then Some line else found) passes ∙ ap (λ f. if test (get_or lines i none).1 then Some line else f) before ∙ sym whole

-- What the law `logs` says of it: events leave one state.
abbrev pub LeaveOne : Type 0
LeaveOne = (first : State) (events : List (ℕ × Event)) (last left : State) → AllFollow first events last → AllFollow first events left → last ≡ left

-- Where events follow, the one at this place does from the state that those before it leave.
there : LeaveOne → (first : State) (events : List (ℕ × Event)) (last : State) (i : ℕ) (none : ℕ × Event) (mid : State) → i < length events → AllFollow first events last
    → AllFollow first (take i events) mid → (new : State) × EventFollows mid (get_or events i none).1 new
there one first events last i none mid here all before =
    let parts = AllFollow-cut first (take i events) (get_or events i none ∷ drop (suc i) events) last (subst (λ (xs : List (ℕ × Event)). AllFollow first xs last) (split_at events i none here) all) in
    let same : parts.0 ≡ mid = one first (take i events) parts.0 mid parts.1 before in
    (parts.2.0, subst (λ (s : State). EventFollows s (get_or events i none).1 parts.2.0) same parts.2.1)

-- So it is found to.
found_there : (mid new left : State) (event : Event) (found : Option Difference) → EventFollows mid event left → IsFound mid event found new → EventFollows mid event new
found_there mid new left event None follows is = is
found_there mid new left event (Some difference) follows is = absurd (is.0 left follows)

-- The events so far follow, and the last of them that frees the block is known.
pub record KnowsLastFree (first : State) (block : Block) (events : List (ℕ × Event)) (found : Option ℕ) (mid : State) : Type 0 where
  pub follow : AllFollow first events mid
  pub last : IsLastFree first block events found mid

pub KnowsLastFree-more : LeaveOne → (first : State) (block : Block) (events : List (ℕ × Event)) (last : State) (i : ℕ) (none : ℕ × Event) (b : Bool) (found next : Option ℕ)
    (mid new : State) (difference : Option Difference) → i < length events → AllFollow first events last → KnowsLastFree first block (take i events) found mid
    → b ≡ frees block mid (get_or events i none).1 → next ≡ (if b then Some (get_or events i none).0 else found)
    → IsFound mid (get_or events i none).1 difference new → KnowsLastFree first block (take (i + 1) events) next new
KnowsLastFree-more one first block events last i none b found next mid new difference here all before passes is judged =
    let event = get_or events i none in
    let left = there one first events last i none mid here all before.follow in
    let step : EventFollows mid event.1 new = found_there mid new left.0 event.1 difference left.1 judged in
    let more = take_more events i none here in
    let note : next ≡ (if frees block mid event.1 then Some event.0 else found) = is ∙ ap (λ t. if t then Some event.0 else found) passes in
    record {
      follow = subst (λ (xs : List (ℕ × Event)). AllFollow first xs new) (sym more) (AllFollow-push first (take i events) mid event new before.follow step);
      last = subst (λ (xs : List (ℕ × Event)). IsLastFree first block xs next new) (sym more)
          (subst (λ (f : Option ℕ). IsLastFree first block (take i events ++ event ∷ []) f new) (sym note) (IsLastFree.more (take i events) found mid event new before.last step));
    }
