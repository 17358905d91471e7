-- Events that follow: one more, cut in two, and what they leave.
use Rattle.std.proofs.Common.{arith, ◌≡◌, ◌<◌, ◌+◌, ◌∙◌, ℕ, suc, false, List, [], ◌∷◌, ◌++◌, Option, None, Some, drop, get_or, length, take, refl, sym, subst}
use Rattle.std.specs.Prelude.{All}
use Rattle.std.proofs.Math.Seq.{split_at}
use Rattle.std.proofs.lemmas.List.{length-take-le, take_more}
use Rattle.std.proofs.lemmas.List.Elements.{All-head, All-push, All-tail}
use Rattle.trace_text.specs.declared.trace.Command.{Command}
use Rattle.heap_reply.specs.declared.reply.Reply.{Reply}
use Rattle.log_text.specs.declared.log.Event.{Event}
use Rattle.log_text.specs.declared.log.Event.TheVariants.{Done, Revoked, Seen}
use Rattle.machine_steps.specs.Follow.{Follows}
use Rattle.revoker_steps.specs.Revoker.{RevokerStep}
use Rattle.revoker_steps.specs.declared.command.RevokerCommand.{RevokerCommand}
use Rattle.revoker_steps.specs.declared.command.RevokerReply.{RevokerReply}
use Rattle.machine_steps.specs.Safety.{FitsTypes, IsSafe, IsUnused}
use Rattle.machine_steps.specs.State.{State}
use Rattle.heap_log.specs.declared.verdict.Difference.{Difference}
use Rattle.heap_log.specs.Judged.{AllFollow, DiffersAt, EventFollows, FitsEvent, FitsListed, HandOutUnused, HasBegun, IsFound, IsRefusedEvent, SaysInstead}

pub AllFollow-push : (old : State) (events : List (ℕ × Event)) (mid : State) (event : ℕ × Event) (new : State)
    → AllFollow old events mid → EventFollows mid event.1 new → AllFollow old (events ++ event ∷ []) new
AllFollow-push old [] mid event new all step = (new, subst (λ (s : State). EventFollows s event.1 new) all step, refl)
AllFollow-push old (first ∷ events) mid event new all step = (all.0, all.1, AllFollow-push all.0 events mid event new all.2 step)

-- the events up to one that follows, and with it
pub AllFollow-more : (old : State) (events : List (ℕ × Event)) (i : ℕ) (none : ℕ × Event) (mid new : State) (found : Option Difference)
    → i < length events → AllFollow old (take i events) mid → found ≡ None → IsFound mid (get_or events i none).1 found new → AllFollow old (take (i + 1) events) new
AllFollow-more old events i none mid new found here all same judged =
    let step : EventFollows mid (get_or events i none).1 new = subst (λ (f : Option Difference). IsFound mid (get_or events i none).1 f new) same judged in
    subst (λ (xs : List (ℕ × Event)). AllFollow old xs new) (sym (take_more events i none here)) (
    AllFollow-push old (take i events) mid (get_or events i none) new all step
    )

-- the events up to one that doesn't
pub DiffersAt-found : (old : State) (events : List (ℕ × Event)) (i : ℕ) (none : ℕ × Event) (mid new : State) (found : Option Difference) (difference : Difference)
    → i < length events → AllFollow old (take i events) mid → found ≡ Some difference → IsFound mid (get_or events i none).1 found new
    → DiffersAt old events (get_or events i none).0 i difference new
DiffersAt-found old events i none mid new found difference here all same judged =
    let event = (get_or events i none).1 in
    let differs : IsFound mid event (Some difference) new = subst (λ (f : Option Difference). IsFound mid event f new) same judged in
    let still : mid ≡ new = sym differs.2 in
    record {
      before = take i events;
      event = event;
      after = drop (suc i) events;
      parts = split_at events i none here;
      count_is = length-take-le i events (omega (arith, here));
      follow = subst (λ (s : State). AllFollow old (take i events) s) still all;
      refused = subst (λ (s : State). IsRefusedEvent s event) still differs.0;
      instead = subst (λ (s : State). SaysInstead s event difference) still differs.1;
    }

-- the events up to one that changed nothing
pub HasBegun-still : (old : State) (events : List (ℕ × Event)) (i : ℕ) (mid new : State)
    → i < length events → AllFollow old (take i events) mid → new ≡ mid → HasBegun old events new
HasBegun-still old events i mid new here all still =
    let none : ℕ × Event = (0, Seen 0 false []) in
    record {
      before = take i events;
      event = get_or events i none;
      after = drop (suc i) events;
      parts = split_at events i none here;
      follow = subst (λ (s : State). AllFollow old (take i events) s) (sym still) all;
    }

pub AllFollow-cut : (old : State) (before after : List (ℕ × Event)) (new : State)
    → AllFollow old (before ++ after) new → (mid : State) × AllFollow old before mid × AllFollow mid after new
AllFollow-cut old [] after new all = (old, refl, all)
AllFollow-cut old (event ∷ before) after new all =
    let rest = AllFollow-cut all.0 before after new all.2 in
    (rest.0, (all.0, all.1, rest.1), rest.2)

-- What the law `answers` says.
pub record Laws : Type 0 where
  pub one : (old : State) (command : Command) (reply : Reply) (new left : State) → Follows old command reply new → Follows old command reply left → new ≡ left
  pub safe : (old : State) (command : Command) (reply : Reply) (new : State) → IsSafe old → FitsTypes command → Follows old command reply new → IsSafe new
  pub unused : (old : State) (command : Command) (reply : Reply) (new : State) → IsSafe old → Follows old command reply new → IsUnused old command reply
  pub only : (old : State) (command : RevokerCommand) (reply other : RevokerReply) (new left : State) → RevokerStep old command reply new → RevokerStep old command other left → (reply ≡ other) × (new ≡ left)
  pub step_safe : (old : State) (command : RevokerCommand) (reply : RevokerReply) (new : State) → IsSafe old → RevokerStep old command reply new → IsSafe new

EventFollows-one : Laws → (old : State) (event : Event) (new left : State) → EventFollows old event new → EventFollows old event left → new ≡ left
EventFollows-one laws old (Done command answer) new left p q = laws.one old command answer new left p q
EventFollows-one laws old (Revoked command answer) new left p q = (laws.only old command answer answer new left p q).1
EventFollows-one laws old (Seen address tag bytes) new left p q = p.1 ∙ sym q.1

pub AllFollow-one : Laws → (old : State) (events : List (ℕ × Event)) (new left : State) → AllFollow old events new → AllFollow old events left → new ≡ left
AllFollow-one laws old [] new left p q = p ∙ sym q
AllFollow-one laws old (event ∷ events) new left p q =
    let same : p.0 ≡ q.0 = EventFollows-one laws old event.1 p.0 q.0 p.1 q.1 in
    AllFollow-one laws p.0 events new left p.2 (subst (λ (s : State). AllFollow s events left) (sym same) q.2)

EventFollows-safe : Laws → (old : State) (event : Event) (new : State) → IsSafe old → FitsEvent event → EventFollows old event new → IsSafe new
EventFollows-safe laws old (Done command answer) new safe fits p = laws.safe old command answer new safe fits p
EventFollows-safe laws old (Revoked command answer) new safe fits p = laws.step_safe old command answer new safe p
EventFollows-safe laws old (Seen address tag bytes) new safe fits p = subst IsSafe (sym p.1) safe

pub AllFollow-safe : Laws → (old : State) (events : List (ℕ × Event)) (new : State) → IsSafe old → All FitsListed events → AllFollow old events new → IsSafe new
AllFollow-safe laws old [] new safe fits p = subst IsSafe (sym p) safe
AllFollow-safe laws old (event ∷ events) new safe fits p =
    let next = EventFollows-safe laws old event.1 p.0 safe (All-head FitsListed event events fits) p.1 in
    AllFollow-safe laws p.0 events new next (All-tail FitsListed event events fits) p.2

-- what is handed out at one place of the events
unused-at : Laws → (first last : State) (before after : List (ℕ × Event)) (line : ℕ) (command : Command) (answer : Reply)
    → IsSafe first → All FitsListed (before ++ (line, Done command answer) ∷ after) → AllFollow first (before ++ (line, Done command answer) ∷ after) last
    → (mid : State) × AllFollow first before mid × IsSafe mid × IsUnused mid command answer
unused-at laws first last [] after line command answer safe fits p = (first, refl, safe, laws.unused first command answer p.0 safe p.1)
unused-at laws first last (event ∷ before) after line command answer safe fits p =
    let rest = before ++ (line, Done command answer) ∷ after in
    let next = EventFollows-safe laws first event.1 p.0 safe (All-head FitsListed event rest fits) p.1 in
    let later = unused-at laws p.0 last before after line command answer next (All-tail FitsListed event rest fits) p.2 in
    (later.0, (p.0, p.1, later.1), later.2, later.3)

pub HandOutUnused-safe : Laws → (first : State) (events : List (ℕ × Event)) (last : State)
    → IsSafe first → All FitsListed events → AllFollow first events last → HandOutUnused first events
HandOutUnused-safe laws first events last safe fits p =
    λ before after line command answer cut.
    unused-at laws first last before after line command answer safe (subst (All FitsListed) cut fits) (subst (λ (xs : List (ℕ × Event)). AllFollow first xs last) cut p)

-- one event more whose numbers fit
pub AllFit-more : (events : List (ℕ × Event)) (i : ℕ) (none : ℕ × Event) → i < length events → All FitsListed (take i events) → FitsEvent (get_or events i none).1
    → All FitsListed (take (i + 1) events)
AllFit-more events i none here all fits =
    subst (All FitsListed) (sym (take_more events i none here)) (All-push FitsListed (take i events) (get_or events i none) all fits)

pub DiffersAt-never : Laws → (old : State) (events : List (ℕ × Event)) (line count : ℕ) (difference : Difference) (new left : State)
    → DiffersAt old events line count difference new → AllFollow old events left → ⊥
DiffersAt-never laws old events line count difference new left d p =
    let parts = AllFollow-cut old d.before ((line, d.event) ∷ d.after) left (subst (λ (xs : List (ℕ × Event)). AllFollow old xs left) d.parts p) in
    let same : parts.0 ≡ new = AllFollow-one laws old d.before parts.0 new parts.1 d.follow in
    d.refused parts.2.0 (subst (λ (s : State). EventFollows s d.event parts.2.0) same parts.2.1)
