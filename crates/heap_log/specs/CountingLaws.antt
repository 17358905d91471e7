-- What events come to, with one more.
use Rattle.std.proofs.Common.{◌≡◌, ℕ, ◌+◌, ◌<◌, ◌^◌, List, [], ◌∷◌, ◌++◌, get_or, length, take, sym, ap, ◌∙◌, arith}
use Rattle.std.proofs.lemmas.List.{take_more}
use Rattle.std.proofs.lemmas.List.Sums.{sum_by_push}
use Rattle.log_text.specs.declared.log.Event.{Event}
use Rattle.heap_log.specs.declared.verdict.Tally.{Tally}
use Rattle.heap_log.specs.Counting.{AreFew, Grows, HasRoom, tally_with_event}
use Rattle.heap_log.specs.Judged.{sum_over, tally_of, tally_of_event}

abbrev with_fields : ℕ → ℕ → ℕ → ℕ → Tally
with_fields tags commands blocks passes = record { tags = tags; commands = commands; blocks = blocks; passes = passes }

same_tally : (a b : Tally) → a.tags ≡ b.tags → a.commands ≡ b.commands → a.blocks ≡ b.blocks → a.passes ≡ b.passes → a ≡ b
same_tally a b tags commands blocks passes =
    ap (λ n. with_fields n a.commands a.blocks a.passes) tags ∙ ap (λ n. with_fields b.tags n a.blocks a.passes) commands
    ∙ ap (λ n. with_fields b.tags b.commands n a.passes) blocks ∙ ap (λ n. with_fields b.tags b.commands b.blocks n) passes

told_push : (told : Tally → ℕ) (events : List (ℕ × Event)) (number : ℕ) (event : Event) → sum_over told (events ++ (number, event) ∷ []) ≡ sum_over told events + told (tally_of_event event)
told_push told events number event = sum_by_push (λ (one : ℕ × Event). told (tally_of_event one.1)) events (number, event)

pub tally_push : (events : List (ℕ × Event)) (number : ℕ) (event : Event) → tally_with_event (tally_of events) event ≡ tally_of (events ++ (number, event) ∷ [])
tally_push events number event =
    same_tally (tally_with_event (tally_of events) event) (tally_of (events ++ (number, event) ∷ []))
    (sym (told_push (λ (it : Tally). it.tags) events number event)) (sym (told_push (λ (it : Tally). it.commands) events number event))
    (sym (told_push (λ (it : Tally). it.blocks) events number event)) (sym (told_push (λ (it : Tally). it.passes) events number event))

-- Of the first events of a list, with one more.
pub tally_of-more : (events : List (ℕ × Event)) (i : ℕ) (none : ℕ × Event) (before after : Tally) → i < length events → before ≡ tally_of (take i events)
    → after ≡ tally_with_event before (get_or events i none).1 → after ≡ tally_of (take (i + 1) events)
tally_of-more events i none before after here so_far counts =
    let event = get_or events i none in
    counts ∙ ap (λ t. tally_with_event t event.1) so_far ∙ tally_push (take i events) event.0 event.1 ∙ ap tally_of (sym (take_more events i none here))

pub HasRoom-few : (number : ℕ) (tally : Tally) → AreFew number tally → number + 1 < 2 ^ 32 → HasRoom tally
HasRoom-few number tally few small = record {
  tags = omega (arith, few.tags, small);
  commands = omega (arith, few.commands, small);
  blocks = omega (arith, few.blocks, small);
  passes = omega (arith, few.passes, small);
}

pub AreFew-more : (number : ℕ) (before after : Tally) → AreFew number before → Grows before after → AreFew (number + 1) after
AreFew-more number before after few grows = record {
  tags = omega (arith, few.tags, grows.tags);
  commands = omega (arith, few.commands, grows.commands);
  blocks = omega (arith, few.blocks, grows.blocks);
  passes = omega (arith, few.passes, grows.passes);
}
