use Rattle.std.proofs.Common.{◌≡◌, ℕ, ◌<◌, length, get_or}
use Rattle.std.specs.Slots.{slots_items, slots_len}
use Rattle.mark_board.proofs.board.copied.Given as goal

abbrev pub invariant-loop-i : goal.invariant-loop-i
invariant-loop-i l = (length l.row.items ≡ slots_len l.closed.words) × ((k : ℕ) → k < l.i → get_or l.row.items k 0 ≡ get_or (slots_items l.closed.words) k 0)
