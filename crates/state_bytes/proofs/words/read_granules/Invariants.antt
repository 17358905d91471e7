-- The granules so far are read, and the others are zero.
use Rattle.std.proofs.Common.{◌≡◌, ◌<◌, ◌≤◌, ℕ, false, get_or, length}
use Rattle.state_bytes.specs.Reading.{IsReadAt}
use Rattle.state_bytes.proofs.words.read_granules.Given as goal

abbrev pub invariant-loop-i : goal.invariant-loop-i
invariant-loop-i l = record {
  count : length l.memory.granules ≡ length l.fn.memory.granules;
  pages : length l.memory.dirty ≡ length l.fn.memory.dirty;
  base : l.memory.base ≡ l.fn.memory.base;
  rest : (k : ℕ) → l.i ≤ k → get_or l.memory.granules k (0, false) ≡ (0, false);
  read : (k : ℕ) → k < l.i → IsReadAt l.bytes k (get_or l.memory.granules k (0, false));
}
