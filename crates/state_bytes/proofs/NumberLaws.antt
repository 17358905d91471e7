-- The number of the block that starts at an address.
use Rattle.std.proofs.Common.{◌≡◌, ◌∙◌, ◌<◌, ◌≤◌, ◌+◌, ◌-◌, ◌*◌, ◌%◌, ◌==◌, ℕ, zero, suc, false, get_or, refl, sym, eq-eqb, arith}
use Rattle.std.specs.Prelude.{All}
use Rattle.std.proofs.lemmas.Bool.{ne_eqb, true≢false}
use Rattle.heap_model.specs.Blocks.{start_of}
use Rattle.heap_model.specs.Found.{IsFound, blocks_in}
use Rattle.heap_model.specs.Heap.{HeapState, IsSound}
use Rattle.heap_model.specs.declared.block.Kind.{Kind}
use Rattle.heap_model.specs.declared.block.Kind.TheVariants.{Live, Painted, Waiting}
use Rattle.state_bytes.specs.Text.{block_number, kind_number, length_told, block_code, starts_in}
use Rattle.state_bytes.proofs.StartsLaws.{length_in-found, length_in-other, starts_apart, starts_even, starts_in-zero}

-- ---- three lengths in one number

-- Lengths of which at most one is some, and which are whole granules.
record IsOneOf (l w p : ℕ) : Type 0 where
  live : l % 16 ≡ 0
  waiting : w % 16 ≡ 0
  painted : p % 16 ≡ 0
  live_waiting : 0 < l → w ≡ 0
  live_painted : 0 < l → p ≡ 0
  waiting_painted : 0 < w → p ≡ 0

-- What a number tells of each kind.
record AreTold (number l w p : ℕ) : Type 0 where
  live : length_told 1 number ≡ l
  waiting : length_told 2 number ≡ w
  painted : length_told 3 number ≡ p

abbrev in_one : ℕ → ℕ → ℕ → ℕ
in_one l w p = block_code 1 l + (block_code 2 w + block_code 3 p)

told_is : (kind number n : ℕ) → number % 16 ≡ kind → number - kind ≡ n → length_told kind number ≡ n
told_is kind number n is rest = rw (eq-eqb (number % 16) kind is) rest

told_other : (kind number : ℕ) → (number % 16 ≡ kind → ⊥) → length_told kind number ≡ 0
told_other kind number other = rw (ne_eqb (number % 16) kind other) refl

told_nothing : AreTold 0 0 0 0
told_nothing = record {
  live = told_other 1 0 (λ e. omega (arith, e));
  waiting = told_other 2 0 (λ e. omega (arith, e));
  painted = told_other 3 0 (λ e. omega (arith, e));
}

told_live : (number n : ℕ) → number ≡ n + 1 → n % 16 ≡ 0 → AreTold number n 0 0
told_live number n is even = record {
  live = told_is 1 number n (omega (arith, is, even)) (omega (arith, is));
  waiting = told_other 2 number (λ e. omega (arith, is, even, e));
  painted = told_other 3 number (λ e. omega (arith, is, even, e));
}

told_waiting : (number n : ℕ) → number ≡ n + 2 → n % 16 ≡ 0 → AreTold number 0 n 0
told_waiting number n is even = record {
  live = told_other 1 number (λ e. omega (arith, is, even, e));
  waiting = told_is 2 number n (omega (arith, is, even)) (omega (arith, is));
  painted = told_other 3 number (λ e. omega (arith, is, even, e));
}

told_painted : (number n : ℕ) → number ≡ n + 3 → n % 16 ≡ 0 → AreTold number 0 0 n
told_painted number n is even = record {
  live = told_other 1 number (λ e. omega (arith, is, even, e));
  waiting = told_other 2 number (λ e. omega (arith, is, even, e));
  painted = told_is 3 number n (omega (arith, is, even)) (omega (arith, is));
}

told : (l w p : ℕ) → IsOneOf l w p → AreTold (in_one l w p) l w p
told zero zero zero one = told_nothing
told zero zero (suc p) one = told_painted (in_one 0 0 (suc p)) (suc p) (omega arith) one.painted
told zero (suc w) zero one = told_waiting (in_one 0 (suc w) 0) (suc w) (omega arith) one.waiting
told zero (suc w) (suc p) one = absurd (omega (arith, one.waiting_painted (omega arith)))
told (suc l) zero zero one = told_live (in_one (suc l) 0 0) (suc l) (omega arith) one.live
told (suc l) zero (suc p) one = absurd (omega (arith, one.live_painted (omega arith)))
told (suc l) (suc w) p one = absurd (omega (arith, one.live_waiting (omega arith)))

-- ---- of a heap

is_one : (s : HeapState) (a : ℕ) → IsSound s → IsOneOf (starts_in s.live a) (starts_in s.waiting a) (starts_in s.painted a)
is_one s a sound = record {
  live = starts_even s s.live a sound.live_inside;
  waiting = starts_even s s.waiting a sound.waiting_inside;
  painted = starts_even s s.painted a sound.painted_inside;
  live_waiting = λ some. starts_apart s.live s.waiting a sound.apart_waiting some;
  live_painted = λ some. starts_apart s.live s.painted a sound.apart_painted some;
  waiting_painted = λ some. starts_apart s.waiting s.painted a sound.apart_held some;
}

-- The number tells the length of each kind.
pub length_of_number : (s : HeapState) (a : ℕ) (kind : Kind) → IsSound s → length_told (kind_number kind) (block_number s a) ≡ starts_in (blocks_in s kind) a
length_of_number s a Live sound = (told (starts_in s.live a) (starts_in s.waiting a) (starts_in s.painted a) (is_one s a sound)).live
length_of_number s a Waiting sound = (told (starts_in s.live a) (starts_in s.waiting a) (starts_in s.painted a) (is_one s a sound)).waiting
length_of_number s a Painted sound = (told (starts_in s.live a) (starts_in s.waiting a) (starts_in s.painted a) (is_one s a sound)).painted

numbered_limit : (kind n : ℕ) → block_code kind n ≤ n + kind
numbered_limit kind zero = omega arith
numbered_limit kind (suc n) = omega arith

numbered_some : (kind n : ℕ) → 0 < n → block_code kind n ≡ n + kind
numbered_some kind zero some = absurd (omega (arith, some))
numbered_some kind (suc n) some = refl

-- It is not large.
pub number_limit : (s : HeapState) (a limit : ℕ) → starts_in s.live a ≤ limit → starts_in s.waiting a ≤ limit → starts_in s.painted a ≤ limit → block_number s a ≤ 3 * limit + 6
number_limit s a limit live waiting painted =
    omega (arith, live, waiting, painted, numbered_limit 1 (starts_in s.live a), numbered_limit 2 (starts_in s.waiting a), numbered_limit 3 (starts_in s.painted a))

number_of : (s : HeapState) (a l w p : ℕ) → starts_in s.live a ≡ l → starts_in s.waiting a ≡ w → starts_in s.painted a ≡ p → block_number s a ≡ in_one l w p
number_of s a l w p live waiting painted = λ i. in_one (live i) (waiting i) (painted i)

-- ---- what is found

-- No block starts at the address.
pub number-none : (s : HeapState) (a : ℕ) → ((kind : Kind) → All (λ b. (start_of b == a) ≡ false) (blocks_in s kind)) → block_number s a ≡ 0
number-none s a none =
    let zero_in = λ (kind : Kind). starts_in-zero (blocks_in s kind) a (λ k d lt same. true≢false (sym (eq-eqb (start_of (get_or (blocks_in s kind) k d)) a same) ∙ none kind k d lt)) in
    number_of s a 0 0 0 (zero_in Live) (zero_in Waiting) (zero_in Painted)

-- One that starts there is told.
pub number-found : (s : HeapState) (a base top : ℕ) (kind : Kind) → IsSound s → IsFound s a base top kind → base ≡ a → block_number s a ≡ (top - a) + kind_number kind
number-found s a base top Live sound found at =
    let here = length_in-found s a base top Live sound found at in
    number_of s a (top - a) 0 0 here (length_in-other s a base top Live Waiting sound found (λ at same. absurd cc)) (length_in-other s a base top Live Painted sound found (λ at same. absurd cc))
    ∙ omega (arith, numbered_some 1 (top - a) (omega (arith, found.before, found.from, at)))
number-found s a base top Waiting sound found at =
    let here = length_in-found s a base top Waiting sound found at in
    number_of s a 0 (top - a) 0 (length_in-other s a base top Waiting Live sound found (λ at same. absurd cc)) here (length_in-other s a base top Waiting Painted sound found (λ at same. absurd cc))
    ∙ omega (arith, numbered_some 2 (top - a) (omega (arith, found.before, found.from, at)))
number-found s a base top Painted sound found at =
    let here = length_in-found s a base top Painted sound found at in
    number_of s a 0 0 (top - a) (length_in-other s a base top Painted Live sound found (λ at same. absurd cc)) (length_in-other s a base top Painted Waiting sound found (λ at same. absurd cc)) here
    ∙ omega (arith, numbered_some 3 (top - a) (omega (arith, found.before, found.from, at)))
