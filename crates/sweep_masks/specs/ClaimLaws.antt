-- What callers of `sweep_next` need, on any threads: each keeps a list of the tasks that it was answered,
-- and the bits of its seat account for that list. Lists are put together as seats are joined.
use Rattle.std.proofs.Common.{◌≡◌, ◌≢◌, ℕ, ◌+◌, ◌*◌, ◌/◌, ◌%◌, ◌^◌, ◌<◌, ◌≤◌, Bool, List, [], ◌∷◌, ◌++◌, length, cond, arith, subst, sym, ap, ◌∙◌, eq-eqb, ne_eqb}
use mathlib.Core.Logic.{dite}
use Rattle.std.proofs.Math.Decide.{ℕ_discrete, dec_lt}
use Rattle.std.proofs.lemmas.Nat.{div-add-mod'}
use Rattle.std.proofs.lemmas.Nat.Bits.{bit_at-lt, bit_at-pow_other, bit_at-pow_same}
use Rattle.mark_board.specs.Bits.{Apart, Within, bit, union}
use Rattle.mark_board.specs.Board.{BoardState, no_bits}
use Rattle.mark_board.specs.Laws.{bit-gains_other, bit-gains_same, bit-none, bit-united}
use Rattle.sweep_masks.specs.Claims.{Accounts, HasAll, with_task}
use Rattle.mark_board.specs.Bits.{has}
use Rattle.sweep_masks.specs.Gather.{times}
use Rattle.sweep_masks.specs.declared.task.Swept.{Swept}

-- ---- how often a task stands in a list

pub times-append : (k : ℕ) (a b : List Swept) → times k (a ++ b) ≡ times k a + times k b
times-append k [] b = omega arith
times-append k (s ∷ ss) b = let r = times-append k ss b in omega arith

pub times-hit : (k : ℕ) (s : Swept) (ss : List Swept) → s.task ≡ k → times k (s ∷ ss) ≡ 1 + times k ss
times-hit k s ss e = ap (λ (b : Bool). cond b 1 0 + times k ss) (eq-eqb s.task k e)

pub times-miss : (k : ℕ) (s : Swept) (ss : List Swept) → s.task ≢ k → times k (s ∷ ss) ≡ times k ss
times-miss k s ss n = let e : times k (s ∷ ss) ≡ 0 + times k ss = ap (λ (b : Bool). cond b 1 0 + times k ss) (ne_eqb s.task k n) in omega arith

-- One item more.
pub times-push_hit : (k : ℕ) (items : List Swept) (s : Swept) → s.task ≡ k → times k (items ++ s ∷ []) ≡ times k items + 1
times-push_hit k items s e = let t = times-append k items (s ∷ []) in let h = times-hit k s [] e in omega arith

pub times-push_miss : (k : ℕ) (items : List Swept) (s : Swept) → s.task ≢ k → times k (items ++ s ∷ []) ≡ times k items
times-push_miss k items s n = let t = times-append k items (s ∷ []) in let h = times-miss k s [] n in omega arith

-- ---- bits that account for a list

-- A task that is claimed is there, and no other bit changes.
claimed-it : (ws : List ℕ) (k : ℕ) → k / 64 < length ws → has (with_task ws k) k ≡ 1
claimed-it ws k inside =
    let g = bit-gains_same ws (k / 64) (2 ^ (k % 64)) (k % 64) inside in
    let p = bit_at-pow_same (k % 64) in
    let l : has ws k < 2 = bit_at-lt _ (k % 64) in omega arith

claimed-only : (ws : List ℕ) (k j : ℕ) → k / 64 < length ws → j ≢ k → has (with_task ws k) j ≡ has ws j
claimed-only ws k j inside two = dite (ℕ_discrete (j / 64) (k / 64))
    (λ row. dite (ℕ_discrete (j % 64) (k % 64))
    (λ col. absurd (two (sym (div-add-mod' j 64) ∙ (λ i. row i * 64 + col i) ∙ div-add-mod' k 64)))
    (λ other. subst (λ (z : ℕ). bit (with_task ws k) z (j % 64) ≡ bit ws z (j % 64)) (sym row)
    (let g = bit-gains_same ws (k / 64) (2 ^ (k % 64)) (j % 64) inside in let p = bit_at-pow_other (k % 64) (j % 64) other in omega arith)))
    (λ other. bit-gains_other ws (k / 64) (2 ^ (k % 64)) (j / 64) (j % 64) other)

-- A seat that has claimed nothing accounts for the empty list.
pub Accounts-none : (board : BoardState) (ws : List ℕ) → ws ≡ no_bits board → Accounts ws []
Accounts-none board ws is k = sym (ap (λ (z : List ℕ). has z k) is ∙ bit-none _ (k / 64) (k % 64))

-- One task more, of which `sweep_next` says that it was not the seat's before.
pub Accounts-more : (ws ws' : List ℕ) (list : List Swept) (s : Swept) → s.task / 64 < length ws → has ws s.task ≡ 0 → ws' ≡ with_task ws s.task → Accounts ws list → Accounts ws' (list ++ s ∷ [])
Accounts-more ws ws' list s inside none is h k =
    let e : has ws' k ≡ has (with_task ws s.task) k = ap (λ (z : List ℕ). has z k) is in
    let was = h k in
    dite (ℕ_discrete s.task k)
    (λ here.
    let t = times-push_hit k list s here in
    let one : has (with_task ws s.task) k ≡ 1 = subst (λ (z : ℕ). has (with_task ws s.task) z ≡ 1) here (claimed-it ws s.task inside) in
    let z : has ws k ≡ 0 = subst (λ (y : ℕ). has ws y ≡ 0) here none in omega arith)
    (λ two. let t = times-push_miss k list s two in let o = claimed-only ws s.task k inside (λ f. two (sym f)) in omega arith)

-- Two seats joined.
pub Accounts-join : (a b : List ℕ) (xs ys : List Swept) → Apart a b → Accounts a xs → Accounts b ys → Accounts (union a b) (xs ++ ys)
Accounts-join a b xs ys apart h g k =
    let t = times-append k xs ys in let p = h k in let q = g k in
    let d = apart (k / 64) (k % 64) in let u = bit-united a b (k / 64) (k % 64) in omega arith

-- ---- runs of bits

-- Two runs, the second of them in a set that has all that the first is in.
pub HasAll-next : (ws ws' : List ℕ) (a b c : ℕ) → Within ws ws' → HasAll ws a b → HasAll ws' b c → HasAll ws' a c
HasAll-next ws ws' a b c more r s k low high = dite (dec_lt k b)
    (λ h. let e = r k low h in let m = more (k / 64) (k % 64) in let l : has ws' k < 2 = bit_at-lt _ (k % 64) in omega arith)
    (λ n. s k (omega arith) high)

-- Two seats joined.
pub HasAll-join : (a b : List ℕ) (from to : ℕ) → HasAll a from to → HasAll (union a b) from to
HasAll-join a b from to h k low high =
    let r = h k low high in let u = bit-united a b (k / 64) (k % 64) in
    let l : has b k < 2 = bit_at-lt _ (k % 64) in omega arith

-- ---- the end

-- Once the set bits are those that the seat set, and those that it has seen, each task was claimed once.
pub each_once : (tasks : ℕ) (words mine seen : List ℕ) (items : List Swept) → words ≡ mine → words ≡ seen → Accounts mine items → HasAll seen 0 tasks
    → ((k : ℕ) → times k items ≤ 1) × ((k : ℕ) → k < tasks → times k items ≡ 1)
each_once tasks words mine seen items mine_is seen_is accounts run = (
  λ k. let a = accounts k in let l : has mine k < 2 = bit_at-lt _ (k % 64) in omega arith,
  λ k lt. accounts k ∙ ap (λ (z : List ℕ). has z k) (sym mine_is ∙ seen_is) ∙ run k (omega arith) lt,
)
