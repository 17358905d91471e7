-- What is written into a room for bytes, piece by piece.
use Rattle.std.proofs.Common.{◌≡◌, ◌∙◌, ◌≤◌, ◌+◌, ◌*◌, ℕ, Bool, List, [], ◌∷◌, ◌++◌, length, drop, take, refl, sym, ap, append_assoc, length-append, add-one, arith}
use Rattle.std.proofs.lemmas.List.{append-nil, drop-drop, drop_at, length-drop, length-take-le, take-append-drop, take_all, take_at}
use Rattle.std.proofs.lemmas.Slice.{put_mid-paste}
use borrow.Rule.Slice.PartMut.{put_mid}
use Rattle.byteorder.specs.Endian.{little_bytes}
use Rattle.heap_model.specs.Heap.{HeapState}
use Rattle.tag_memory.specs.Cells.{Cell, register_at}
use Rattle.state_bytes.specs.Text.{block_number, flag_byte, granule_text, head_text, register_text, texts_below}
use Rattle.state_bytes.specs.Writing.{IsWritten}
use Rattle.state_bytes.proofs.SameTexts.{length_little}

nothing_behind : (l : List ℕ) (n : ℕ) → length l ≡ n → drop n l ≡ []
nothing_behind l n long = ap (drop n) (sym (append-nil l)) ∙ drop_at l [] n long

-- What a call wrote into a part of a room.
pub put_is : (old piece part : List ℕ) (at n k : ℕ) → length piece ≡ n → k ≡ n → at + n ≤ length old → part ≡ piece ++ drop n (take k (drop at old))
    → put_mid at k old part ≡ take at old ++ (piece ++ drop (at + length piece) old)
put_is old piece part at n k long is inside made =
    let short : length (take k (drop at old)) ≡ n = length-take-le k (drop at old) (omega (arith, is, inside, length-drop at old)) ∙ is in
    let whole : part ≡ piece = made ∙ (ap (λ (l : List ℕ). piece ++ l) (nothing_behind (take k (drop at old)) n short) ∙ append-nil piece) in
    put_mid-paste at k old part piece (length piece) whole (omega (arith, long, is)) refl
    ∙ (append_assoc (take at old) (take (length piece) piece) (drop (at + length piece) old)
    ∙ ap (λ (l : List ℕ). take at old ++ (l ++ drop (at + length piece) old)) (take_all (length piece) piece (omega arith)))

-- The room stays as long.
pub written_long : (old new piece : List ℕ) (at : ℕ) → at + length piece ≤ length old → IsWritten old at piece new → length new ≡ length old
written_long old new piece at inside is =
    ap (λ (l : List ℕ). length l) is
    ∙ omega (
      arith,
      inside,
      length-append (take at old) (piece ++ drop (at + length piece) old),
      length-append piece (drop (at + length piece) old),
      length-take-le at old (omega (arith, inside)),
      length-drop (at + length piece) old,
    )

pub written_none : (old : List ℕ) (at : ℕ) → IsWritten old at [] old
written_none old at = sym (ap (λ (k : ℕ). take at old ++ drop k old) (omega arith) ∙ take-append-drop at old)

pub written_begin : (text : ℕ → List ℕ) (old : List ℕ) (at : ℕ) → IsWritten old at (texts_below text 0) old
unfolding texts_below
written_begin text old at = written_none old at

-- A piece behind a piece.
pub written_two : (a b c s t : List ℕ) (at next : ℕ) → at + length s ≤ length a → next ≡ at + length s → IsWritten a at s b → IsWritten b next t c → IsWritten a at (s ++ t) c
written_two a b c s t at next inside is first second =
    let p = take at a in
    let q = drop (at + length s) a in
    let long : length (p ++ s) ≡ next = length-append p s ∙ omega (arith, is, length-take-le at a (omega (arith, inside))) in
    let front : b ≡ (p ++ s) ++ q = first ∙ sym (append_assoc p s q) in
    let before : take next b ≡ p ++ s = ap (take next) front ∙ take_at (p ++ s) q next long in
    let behind : drop next b ≡ q = ap (drop next) front ∙ drop_at (p ++ s) q next long in
    let rest : drop (next + length t) b ≡ drop (at + length (s ++ t)) a =
    sym (drop-drop (length t) next b)
    ∙ (ap (drop (length t)) behind
    ∙ (drop-drop (length t) (at + length s) a ∙ ap (λ (k : ℕ). drop k a) (omega (arith, length-append s t)))) in
    second
    ∙ ((λ j. before j ++ (t ++ rest j))
    ∙ (append_assoc p s (t ++ drop (at + length (s ++ t)) a) ∙ ap (λ (l : List ℕ). p ++ l) (sym (append_assoc s t (drop (at + length (s ++ t)) a)))))

-- Three of them.
written_three : (a b c d s t u : List ℕ) (at m n : ℕ) → at + length s + length t + length u ≤ length a → m ≡ at + length s → n ≡ m + length t
    → IsWritten a at s b → IsWritten b m t c → IsWritten c n u d → IsWritten a at (s ++ (t ++ u)) d
written_three a b c d s t u at m n inside is_m is_n first second third =
    let long = written_long a b s at (omega (arith, inside)) first in
    written_two a b d s (t ++ u) at m (omega (arith, inside)) is_m first (written_two b c d t u m n (omega (arith, inside, long, is_m)) is_n second third)

pub head_written : (a b c d : List ℕ) (base pages : ℕ) (is_open : Bool) → 13 ≤ length a → IsWritten a 0 (little_bytes 8 base) b → IsWritten b 8 (little_bytes 4 pages) c
    → IsWritten c 12 (flag_byte is_open ∷ []) d → IsWritten a 0 (head_text base pages is_open) d
unfolding head_text
head_written a b c d base pages is_open inside first second third =
    let s = length_little 8 base in
    let t = length_little 4 pages in
    written_three a b c d (little_bytes 8 base) (little_bytes 4 pages) (flag_byte is_open ∷ []) 0 8 12 (omega (arith, inside, s, t)) (omega (arith, s)) (omega (arith, t)) first second third

pub granule_written : (heap : HeapState) (i bits number : ℕ) (tag : Bool) (a b c d : List ℕ) (at : ℕ) → at + 21 ≤ length a → number ≡ block_number heap (heap.base + 16 * i)
    → IsWritten a at (little_bytes 16 bits) b → IsWritten b (at + 16) (flag_byte tag ∷ []) c → IsWritten c (at + 17) (little_bytes 4 number) d → IsWritten a at (granule_text heap i (bits, tag)) d
unfolding granule_text
granule_written heap i bits number tag a b c d at inside is first second third =
    let s = length_little 16 bits in
    let u = length_little 4 number in
    rw (sym is) (written_three a b c d (little_bytes 16 bits) (flag_byte tag ∷ []) (little_bytes 4 number) at (at + 16) (at + 17) (omega (arith, inside, s, u)) (omega (arith, s)) (omega arith) first second third)

pub register_written : (registers : List Cell) (r : ℕ) (cell : Cell) (a b c : List ℕ) (at : ℕ) → at + 17 ≤ length a → cell ≡ register_at registers r
    → IsWritten a at (little_bytes 16 cell.0.bits) b → IsWritten b (at + 16) (flag_byte cell.1 ∷ []) c → IsWritten a at (register_text registers r) c
unfolding register_text
register_written registers r cell a b c at inside is first second =
    let s = length_little 16 cell.0.bits in
    rw (sym is) (written_two a b c (little_bytes 16 cell.0.bits) (flag_byte cell.1 ∷ []) at (at + 16) (omega (arith, inside, s)) (omega (arith, s)) first second)

-- One more of many pieces.
pub written_more : (a b c : List ℕ) (text : ℕ → List ℕ) (piece : List ℕ) (at next i : ℕ) → at + length (texts_below text i) ≤ length a → next ≡ at + length (texts_below text i)
    → piece ≡ text i → IsWritten a at (texts_below text i) b → IsWritten b next piece c → IsWritten a at (texts_below text (i + 1)) c
unfolding texts_below
written_more a b c text piece at next i inside is same first second =
    let both = written_two a b c (texts_below text i) piece at next inside is first second in
    rw add-one (rw (sym same) both)

-- A room that is written from its start to its end.
pub written_whole : (old new text : List ℕ) → length old ≡ length text → IsWritten old 0 text new → new ≡ text
written_whole old new text same is = is ∙ (ap (λ (l : List ℕ). text ++ l) (nothing_behind old (0 + length text) (omega (arith, same))) ∙ append-nil text)
