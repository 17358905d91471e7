-- What a line up to the heap line is read as.
use Rattle.std.proofs.Common.{◌≡◌, ℕ, Bool, true, false, cond, IsTrue, List, [], ◌∷◌, Option, Some, None, Result, Ok, Err, codes, bytes_eq, refl, sym, ap, subst, ◌∙◌}
use Rattle.std.specs.Option.{ok_or}
use Rattle.trace_text.specs.declared.fault.TraceFault.{TraceFault}
use Rattle.trace_text.specs.declared.fault.TraceFault.TheVariants.{NoHeap, BadHeap}
use Rattle.trace_text.specs.Grammar.{BeginsAsHeap, IsHeapLine}
use Rattle.trace_text.specs.Heap.{IsHeap}
use Rattle.trace_text.specs.Lines.{is_passed_over}
use Rattle.trace_text.specs.Reading.{◌>>=◌, heap_at, heap_from, heap_of, is_heap, number_of}
use Rattle.tag_memory.specs.Extent.{is_base, is_size}
use Rattle.trace_text.proofs.Digits.{and_true}
use Rattle.trace_text.proofs.Operands.{IsNumber-read, number_of-IsNumber, same_bytes, when}

-- ---- base and pages

IsHeap-read : (base pages : ℕ) → is_heap base pages ≡ true → IsHeap base pages
IsHeap-read base pages e = let (size, place) = and_true (is_size pages) (is_base base pages) e in record { size = size; place = place }

is_heap-IsHeap : (base pages : ℕ) → IsHeap base pages → is_heap base pages ≡ true
is_heap-IsHeap base pages h = rw (h.size, h.place) refl

-- ---- the words after `heap`

heap_of-read : (words : List (List ℕ)) (heap : ℕ × ℕ) → heap_of words ≡ Some heap → IsHeapLine (codes "heap" ∷ words) heap.0 heap.1
unfolding heap_of
heap_of-read [] heap e = absurd cc
heap_of-read (b ∷ []) heap e = absurd cc
heap_of-read (b ∷ p ∷ []) heap e = go (number_of b) (number_of p) refl refl e where
  go : (base pages : Option ℕ) → number_of b ≡ base → number_of p ≡ pages → heap_from base pages ≡ Some heap → IsHeapLine (codes "heap" ∷ b ∷ p ∷ []) heap.0 heap.1
  go (Some base) (Some pages) base_is pages_is h =
      let (can_be, same) = when (is_heap base pages) (base, pages) heap h in
      subst (λ (x : ℕ × ℕ). IsHeapLine (codes "heap" ∷ b ∷ p ∷ []) x.0 x.1) same (b, p, refl, IsNumber-read b base base_is, IsNumber-read p pages pages_is, IsHeap-read base pages can_be)
  go (Some base) None base_is pages_is h = absurd cc
  go None pages base_is pages_is h = absurd cc
heap_of-read (b ∷ p ∷ q ∷ ws) heap e = absurd cc

heap_of-is : (words : List (List ℕ)) (base pages : ℕ) → IsHeapLine (codes "heap" ∷ words) base pages → heap_of words ≡ Some (base, pages)
unfolding heap_of
heap_of-is words base pages (first, second, words_are, is_first, is_second, is) =
    let same : words ≡ first ∷ second ∷ [] = cc in
    rw (same, number_of-IsNumber first base is_first, number_of-IsNumber second pages is_second, is_heap-IsHeap base pages is) refl

-- ---- the line

-- what is wrong with a line that isn't passed over and is no heap line
pub data HeapFault (number : ℕ) (words : List (List ℕ)) (fault : TraceFault) : Type 0 where
  other_word : ¬ IsTrue (is_passed_over words) → ¬ BeginsAsHeap words → NoHeap number ≡ fault → HeapFault number words fault
  bad_heap : BeginsAsHeap words → ((base pages : ℕ) → ¬ IsHeapLine words base pages) → BadHeap number ≡ fault → HeapFault number words fault

abbrev pub HeapRead : ℕ → List (List ℕ) → Result (Option (ℕ × ℕ)) TraceFault → Type 0
HeapRead number words (Ok None) = IsTrue (is_passed_over words)
HeapRead number words (Ok (Some heap)) = IsHeapLine words heap.0 heap.1
HeapRead number words (Err fault) = HeapFault number words fault

pub heap_at-read : (number : ℕ) (words : List (List ℕ)) → HeapRead number words (heap_at number words)
unfolding heap_at
heap_at-read number [] = refl
heap_at-read number (name ∷ words) = go (is_passed_over (name ∷ words)) (bytes_eq name (codes "heap")) (heap_of words) refl refl refl where
  go : (passed is : Bool) (found : Option (ℕ × ℕ)) → is_passed_over (name ∷ words) ≡ passed → bytes_eq name (codes "heap") ≡ is → heap_of words ≡ found
      → HeapRead number (name ∷ words) (cond passed (Ok None) (cond is (ok_or found (BadHeap number) >>= λ heap. Ok (Some heap)) (Err (NoHeap number))))
  go true is found over e f = over
  go false true (Some heap) over e f = subst (λ w. IsHeapLine (w ∷ words) heap.0 heap.1) (sym (same_bytes name (codes "heap") e)) (heap_of-read words heap f)
  go false true None over e f =
      let same : name ≡ codes "heap" = same_bytes name (codes "heap") e in
      bad_heap (words, ap (λ w. w ∷ words) same) (λ base pages h. let some = heap_of-is words base pages (subst (λ w. IsHeapLine (w ∷ words) base pages) same h) in absurd cc) refl
  go false false found over e f = other_word (λ t. absurd cc) other refl where
    other : ¬ BeginsAsHeap (name ∷ words)
    other (rest, words_are) =
        let same : name ≡ codes "heap" = cc in
        let is : bytes_eq name (codes "heap") ≡ true = ap (λ w. bytes_eq w (codes "heap")) same in
        cc

-- ---- and the other way round

pub heap_at-passed : (number : ℕ) (words : List (List ℕ)) → IsTrue (is_passed_over words) → heap_at number words ≡ Ok None
unfolding heap_at
heap_at-passed number [] over = refl
heap_at-passed number (name ∷ words) over = rw over refl

pub heap_at-IsHeapLine : (number : ℕ) (words : List (List ℕ)) (base pages : ℕ) → IsHeapLine words base pages → heap_at number words ≡ Ok (Some (base, pages))
unfolding heap_at
heap_at-IsHeapLine number words base pages (first, second, words_are, is_first, is_second, is) =
    rw (words_are, heap_of-is (first ∷ second ∷ []) base pages (first, second, refl, is_first, is_second, is)) refl

begins_counts : (words : List (List ℕ)) → BeginsAsHeap words → ¬ IsTrue (is_passed_over words)
begins_counts words (rest, words_are) over = let counts = ap is_passed_over words_are in cc

pub heap_at-fault : (number : ℕ) (words : List (List ℕ)) (fault : TraceFault) → HeapFault number words fault → heap_at number words ≡ Err fault
heap_at-fault number words fault h = go (heap_at number words) (heap_at-read number words) h where
  go : (read : Result (Option (ℕ × ℕ)) TraceFault) → HeapRead number words read → HeapFault number words fault → read ≡ Err fault
  go (Ok None) over (other_word counts other is) = absurd (counts over)
  go (Ok None) over (bad_heap begins bad is) = absurd (begins_counts words begins over)
  go (Ok (Some heap)) (first, second, words_are, is_first, is_second, at) (other_word counts other is) = absurd (other (first ∷ second ∷ [], words_are))
  go (Ok (Some heap)) line (bad_heap begins bad is) = absurd (bad heap.0 heap.1 line)
  go (Err read) (other_word counts other is) (other_word counts' other' is') = ap Err (sym is ∙ is')
  go (Err read) (other_word counts other is) (bad_heap begins bad is') = absurd (other begins)
  go (Err read) (bad_heap begins bad is) (other_word counts other is') = absurd (other begins)
  go (Err read) (bad_heap begins bad is) (bad_heap begins' bad' is') = ap Err (sym is ∙ is')
