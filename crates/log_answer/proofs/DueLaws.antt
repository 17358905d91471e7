-- Lines of words that are due, after what stands.
use Rattle.std.proofs.Common.{◌≡◌, ◌++◌, ◌∷◌, ◌∙◌, ℕ, List, [], ap, length, min, take}
use Rattle.std.specs.List.{concat}
use Rattle.std.specs.Prelude.{codes, flat_map}
use Rattle.std.proofs.Math.Nat.{min_comm}
use Rattle.std.proofs.lemmas.List.{append_assoc, take_min}
use Rattle.heap_log.specs.declared.due.DueWord.{DueWord}
use Rattle.log_answer.specs.Text.{counted_text, due_line, due_text}
use Rattle.log_answer.specs.declared.lines.Noun.TheVariants as noun

-- How many words are due.
abbrev pub count_line : List DueWord → List ℕ
count_line words = concat (counted_text (length words) noun.Word ∷ codes " due\n" ∷ [])

pub due_text-whole : (before mid new : List ℕ) (words : List DueWord) (told : ℕ) → told ≡ min (length words) 100
    → mid ≡ before ++ flat_map due_line (take told words) → new ≡ mid ++ count_line words → new ≡ before ++ due_text words
due_text-whole before mid new words told few lines is =
    let same : take told words ≡ take 100 words = ap (λ n. take n words) (few ∙ min_comm (length words) 100) ∙ take_min 100 words in
    is ∙ ap (λ m. m ++ count_line words) (lines ∙ ap (λ (ws : List DueWord). before ++ flat_map due_line ws) same)
    ∙ append_assoc before (flat_map due_line (take 100 words)) (count_line words)
