-- What the crates above need of the words: they name one subcommand and one text.
use Rattle.std.specs.Prelude.{◌≡◌, ℕ, List, Some, codes, pos}
use Rattle.std.proofs.Common.{◌∙◌, ap, inl, inr, subst, sym, true, true≢false}
use Rattle.std.specs.Str.Parse.{signed_digits_value}
use Rattle.clap.specs.Words.{Row, Text, first_of}
use Rattle.command_line.specs.NumberLaws.{image_given}
use Rattle.command_line.specs.declared.asked.Options.{Options}
use Rattle.command_line.specs.Asked.{AreWithinLimits, HasNumber, HasOptions, Names, NamesNothing, NamesRun, NamesStates, NamesWord, with_run}

-- The words name one subcommand, with one list of entries.
pub Names-unique : (words : List Text) (m n : Text) (a b : List Row) → Names words m a → Names words n b → (m ≡ n) × (a ≡ b)
Names-unique words m n a b p q =
    let both : Some (m, a) ≡ Some (n, b) = sym p.subcommand ∙ q.subcommand in
    let pairs : (m, a) ≡ (n, b) = cc in
    (ap (λ (x : Text × List Row). x.0) pairs, ap (λ (x : Text × List Row). x.1) pairs)

-- The words name one text.
pub NamesWord-unique : (words : List Text) (a b : Text) → NamesWord words a → NamesWord words b → a ≡ b
NamesWord-unique words a b p q =
    let rows : p.rows ≡ q.rows = (Names-unique words _ _ _ _ p.names q.names).1 in
    let texts : Some a ≡ Some b = sym p.value ∙ (ap (first_of (codes "hex")) rows ∙ q.value) in
    cc

-- Words that name `word` don't name `run`.
pub NamesWord-run : (words : List Text) (hex : Text) → NamesWord words hex → (options : Options) → NamesRun words options → ⊥
NamesWord-run words hex p options q = let same : codes "word" ≡ codes "run" = (Names-unique words _ _ _ _ p.names q.names).0 in absurd cc

-- An entry has one number.
pub HasNumber-unique : (id : Text) (least most : ℕ) (rows : List Row) (m n : ℕ) → HasNumber id least most rows m → HasNumber id least most rows n → m ≡ n
HasNumber-unique id least most rows m n p q =
    let texts : Some p.text ≡ Some q.text = sym p.entry ∙ q.entry in
    let same : p.text ≡ q.text = cc in
    let numbers : pos m ≡ pos n = sym p.value ∙ (ap (λ text. signed_digits_value 10 text) same ∙ q.value) in
    cc

-- The words name one list of options.
pub NamesRun-unique : (words : List Text) (a b : Options) → NamesRun words a → NamesRun words b → a ≡ b
NamesRun-unique words a b p q =
    let rows : p.rows ≡ q.rows = (Names-unique words _ _ _ _ p.names q.names).1 in
    let own : HasOptions p.rows b = subst (λ r. HasOptions r b) (sym rows) q.set in
    let image : a.image ≡ b.image = elim (image_given words p.rows p.names.taken p.names.subcommand) [
      | inl e ↦ p.set.image e ∙ sym (own.image e)
      | inr e ↦ p.set.no_image e ∙ sym (own.no_image e)
    ] in
    let workers = HasNumber-unique _ _ _ _ _ _ p.set.workers own.workers in
    let pages = HasNumber-unique _ _ _ _ _ _ p.set.pages_per_task own.pages_per_task in
    λ i. record { image = image i; workers = workers i; pages_per_task = pages i }

-- The numbers that they name lie in their limits.
pub NamesRun-limits : (words : List Text) (options : Options) → NamesRun words options → AreWithinLimits options
NamesRun-limits words options p = record {
  worker_or_more = p.set.workers.least_or_more;
  workers_or_less = p.set.workers.most_or_less;
  page_or_more = p.set.pages_per_task.least_or_more;
  pages_or_less = p.set.pages_per_task.most_or_less;
}

-- Words that ask for an image, for a word's line or for nothing don't ask for states.
pub NamesStates-image : (words : List Text) (options other : Options) → options.image ≡ true → ((o : Options) → NamesRun (with_run words) o → o ≡ options) → NamesStates words other → ⊥
NamesStates-image words options other image only names =
    true≢false (sym image ∙ (ap (λ (o : Options). o.image) (sym (only other names.run)) ∙ names.no_image))

pub NamesStates-word : (words : List Text) (hex : Text) (options : Options) → NamesWord (with_run words) hex → NamesStates words options → ⊥
NamesStates-word words hex options word names = NamesWord-run (with_run words) hex word options names.run

pub NamesStates-nothing : (words : List Text) (options : Options) → NamesNothing (with_run words) → NamesStates words options → ⊥
NamesStates-nothing words options nothing names = nothing.run options names.run

-- The numbers that they name lie in their limits.
pub NamesStates-limits : (words : List Text) (options : Options) → NamesStates words options → AreWithinLimits options
NamesStates-limits words options names = NamesRun-limits (with_run words) options names.run
