-- The options of `run`: where clap takes the words, each has its entry. That of a number is a decimal number in
-- its limits, and what clap reads of it is this number; that of the flag is `true` or `false`.
use Rattle.std.proofs.Common.{◌≡◌, ◌∙◌, ◌<◌, ◌==◌, ◌^◌, ◌||◌, ◌⊎◌, inl, inr, ℕ, Bool, cond, codes, true, false, refl, sym, ap, subst, true≢false, arith, List, [], ◌∷◌, drop, length, Option, Some, None, Result, Ok, Err}
use Rattle.std.proofs.lemmas.Int.{ints}
use Rattle.std.specs.Prelude.{IsSome, pos, unwrap_or}
use Rattle.std.specs.Str.Parse.{ExplainsUnsignedError, HasUnsignedDigitsIfOk, ParsesUnsigned, starts_with_minus}
use Rattle.clap.specs.declared.parser.matches.Found.{Found}
use Rattle.clap.proofs.WalkLemmas.{one_text-rows}
use Rattle.clap.proofs.ValueTestLemmas.{accepts-Accepts}
use Rattle.clap.specs.Matches.{ReadsOne}
use Rattle.std.specs.Str.{bytes_eq}
use Rattle.std.proofs.lemmas.Slice.Eq.{bytes_eq-Decides}
use Rattle.clap.specs.Facts.{unwrap_or_range}
use Rattle.clap.specs.Kinds.{range_kinds}
use Rattle.clap.specs.Walk.{most_values, values_or_missing}
use Rattle.clap.specs.Simple.{Shape, built, filled}
use Rattle.clap.specs.Words.{Row, Rule, Text, fault_of, one_of, one_text, rows_of, subcommand_of, without_minus}
use Rattle.clap.specs.declared.builder.value_parser.ValueParser.TheVariants.{Signed}
use Rattle.command_line.specs.Asked.{AreAccepted, GivesNumber, HasNumber, cut_rule, image_rule, subcommand_named, tool_app, workers_rule}
use Rattle.command_line.specs.ValueLaws.{Contains, Each, IsGiven, IsOnly, IsOption, entered_at, given_at, no_text, some_value}

-- ---- the entries

abbrev HasRule : Rule → Shape → Type 0
HasRule rule s = s.name ≡ codes "run" → Each (IsOnly rule) s.rules × Contains rule s.rules

-- Another rule has another id.
another : {X : Type 0} → false ≡ true → X
another e = absurd (true≢false (sym e))

-- Of the three subcommands, `run`, `word` and `help`, the first has the three options, and each once.
has_image : Each (HasRule (filled image_rule)) (built tool_app).subs
has_image = (λ e. ((λ e. refl, (another, (another, (another, tt)))), inl refl), (λ e. absurd cc, (λ e. absurd cc, tt)))

has_workers : Each (HasRule (filled workers_rule)) (built tool_app).subs
has_workers = (λ e. ((another, (λ e. refl, (another, (another, tt)))), inr (inl refl)), (λ e. absurd cc, (λ e. absurd cc, tt)))

has_cut : Each (HasRule (filled cut_rule)) (built tool_app).subs
has_cut = (λ e. ((another, (another, (λ e. refl, (another, tt)))), inr (inr (inl refl))), (λ e. absurd cc, (λ e. absurd cc, tt)))

-- A use of an option that takes one value has one.
some_given : (rule : Rule) → (unwrap_or_range rule.range).start_inclusive ≡ 1 → (values : List Text)
    → range_kinds (unwrap_or_range rule.range).start_inclusive (most_values rule) (length values) ≡ [] → values_or_missing rule values ≡ [] → ⊥
some_given rule one [] range none = some_value (unwrap_or_range rule.range).start_inclusive (most_values rule) one range
some_given rule one (v ∷ vs) range none = no_text v vs none

is_workers : IsOption (filled workers_rule)
is_workers = record { uses = λ id how values rows. refl; checks = λ again values rows. refl; some = some_given (filled workers_rule) refl; own = refl; default = codes "1"; defaults = refl }

is_cut : IsOption (filled cut_rule)
is_cut = record { uses = λ id how values rows. refl; checks = λ again values rows. refl; some = some_given (filled cut_rule) refl; own = refl; default = codes "16"; defaults = refl }

-- A flag that is given stands for the value `true`.
is_image : IsOption (filled image_rule)
is_image = record { uses = λ id how values rows. refl; checks = λ again values rows. refl; some = some_stands; own = refl; default = codes "false"; defaults = refl }
  where
    some_stands : (values : List Text) → range_kinds 0 0 (length values) ≡ [] → values_or_missing (filled image_rule) values ≡ [] → ⊥
    some_stands [] range none = no_text _ _ none
    some_stands (v ∷ vs) range none = no_text v vs none

given : (rule : Rule) (words : List Text) (rows : List Row) → IsOption rule → Each (HasRule rule) (built tool_app).subs → fault_of tool_app words ≡ []
    → subcommand_of tool_app words ≡ Some (codes "run", rows) → IsGiven rule rows
given rule words rows is each taken sub =
    let level = entered_at tool_app words (codes "run") rows (HasRule rule) taken sub each in
    let rules = level.holds level.named in
    subst (IsGiven rule) level.rows_are (given_at rule level.shape is rules.0 rules.1 level.words level.fault)

pub GivesNumber-workers : (words : List Text) (rows : List Row) → AreAccepted words → subcommand_named words ≡ Some (codes "run", rows) → GivesNumber (codes "workers") 1 64 rows
unfolding AreAccepted subcommand_named
GivesNumber-workers words rows taken sub =
    let entry = given (filled workers_rule) words rows is_workers has_workers taken sub in
    record { text = entry.text; entry = entry.entry; read = entry.read; within = accepts-Accepts false (Signed (pos 1) (pos 64)) entry.text entry.passes }

pub GivesNumber-cut : (words : List Text) (rows : List Row) → AreAccepted words → subcommand_named words ≡ Some (codes "run", rows) → GivesNumber (codes "cut") 1 256 rows
unfolding AreAccepted subcommand_named
GivesNumber-cut words rows taken sub =
    let entry = given (filled cut_rule) words rows is_cut has_cut taken sub in
    record { text = entry.text; entry = entry.entry; read = entry.read; within = accepts-Accepts false (Signed (pos 1) (pos 256)) entry.text entry.passes }

-- The entry of the flag says `true` or `false`.
pub image_given : (words : List Text) (rows : List Row) → AreAccepted words → subcommand_named words ≡ Some (codes "run", rows)
    → (one_of (codes "image") rows ≡ Some (codes "true")) ⊎ (one_of (codes "image") rows ≡ Some (codes "false"))
unfolding AreAccepted subcommand_named
image_given words rows taken sub =
    let entry = given (filled image_rule) words rows is_image has_image taken sub in
    go entry.text entry.read (bytes_eq entry.text (codes "true")) refl (bytes_eq entry.text (codes "false")) refl entry.passes
  where
    go : (text : Text) → one_of (codes "image") rows ≡ Some text → (t : Bool) → bytes_eq text (codes "true") ≡ t → (f : Bool) → bytes_eq text (codes "false") ≡ f → (t || f) ≡ true
        → (one_of (codes "image") rows ≡ Some (codes "true")) ⊎ (one_of (codes "image") rows ≡ Some (codes "false"))
    go text read true is f other e = inl (read ∙ ap (λ x. Some x) ((bytes_eq-Decides text (codes "true")).0 is))
    go text read false is true other e = inr (read ∙ ap (λ x. Some x) ((bytes_eq-Decides text (codes "false")).0 other))
    go text read false is false other e = absurd (true≢false (sym e))

-- ---- the numbers

without_minus-cond : (text : Text) → without_minus text ≡ cond (starts_with_minus text) (drop 1 text) text
without_minus-cond [] = refl
without_minus-cond (x ∷ xs) = go (x == 45)
  where
    go : (b : Bool) → unwrap_or (cond b (Some xs) None) (x ∷ xs) ≡ cond b xs (x ∷ xs)
    go true = refl
    go false = refl

-- What is read of such an entry is its number.
HasNumber-read : {E : Type 0} (G : Text → Result ℕ E → Type 0) → ((text : Text) (x : Result ℕ E) → G text x → ParsesUnsigned 32 10 text x)
    → (id : Text) (most : ℕ) (rows : List Row) (gives : GivesNumber id 1 most rows) (r : Option ℕ)
    → ReadsOne G (without_minus gives.text) r → most < 2 ^ 32 → (n : ℕ) × (r ≡ Some n) × HasNumber id 1 most rows n
HasNumber-read G only id most rows gives r read fits =
    go (starts_with_minus gives.text) refl r (subst (λ (t : Text). ReadsOne G t r) (without_minus-cond gives.text) read)
  where
    go : (b : Bool) → starts_with_minus gives.text ≡ b → (o : Option ℕ) → ReadsOne G (cond (starts_with_minus gives.text) (drop 1 gives.text) gives.text) o
        → (n : ℕ) × (o ≡ Some n) × HasNumber id 1 most rows n
    go true minus o h =
        let low = rw minus at gives.within.2 in
        absurd (omega (arith, ints))
    go false minus (Some v) h =
        let numeral = gives.within.0 in
        let low = rw minus at gives.within.2 in
        let high = rw minus at gives.within.3 in
        let parsed = only gives.text (Ok v) (rw minus at h) in (
          v,
          refl,
          record {
            text = gives.text;
            entry = gives.entry;
            numeral = gives.within.0;
            value = rw minus (ap pos (sym parsed.1));
            least_or_more = rw parsed.1 (omega (arith, ints));
            most_or_less = rw parsed.1 (omega (arith, ints));
          },
        )
    go false minus None h =
        let numeral = rw minus at gives.within.0 in
        let high = rw minus at gives.within.3 in
        absurd (only gives.text (Err h.0) (rw minus at h.1) (numeral, omega (arith, ints)))

-- So `get_one` has a number, and it is the entry's.
pub HasNumber-get_one : (f : Found) (id : Text) (most : ℕ) (r : Option ℕ) → GivesNumber id 1 most (rows_of f)
    → ((text : Text) → one_text f id ≡ Some text → ReadsOne (λ text x. ParsesUnsigned 32 10 text x × ExplainsUnsignedError 10 text x × HasUnsignedDigitsIfOk text x) text r) → most < 2 ^ 32
    → IsSome r × ((n : ℕ) → r ≡ Some n → HasNumber id 1 most (rows_of f) n)
HasNumber-get_one f id most r gives read fits =
    let number = HasNumber-read (λ text x. ParsesUnsigned 32 10 text x × ExplainsUnsignedError 10 text x × HasUnsignedDigitsIfOk text x) (λ text x g. g.0) id most (rows_of f) gives r (read (without_minus gives.text) (one_text-rows f id ∙ gives.read)) fits in (
      subst IsSome (sym number.1) refl,
      λ n is.
          let same : n ≡ number.0 = some_same n number.0 (sym is ∙ number.1) in
          subst (HasNumber id 1 most (rows_of f)) (sym same) number.2,
    )
  where
    some_same : (m n : ℕ) → Some m ≡ Some n → m ≡ n
    some_same m n e = cc
