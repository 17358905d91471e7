-- An option with a default, at a level of a command where clap's model finds no fault: its entry is there, and
-- begins with a value that passed the option's parser.
use Rattle.std.proofs.Common.{◌≡◌, ◌∙◌, ◌+◌, ◌&&◌, ◌||◌, min, ◌⊎◌, inl, inr, ℕ, Bool, cond, true, false, zero, suc, refl, sym, ap, subst, true≢false, arith, List, [], ◌∷◌, ◌++◌, length, drop, Option, Some, None}
use Rattle.std.proofs.lemmas.Bool.{ne_eqb}
use Rattle.std.specs.Prelude.{⊤, IfSome, encode_utf8, is_some, option_map, slice_get}
use Rattle.std.specs.List.{find, fold}
use Rattle.std.specs.Option.{option_map_or}
use Rattle.std.specs.Str.{bytes_eq, chars}
use Rattle.clap.specs.Lexer.{long_of, short_of}
use Rattle.clap.specs.Facts.{parser_of_value, unwrap_or_range}
use Rattle.clap.specs.Faults.{action_fault, bundle_fault, bundle_step_fault, default_fault, defaults_fault, entered_fault, fault_of, flag_word_fault, flags_fault, given_default_fault, level_fault, long_fault, option_fault, other_fault, positional_fault, react_fault, set_fault, settle_fault, short_fault, step_fault, stray_fault, turn_fault, use_fault, values_fault, walk_fault, word_fault}
use Rattle.clap.specs.Kinds.{Kinds, or_else, range_kinds, request_kinds}
use Rattle.clap.specs.Values.{read_as, refused_kind}
use Rattle.clap.specs.Matches.{count_text}
use Rattle.clap.specs.Simple.{App, Shape, argument_words, built, entered, label_of, names_of, rows_at, subcommand_of}
use Rattle.clap.specs.ValueTests.{accepts}
use Rattle.clap.specs.Walk.{Held, Names, Outcome, Row, Rule, Step, Text, Waiting, Walk, action_of, after_flag, after_step, answers_to, arg_by_id, arg_by_index, arg_by_long, arg_by_short, at_row, attached_value, bundle_met, bundle_step, count_of, flag_met, long_or_other, short_or_plain, subcommand_or_other, default_rows, done, first_of, has_row, idle, is_empty, is_pending, long_met, more_values, most_values, new_count, next, nothing_held, one_of, option, option_met, option_word, plain, plain_word, positional, reacted, reading_by, refused, rows_after, settled, settled_rows, short_met, subcommand, subcommand_met, takes_several, takes_values, to_positional, trailing, used, used_as, used_by_id, value, values_or_missing, waits, walk, walk_from, walked, walked_from, with_count, with_default, with_values, without, word_met}
use Rattle.clap.specs.declared.builder.action.ArgAction.{ArgAction}
use Rattle.clap.specs.declared.builder.action.ArgAction.TheVariants as action
use Rattle.clap.specs.declared.builder.value_parser.Reading.{Reading}
use Rattle.clap.specs.declared.error.kind.ErrorKind.{ErrorKind}
use Rattle.clap.specs.declared.error.kind.ErrorKind.TheVariants.{TooManyValues}
use Rattle.clap.specs.declared.parser.matches.ValueSource.{ValueSource}
use Rattle.clap.specs.declared.parser.matches.ValueSource.TheVariants.{CommandLine, DefaultValue}

-- ---- lists

-- `Each` and `Contains` go through the list, so that they compute for rules that are written out.
abbrev pub Each : {X : Type 0} → (X → Type 0) → List X → Type 0
Each P [] = ⊤
Each P (x ∷ xs) = P x × Each P xs

abbrev pub Contains : {X : Type 0} → X → List X → Type 0
Contains x [] = ⊥
Contains x (y ∷ ys) = (y ≡ x) ⊎ Contains x ys

Each-append : {X : Type 0} (P : X → Type 0) (xs ys : List X) → Each P xs → Each P ys → Each P (xs ++ ys)
Each-append P [] ys h k = k
Each-append P (x ∷ xs) ys h k = (h.0, Each-append P xs ys h.1 k)

pub IfSome-find : {X : Type 0} (P : X → Type 0) (test : X → Bool) (xs : List X) → Each P xs → IfSome (find test xs) P
IfSome-find P test [] h = tt
IfSome-find P test (x ∷ xs) h = go (test x) (IfSome-find P test xs h.1)
  where
    go : (b : Bool) → IfSome (find test xs) P → IfSome (cond b (Some x) (find test xs)) P
    go true k = h.0
    go false k = k

pub no_text : (v : Text) (vs : List Text) → v ∷ vs ≡ [] → ⊥
no_text v vs e = absurd cc

some_text : (v : Text) (vs : List Text) → is_empty (v ∷ vs) ≡ false
some_text v vs = ne_eqb _ _ (λ e. omega arith)

-- ---- kinds of errors

no_kind : (k : ErrorKind) (ks : Kinds) → k ∷ ks ≡ [] → ⊥
no_kind k ks e = absurd cc

neither : (x y : Kinds) → or_else x y ≡ [] → (x ≡ []) × (y ≡ [])
neither [] y e = (refl, e)
neither (k ∷ ks) y e = absurd (no_kind k ks e)

pub some_value : (least most : ℕ) → least ≡ 1 → range_kinds least most 0 ≡ [] → ⊥
some_value least most one e =
    let fault : range_kinds 1 most 0 ≡ [] = subst (λ n. range_kinds n most 0 ≡ []) one e in
    no_kind _ _ fault

-- ---- rows

or_right : (b c : Bool) → c ≡ true → (b || c) ≡ true
or_right true c e = refl
or_right false c e = e

Each-at_row : (P : Row → Type 0) (id : Text) (change : Row → List Row) (missing : List Row) → ((r : Row) → P r → Each P (change r)) → Each P missing
    → (rows : List Row) → Each P rows → Each P (at_row id change missing rows)
Each-at_row P id change missing keeps new [] h = new
Each-at_row P id change missing keeps new (r ∷ rs) h = go (bytes_eq r.id id) (Each-at_row P id change missing keeps new rs h.1)
  where
    go : (b : Bool) → Each P (at_row id change missing rs) → Each P (cond b (change r ++ rs) (r ∷ at_row id change missing rs))
    go true k = Each-append P (change r) rs (keeps r h.0) h.1
    go false k = (h.0, k)

-- A row that is there stays where other values join.
has_row-values : (id other : Text) (how : Reading) (s : ValueSource) (values : List Text) (rows : List Row) → has_row id rows ≡ true → has_row id (with_values other how s values rows) ≡ true
has_row-values id other how s values [] h = absurd (true≢false (sym h))
has_row-values id other how s values (r ∷ rs) h = go (bytes_eq r.id other) h (λ e. joined (bytes_eq r.id id) (has_row-values id other how s values rs) e)
  where
    joined : (own : Bool) → (has_row id rs ≡ true → has_row id (with_values other how s values rs) ≡ true) → (own || has_row id rs) ≡ true
        → (own || has_row id (with_values other how s values rs)) ≡ true
    joined true more e = refl
    joined false more e = more e

    go : (b : Bool) → (bytes_eq r.id id || has_row id rs) ≡ true
        → ((bytes_eq r.id id || has_row id rs) ≡ true → (bytes_eq r.id id || has_row id (with_values other how s values rs)) ≡ true)
        → has_row id (cond b (more_values s values r ++ rs) (r ∷ with_values other how s values rs)) ≡ true
    go true e more = e
    go false e more = more e

-- Values that join where there is no row make one.
has_row-new : (id : Text) (how : Reading) (values : List Text) (rows : List Row) → bytes_eq id id ≡ true → has_row id (with_values id how DefaultValue values rows) ≡ true
has_row-new id how values [] own = rw own refl
has_row-new id how values (r ∷ rs) own = go (bytes_eq r.id id) refl (has_row-new id how values rs own)
  where
    go : (b : Bool) → bytes_eq r.id id ≡ b → has_row id (with_values id how DefaultValue values rs) ≡ true
        → has_row id (cond b (more_values DefaultValue values r ++ rs) (r ∷ with_values id how DefaultValue values rs)) ≡ true
    go true e more = rw e refl
    go false e more = or_right (bytes_eq r.id id) _ more

-- ---- one option

module _ (a : Rule) where
  -- The first value passed the option's parser.
  abbrev BeginsWell : List Text → Type 0
  BeginsWell [] = ⊥
  BeginsWell (v ∷ vs) = accepts a.ignore_case (parser_of_value a.parser) v ≡ true

  -- A rule with the option's id is the option's.
  abbrev pub IsOnly : Rule → Type 0
  IsOnly b = bytes_eq b.id a.id ≡ true → b ≡ a

  -- A row with the option's id is read as the option says, and begins well.
  abbrev IsGood : Row → Type 0
  IsGood r = bytes_eq r.id a.id ≡ true → (r.reading ≡ reading_by a) × BeginsWell r.values

  abbrev AreGood : List Row → Type 0
  AreGood rows = Each IsGood rows

  BeginsWell-append : (xs ys : List Text) → BeginsWell xs → BeginsWell (xs ++ ys)
  BeginsWell-append [] ys h = absurd h
  BeginsWell-append (v ∷ vs) ys h = h

  -- values join the row of an id, where they are the option's own or the id is another's
  AreGood-values : (id : Text) (how : Reading) (s : ValueSource) (values : List Text) → (bytes_eq id a.id ≡ true → (how ≡ reading_by a) × BeginsWell values)
      → (rows : List Row) → AreGood rows → AreGood (with_values id how s values rows)
  AreGood-values id how s values own rows h =
      Each-at_row IsGood id (more_values s values) (record { id = id; values = values; count = None; source = Some s; reading = how } ∷ [])
      (λ r good. ((λ e. ((good e).0, BeginsWell-append r.values values (good e).1)), tt)) (own, tt) rows h

  AreGood-count : (id : Text) (how : Reading) (s : ValueSource) (n : ℕ) → bytes_eq id a.id ≡ false → (rows : List Row) → AreGood rows → AreGood (with_count id how s n rows)
  AreGood-count id how s n other rows h =
      Each-at_row IsGood id (new_count s n) (record { id = id; values = count_text n ∷ []; count = Some n; source = Some s; reading = how } ∷ [])
      (λ r good. ((λ e. ((good e).0, BeginsWell-append r.values (count_text n ∷ []) (good e).1)), tt)) ((λ e. absurd (true≢false (sym e ∙ other))), tt) rows h

  AreGood-without : (id : Text) (rows : List Row) → AreGood rows → AreGood (without id rows)
  AreGood-without id rows h = Each-at_row IsGood id (λ r. []) [] (λ r good. tt) tt rows h

  -- the use of another argument
  AreGood-other : (x : ArgAction) (id : Text) (how : Reading) (values : List Text) (rows : List Row) → bytes_eq id a.id ≡ false → AreGood rows → AreGood (used_as x id how values rows)
  AreGood-other action.Set id how values rows other h = AreGood-values id how CommandLine values (λ e. absurd (true≢false (sym e ∙ other))) (without id rows) (AreGood-without id rows h)
  AreGood-other action.SetTrue id how values rows other h = AreGood-values id how CommandLine values (λ e. absurd (true≢false (sym e ∙ other))) (without id rows) (AreGood-without id rows h)
  AreGood-other action.SetFalse id how values rows other h = AreGood-values id how CommandLine values (λ e. absurd (true≢false (sym e ∙ other))) (without id rows) (AreGood-without id rows h)
  AreGood-other action.Append id how values rows other h = AreGood-values id how CommandLine values (λ e. absurd (true≢false (sym e ∙ other))) rows h
  AreGood-other action.Count id how [] rows other h = AreGood-count id how CommandLine (min (count_of id rows + 1) 255) other (without id rows) (AreGood-without id rows h)
  AreGood-other action.Count id how (v ∷ vs) rows other h = AreGood-values id how CommandLine (v ∷ vs) (λ e. absurd (true≢false (sym e ∙ other))) (without id rows) (AreGood-without id rows h)
  AreGood-other action.Help id how values rows other h = h
  AreGood-other action.HelpShort id how values rows other h = h
  AreGood-other action.HelpLong id how values rows other h = h
  AreGood-other action.Version id how values rows other h = h

  BeginsWell-from : (values : List Text) → values_fault a values ≡ [] → (values ≡ [] → ⊥) → BeginsWell values
  BeginsWell-from [] fault some = absurd (some refl)
  BeginsWell-from (v ∷ vs) fault some = go (accepts a.ignore_case (parser_of_value a.parser) v) (neither _ _ fault).0
    where
      go : (b : Bool) → cond b [] (refused_kind (parser_of_value a.parser) ∷ []) ≡ [] → b ≡ true
      go true e = refl
      go false e = absurd (no_kind _ _ e)

  -- A use of the option takes the place of those before it, and has a value or gets the one that stands for
  -- none; where it isn't used, it has a default.
  pub record IsOption : Type 0 where
    pub uses : (id : Text) (how : Reading) (values : List Text) (rows : List Row) → used_as (action_of a) id how values rows ≡ with_values id how CommandLine values (without id rows)
    pub checks : (again : Bool) (values : List Text) (rows : List Row) → action_fault (action_of a) again a values rows ≡ set_fault again a values rows
    pub some : (values : List Text) → range_kinds (unwrap_or_range a.range).start_inclusive (most_values a) (length values) ≡ [] → values_or_missing a values ≡ [] → ⊥
    pub own : bytes_eq a.id a.id ≡ true
    pub default : Text
    pub defaults : a.defaults ≡ default ∷ []

  -- the option's own use
  BeginsWell-use : (is : IsOption) (again : Bool) (values : List Text) (rows : List Row) → use_fault again a values rows ≡ [] → BeginsWell (values_or_missing a values)
  BeginsWell-use is again values rows fault =
      let as_set : set_fault again a (values_or_missing a values) rows ≡ [] = sym (is.checks again (values_or_missing a values) rows) ∙ (neither _ _ fault).1 in
      BeginsWell-from (values_or_missing a values) (neither _ _ as_set).1 (is.some values (neither _ _ fault).0)

  module _ (is : IsOption) (s : Shape) (only : Each IsOnly s.rules) where
    abbrev c : List Rule
    c = s.rules

    abbrev again : Bool
    again = s.args_override_self

    AreGood-used : (b : Rule) (values : List Text) (rows : List Row) → IsOnly b → use_fault again b values rows ≡ [] → AreGood rows → AreGood (used b values rows)
    AreGood-used b values rows same fault h = go (bytes_eq b.id a.id) refl
      where
        own : b ≡ a → AreGood (used b values rows)
        own e =
            let fault_a : use_fault again a values rows ≡ [] = subst (λ x. use_fault again x values rows ≡ []) e fault in
            let well = BeginsWell-use is again values rows fault_a in
            let by_set : AreGood (with_values a.id (reading_by a) CommandLine (values_or_missing a values) (without a.id rows)) =
            AreGood-values a.id (reading_by a) CommandLine _ (λ _. (refl, well)) (without a.id rows) (AreGood-without a.id rows h) in
            let by_a : AreGood (used a values rows) = subst AreGood (sym (is.uses a.id (reading_by a) (values_or_missing a values) rows)) by_set in
            subst (λ x. AreGood (used x values rows)) (sym e) by_a

        go : (t : Bool) → bytes_eq b.id a.id ≡ t → AreGood (used b values rows)
        go true e = own (same e)
        go false e = AreGood-other (action_of b) b.id (reading_by b) _ rows e h

    -- ---- what is held between two words

    abbrev IsKept : Held → Type 0
    IsKept h = AreGood h.rows

    IsKept-settled : (h : Held) → settle_fault c again h ≡ [] → IsKept h → IsKept (settled c h)
    IsKept-settled h fault kept = go h.pending fault
      where
        by_rule : (o : Option Rule) (values : List Text) → IfSome o IsOnly → option_map_or (λ b. use_fault again b values h.rows) o [] ≡ [] → AreGood (used_by_id o values h.rows)
        by_rule None values known e = kept
        by_rule (Some b) values known e = AreGood-used b values h.rows known e kept

        go : (p : Option (Text × List Text)) → option_map_or (λ q. option_map_or (λ b. use_fault again b q.1 h.rows) (arg_by_id c q.0) []) p [] ≡ [] → AreGood (settled_rows c p h.rows)
        go None e = kept
        go (Some p) e = by_rule (arg_by_id c p.0) p.1 (IfSome-find IsOnly _ c only) e

    IsKept-reacted : (b : Rule) (values : List Text) (h : Held) → IsOnly b → react_fault c again b values h ≡ [] → IsKept h → IsKept (reacted c b values h)
    IsKept-reacted b values h known fault kept =
        AreGood-used b values (settled c h).rows known (neither _ _ fault).1 (IsKept-settled h (neither _ _ fault).0 kept)

    IsKept-option : (b : Rule) (v : Option Text) (h : Held) → IsOnly b → option_fault c again b v h ≡ [] → IsKept h → IsKept (option_met c b v h).0
    IsKept-option b (Some v) h known fault kept = IsKept-reacted b (v ∷ []) h known fault kept
    IsKept-option b None h known fault kept = IsKept-settled h fault kept

    IsKept-long : (o : Option Rule) (v : Option Text) (h : Held) → IfSome o IsOnly → long_fault c again o v h ≡ [] → IsKept h → IsKept (long_met c o v h).0
    IsKept-long None v h known fault kept = kept
    IsKept-long (Some b) v h known fault kept = go (takes_values b) v fault
      where
        go : (t : Bool) (v : Option Text) → cond t (option_fault c again b v h) (cond (is_some v) (TooManyValues ∷ []) (react_fault c again b [] h)) ≡ []
            → IsKept (cond t (option_met c b v h) (flag_met c b v h)).0
        go true v e = IsKept-option b v h known e kept
        go false (Some v) e = kept
        go false None e = IsKept-reacted b [] h known e kept

    IsKept-bundle : (k : ℕ) (flags : Text) (skip : ℕ) (so_far : Outcome) (h : Held) → flags_fault c again k flags skip h ≡ [] → IsKept h → IsKept (bundle_met c k flags skip so_far h).0
    unfolding bundle_met flags_fault
    IsKept-bundle zero flags skip so_far h fault kept = kept
    IsKept-bundle (suc k) flags (suc skip) so_far h fault kept = go (slice_get (chars flags) 0) fault (λ rest e. IsKept-bundle k rest skip so_far h e kept)
      where
        go : (o : Option ℕ) → bundle_step_fault c again o flags (suc skip) h (flags_fault c again k) ≡ []
            → ((rest : Text) → flags_fault c again k rest skip h ≡ [] → IsKept (bundle_met c k rest skip so_far h).0)
            → IsKept (bundle_step c o flags (suc skip) so_far h (bundle_met c k)).0
        go None e more = kept
        go (Some x) e more = more _ e
    IsKept-bundle (suc k) flags zero so_far h fault kept = go (slice_get (chars flags) 0) fault (λ rest held e good. IsKept-bundle k rest 0 done held e good)
      where
        More : Type 0
        More = (rest : Text) (held : Held) → flags_fault c again k rest 0 held ≡ [] → IsKept held → IsKept (bundle_met c k rest 0 done held).0

        by_kind : (b : Rule) (t : Bool) (rest : Text) → IsOnly b
            → cond t (option_fault c again b (attached_value rest) h) (or_else (react_fault c again b [] h) (flags_fault c again k rest 0 (reacted c b [] h))) ≡ []
            → More → IsKept (cond t (option_met c b (attached_value rest) h) (bundle_met c k rest 0 done (reacted c b [] h))).0
        by_kind b true rest known e more = IsKept-option b (attached_value rest) h known e kept
        by_kind b false rest known e more = more rest (reacted c b [] h) (neither _ _ e).1 (IsKept-reacted b [] h known (neither _ _ e).0 kept)

        by_rule : (o : Option Rule) (rest : Text) → IfSome o IsOnly → short_fault c again o rest h (flags_fault c again k rest 0) ≡ [] → More
            → IsKept (short_met c o rest h (bundle_met c k rest 0 done)).0
        by_rule None rest known e more = kept
        by_rule (Some b) rest known e more = by_kind b (takes_values b) rest known e more

        go : (o : Option ℕ) → bundle_step_fault c again o flags 0 h (flags_fault c again k) ≡ [] → More → IsKept (bundle_step c o flags 0 so_far h (bundle_met c k)).0
        go None e more = kept
        go (Some x) e more = by_rule (arg_by_short c x) (drop (length (encode_utf8 x)) flags) (IfSome-find IsOnly _ c only) e more

    -- ---- one word

    IsKept-plain : (waiting : Waiting) (word : Text) (h : Held) → IsKept h → IsKept (plain_word c waiting word h).0
    IsKept-plain idle word h kept = kept
    IsKept-plain positional word h kept = kept
    IsKept-plain (option id) word h kept = go (arg_by_id c id)
      where
        go : (o : Option Rule) → IsKept (option_word o id word h).0
        go None = kept
        go (Some b) = kept

    IsKept-after : (waiting : Waiting) (word : Text) (h : Held) (outcome : Outcome) → IsKept h → IsKept (after_flag c waiting word h outcome).0
    IsKept-after waiting word h done kept = kept
    IsKept-after waiting word h (waits id) kept = kept
    IsKept-after waiting word h plain kept = IsKept-plain waiting word h kept
    IsKept-after waiting word h refused kept = IsKept-plain waiting word h kept

    IsKept-flag : (waiting : Waiting) (word : Text) (h : Held) (o : Option (Text × Option Text)) → flag_word_fault c again o word h ≡ [] → IsKept h
        → IsKept (long_or_other c waiting word o h).0
    IsKept-flag waiting word h (Some p) fault kept = IsKept-after waiting word _ _ (IsKept-long (arg_by_long c p.0) p.1 h (IfSome-find IsOnly _ c only) fault kept)
    IsKept-flag waiting word h None fault kept = go (short_of word) fault
      where
        go : (o : Option Text) → option_map_or (λ flags. bundle_fault c again flags h) o [] ≡ [] → IsKept (short_or_plain c waiting word o h).0
        go None e = IsKept-plain waiting word h kept
        go (Some flags) e = IsKept-after waiting word _ _ (IsKept-bundle (length flags) flags h.skip plain (record h { skip = 0 }) e kept)

    IsKept-word : (names : Names) (is_trailing : Bool) (waiting : Waiting) (position : ℕ) (word : Text) (h : Held)
        → word_fault s names is_trailing waiting word h ≡ [] → IsKept h → IsKept (word_met c names is_trailing waiting position word h).0
    IsKept-word names true waiting position word h fault kept = kept
    IsKept-word names false waiting position word h fault kept = go (subcommand_met names waiting word) fault
      where
        by_flag : (t : Bool) → cond t [] (flag_word_fault c again (long_of word) word h) ≡ [] → IsKept (cond t (h, trailing position) (long_or_other c waiting word (long_of word) h)).0
        by_flag true e = kept
        by_flag false e = IsKept-flag waiting word h (long_of word) e kept

        go : (o : Option Text) → other_fault s o word h ≡ [] → IsKept (subcommand_or_other c o waiting position word h).0
        go (Some name) e = kept
        go None e = by_flag (bytes_eq word (45 ∷ 45 ∷ [])) e

    IsKept-step : (word : Text) (w : Walk) (h : Held) (step : Step) → step_fault s w.position h step ≡ [] → IsKept h
        → IsKept (after_step c word w h step).held
    IsKept-step word w h (next waiting) fault kept = kept
    IsKept-step word w h (trailing position) fault kept = kept
    IsKept-step word w h (subcommand name) fault kept = kept
    IsKept-step word w h value fault kept = go (arg_by_index c w.position) fault
      where
        by_kind : (t : Bool) → cond t [] (settle_fault c again h) ≡ [] → IsKept (cond t h (settled c h))
        by_kind true e = kept
        by_kind false e = IsKept-settled h e kept

        go : (o : Option Rule) → option_map_or (λ b. positional_fault c again b h) o (stray_fault s) ≡ [] → IsKept (to_positional c o word w h).held
        go None e = kept
        go (Some b) e = by_kind (is_pending b h.pending && takes_several b) e

    IsKept-walked : (names : Names) (w : Walk) (word : Text) → turn_fault s names w word ≡ [] → IsKept w.held
        → IsKept (walked c names w word).held
    unfolding walked
    IsKept-walked names w word fault kept = go w.stopped fault
      where
        go : (o : Option (Text × List Text)) → cond (is_some o) [] (or_else (word_fault s names w.is_trailing w.waiting word w.held) (step_fault s w.position (word_met c names w.is_trailing w.waiting w.position word w.held).0 (word_met c names w.is_trailing w.waiting w.position word w.held).1)) ≡ []
            → IsKept (walked_from c names o w word).held
        go (Some p) e = kept
        go None e =
            IsKept-step word w (word_met c names w.is_trailing w.waiting w.position word w.held).0 (word_met c names w.is_trailing w.waiting w.position word w.held).1 (neither _ _ e).1
            (IsKept-word names w.is_trailing w.waiting w.position word w.held (neither _ _ e).0 kept)

    IsKept-walk : (names : Names) (w : Walk) (words : List Text) → walk_fault s names w words ≡ [] → IsKept w.held
        → IsKept (fold (walked c names) w words).held
    unfolding walk_fault
    IsKept-walk names w [] fault kept = kept
    IsKept-walk names w (word ∷ rest) fault kept =
        IsKept-walk names (walked c names w word) rest (neither _ _ fault).1 (IsKept-walked names w word (neither _ _ fault).0 kept)

    -- ---- the end

    IsKept-default : (rows : List Row) (b : Rule) → IsOnly b → default_fault rows b ≡ [] → AreGood rows → AreGood (with_default rows b)
    IsKept-default rows b known fault good = go (has_row b.id rows) fault
      where
        by_a : (v : Text) (vs : List Text) → given_default_fault b (v ∷ vs) ≡ [] → b ≡ a → (reading_by b ≡ reading_by a) × BeginsWell (v ∷ vs)
        by_a v vs e same =
            let values : values_fault b (v ∷ vs) ≡ [] = (neither (request_kinds (action_of b)) (values_fault b (v ∷ vs)) e).1 in
            let by_own : values_fault a (v ∷ vs) ≡ [] = subst (λ x. values_fault x (v ∷ vs) ≡ []) same values in
            (ap (λ x. reading_by x) same, BeginsWell-from (v ∷ vs) by_own (no_text v vs))

        by_values : (values : List Text) → cond (is_empty values) [] (given_default_fault b values) ≡ [] → AreGood (default_rows b.id (reading_by b) values rows)
        by_values [] e = good
        by_values (v ∷ vs) e = AreGood-values b.id (reading_by b) DefaultValue (v ∷ vs) (λ own. by_a v vs (rw (some_text v vs) at e) (known own)) rows good

        go : (t : Bool) → cond (t || is_empty b.defaults) [] (given_default_fault b b.defaults) ≡ [] → AreGood (cond t rows (default_rows b.id (reading_by b) b.defaults rows))
        go true e = good
        go false e = by_values b.defaults e

    IsKept-defaults : (rows : List Row) (rules : List Rule) → Each IsOnly rules → defaults_fault rows rules ≡ [] → AreGood rows → AreGood (fold with_default rows rules)
    unfolding defaults_fault
    IsKept-defaults rows [] known fault good = good
    IsKept-defaults rows (b ∷ rest) known fault good =
        IsKept-defaults (with_default rows b) rest known.1 (neither _ _ fault).1 (IsKept-default rows b known.0 (neither _ _ fault).0 good)

    -- the option's row is there once its own default was seen to

    stays : (rows : List Row) (b : Rule) → has_row a.id rows ≡ true → has_row a.id (with_default rows b) ≡ true
    stays rows b h = go (has_row b.id rows)
      where
        by_values : (values : List Text) → has_row a.id (default_rows b.id (reading_by b) values rows) ≡ true
        by_values [] = h
        by_values (v ∷ vs) = has_row-values a.id b.id (reading_by b) DefaultValue (v ∷ vs) rows h

        go : (t : Bool) → has_row a.id (cond t rows (default_rows b.id (reading_by b) b.defaults rows)) ≡ true
        go true = h
        go false = by_values b.defaults

    all_stay : (rows : List Row) (rules : List Rule) → has_row a.id rows ≡ true → has_row a.id (fold with_default rows rules) ≡ true
    all_stay rows [] h = h
    all_stay rows (b ∷ rest) h = all_stay (with_default rows b) rest (stays rows b h)

    comes : (rows : List Row) → has_row a.id (with_default rows a) ≡ true
    comes rows = go (has_row a.id rows) refl
      where
        go : (t : Bool) → has_row a.id rows ≡ t → has_row a.id (cond t rows (default_rows a.id (reading_by a) a.defaults rows)) ≡ true
        go true e = e
        go false e = rw is.defaults (has_row-new a.id (reading_by a) (is.default ∷ []) rows is.own)

    is_there : (rows : List Row) (rules : List Rule) → Contains a rules → has_row a.id (fold with_default rows rules) ≡ true
    is_there rows [] among = absurd among
    is_there rows (b ∷ rest) (inl same) = all_stay (with_default rows b) rest (subst (λ x. has_row a.id (with_default rows x) ≡ true) (sym same) (comes rows))
    is_there rows (b ∷ rest) (inr among) = is_there (with_default rows b) rest among

    rows_good : (words : List Text) → level_fault s [] nothing_held words false [] ≡ [] → AreGood (rows_after s.rules [] words)
    rows_good words fault =
        let end = (walk s.rules [] nothing_held words).held in
        let walking = neither _ _ fault in
        let settling = neither _ _ walking.1 in
        let defaulting = neither _ _ settling.1 in
        IsKept-defaults (settled s.rules end).rows s.rules only defaulting.0
        (IsKept-settled end settling.0 (IsKept-walk [] (walk_from nothing_held) words walking.0 tt))

  -- What the entry of the option has.
  pub record IsGiven (rows : List Row) : Type 0 where
    pub text : Text
    pub entry : first_of a.id rows ≡ Some text
    pub read : one_of a.id rows ≡ Some (read_as (reading_by a) text)
    pub passes : accepts a.ignore_case (parser_of_value a.parser) text ≡ true

  found : (rows : List Row) → has_row a.id rows ≡ true → AreGood rows → IsGiven rows
  found [] there good = absurd (true≢false (sym there))
  found (r ∷ rs) there good = go (bytes_eq r.id a.id) refl there (λ e. found rs e good.1)
    where
      first : (values : List Text) (how : Reading) → how ≡ reading_by a → BeginsWell values
          → (text : Text) × (slice_get values 0 ≡ Some text) × (option_map (read_as how) (slice_get values 0) ≡ Some (read_as (reading_by a) text))
          × (accepts a.ignore_case (parser_of_value a.parser) text ≡ true)
      first [] how same well = absurd well
      first (v ∷ vs) how same well = (v, refl, ap (λ x. Some (read_as x v)) same, well)

      go : (t : Bool) → bytes_eq r.id a.id ≡ t → (t || has_row a.id rs) ≡ true → (has_row a.id rs ≡ true → IsGiven rs) → IsGiven (r ∷ rs)
      go true e h more =
          let own = good.0 e in
          let text = first r.values r.reading own.0 own.1 in
          record { text = text.0; entry = rw e text.1; read = rw e text.2; passes = text.3 }
      go false e h more =
          let rest = more h in
          record { text = rest.text; entry = rw e rest.entry; read = rw e rest.read; passes = rest.passes }

  -- At a level that has the option once and no fault, its entry is there.
  pub given_at : (s : Shape) → IsOption → Each IsOnly s.rules → Contains a s.rules → (words : List Text) → level_fault s [] nothing_held words false [] ≡ [] → IsGiven (rows_after s.rules [] words)
  given_at s is only among words fault =
      found (rows_after s.rules [] words) (is_there is s only (settled s.rules (walk s.rules [] nothing_held words).held).rows s.rules among) (rows_good is s only words fault)

-- ---- a subcommand

-- The words that the subcommand gets, where the whole command line has no fault.
pub record IsEntered (app : App) (name : Text) (rows : List Row) (P : Shape → Type 0) : Type 0 where
  pub shape : Shape
  pub words : List Text
  pub named : shape.name ≡ name
  pub rows_are : rows_after shape.rules [] words ≡ rows
  pub fault : level_fault shape [] nothing_held words false [] ≡ []
  pub holds : P shape

pub entered_at : (app : App) (words : List Text) (name : Text) (rows : List Row) (P : Shape → Type 0) → fault_of app words ≡ [] → subcommand_of app words ≡ Some (name, rows)
    → Each P (built app).subs → IsEntered app name rows P
entered_at app words name rows P fault sub each =
    by_stop (walk (built app).top.rules (names_of (built app)) nothing_held (argument_words app words)).stopped (neither _ _ (neither _ _ fault).1).0 sub
  where
    by_shape : (o : Option Shape) (rest : List Text) → IfSome o P → option_map_or (λ s. level_fault s [] nothing_held rest false []) o [] ≡ []
        → option_map (λ s. rows_at s rest) o ≡ Some (name, rows) → IsEntered app name rows P
    by_shape None rest holds e is = absurd cc
    by_shape (Some s) rest holds e is =
        let pair : (s.name, rows_after s.rules [] rest) ≡ (name, rows) = cc in
        record {
          shape = s;
          words = rest;
          named = ap (λ (p : Text × List Row). p.0) pair;
          rows_are = ap (λ (p : Text × List Row). p.1) pair;
          fault = e;
          holds = holds;
        }

    by_stop : (o : Option (Text × List Text)) → entered_fault (built app) o ≡ [] → entered (built app) o ≡ Some (name, rows) → IsEntered app name rows P
    by_stop None e is = absurd cc
    by_stop (Some p) e is = by_shape (find (λ s. answers_to p.0 (label_of s)) (built app).subs) p.1 (IfSome-find P _ (built app).subs each) e is
