use Rattle.std.proofs.Common.{rules, ◌≡◌, List, Option, Some, None, option_map, codes, sym, ap, ap₂, ◌∙◌}
use Rattle.clap.specs.Words.{Row, Text, first_of, found_of, rows_of, subcommand_rows_of}
use Rattle.clap.specs.Matches.{subcommand_name_of}
use Rattle.clap.proofs.WalkLemmas.{first_value-rows}
use Rattle.clap.specs.Walk.{texts}
use Rattle.clap.specs.declared.parser.matches.ArgMatches.{ArgMatches}
use Rattle.command_line.specs.Asked.{AreAccepted, Names, NamesRun, NamesWord, subcommand_named}
use Rattle.command_line.specs.Laws.{NamesRun-unique, NamesWord-unique, Names-unique}
use Rattle.command_line.specs.NumberLaws.{GivesNumber-cut, GivesNumber-workers}
use Rattle.command_line.proofs.asked.asked_by.Goals as goal

both : {B N R : Type 0} (f : B → N) (g : B → R) (n : N) (r : R) (o : Option B) → option_map f o ≡ Some n → option_map (λ (p : N × R). p.1) (option_map {U = N × R} (λ b. (f b, g b)) o) ≡ Some r
    → option_map {U = N × R} (λ b. (f b, g b)) o ≡ Some (n, r)
both f g n r None e h = cc
both f g n r (Some b) e h =
    let is_n : f b ≡ n = cc in
    let is_r : g b ≡ r = cc in
    ap₂ (λ x y. Some (x, y)) is_n is_r

-- The matches name this subcommand, with these entries.
names_this : (words : List Text) (m : ArgMatches) (this : Text) (inner : List Row) → AreAccepted words → subcommand_rows_of m ≡ subcommand_named words → subcommand_name_of m ≡ Some this
    → Some inner ≡ option_map (λ (p : Text × List Row). p.1) (subcommand_rows_of m) → Names words this inner
names_this words m this inner taken matches name rows =
    let found : subcommand_rows_of m ≡ Some (this, inner) = both _ _ _ _ _ name (sym rows) in
    record { taken = taken; subcommand = sym matches ∙ found }

pub returns-in_default-get_str-clause-refused : goal.returns-in_default-get_str-clause-refused
returns-in_default-get_str-clause-refused c = λ e.
    let inner = rows_of (found_of c.in-Some.inner.now) in
    let names = names_this (texts c.args.words.now) c.in-Ok.matches (codes "word") inner c.in-Ok.ensures.taken c.in-Ok.ensures.matches (search rules) c.in-Some.ensures.rows in
    let none : first_of (codes "hex") inner ≡ None = search (rules, first_value-rows) in
    record {
      run = λ options named. let same : codes "word" ≡ codes "run" = (Names-unique _ _ _ _ _ names named.names).0 in absurd cc;
      word = λ hex named.
          let rows : named.rows ≡ inner = (Names-unique _ _ _ _ _ named.names names).1 in
          let some : first_of (codes "hex") inner ≡ Some hex = ap (first_of (codes "hex")) (sym rows) ∙ named.value in
          cc;
    }

pub returns-clause-ok : goal.returns-clause-ok
returns-clause-ok c =
    let inner = rows_of (found_of c.in-Some.inner.now) in
    record {
      rows = inner;
      names = names_this (texts c.args.words.now) c.in-Ok.matches (codes "word") inner c.in-Ok.ensures.taken c.in-Ok.ensures.matches (search rules) c.in-Some.ensures.rows;
      value = search (rules, first_value-rows);
    }

pub returns-clause-only : goal.returns-clause-only
returns-clause-only c = λ other named.
    let inner = rows_of (found_of c.in-Some.inner.now) in
    let own : NamesWord (texts c.args.words.now) c.in-Some-get_str.hex.now = record {
      rows = inner;
      names = names_this (texts c.args.words.now) c.in-Ok.matches (codes "word") inner c.in-Ok.ensures.taken c.in-Ok.ensures.matches (search rules) c.in-Some.ensures.rows;
      value = search (rules, first_value-rows);
    } in
    NamesWord-unique (texts c.args.words.now) other c.in-Some-get_str.hex.now named own

pub returns-then-eq-clause-only : goal.returns-then-eq-clause-only
returns-then-eq-clause-only c = λ other named.
    let inner = rows_of (found_of c.in-Some.inner.now) in
    let own : NamesRun (texts c.args.words.now) c.options_of.result = record {
      rows = inner;
      names = names_this (texts c.args.words.now) c.in-Ok.matches (codes "run") inner c.in-Ok.ensures.taken c.in-Ok.ensures.matches (search rules) c.in-Some.ensures.rows;
      set = c.options_of.ensures;
    } in
    NamesRun-unique (texts c.args.words.now) other c.options_of.result named own

pub options_of-requires-clause-workers : goal.options_of-requires-clause-workers
options_of-requires-clause-workers c =
    let names = names_this (texts c.args.words.now) c.in-Ok.matches (codes "run") (rows_of (found_of c.in-Some.inner.now)) c.in-Ok.ensures.taken c.in-Ok.ensures.matches (search rules) c.in-Some.ensures.rows in
    GivesNumber-workers (texts c.args.words.now) _ c.in-Ok.ensures.taken names.subcommand

pub options_of-requires-clause-cut : goal.options_of-requires-clause-cut
options_of-requires-clause-cut c =
    let names = names_this (texts c.args.words.now) c.in-Ok.matches (codes "run") (rows_of (found_of c.in-Some.inner.now)) c.in-Ok.ensures.taken c.in-Ok.ensures.matches (search rules) c.in-Some.ensures.rows in
    GivesNumber-cut (texts c.args.words.now) _ c.in-Ok.ensures.taken names.subcommand
