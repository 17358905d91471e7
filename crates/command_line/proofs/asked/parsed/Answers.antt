use Rattle.std.proofs.Common.{◌≡◌, subst, refl, true, inl, inr, [], Result, Ok, Err, OnOk, IfOk, IfErr, List}
use Rattle.clap.specs.Walk.{texts}
use Rattle.clap.specs.Words.{App, FailsBy, HasMatchesOf, IsAmong, Text, app_of, fault_of, is_simple, is_simple_and_free, kind_of, subcommand_of, subcommand_rows_of}
use Rattle.clap.specs.declared.parser.matches.ArgMatches.{ArgMatches}
use Rattle.clap.specs.Kinds.{Kinds}
use Rattle.clap.specs.declared.error.Error.{Error}
use Rattle.clap.specs.declared.error.kind.ErrorKind.TheVariants.{OutOfMemory}
use Rattle.command_line.specs.Asked.{AreAccepted, subcommand_named, tool_app}
use Rattle.command_line.proofs.asked.parsed.Goals as goal

no_fault : {T : Type 0} (kinds : Kinds) (r : Result T Error) → FailsBy kinds r → OnOk r (kinds ≡ [])
no_fault kinds (Ok x) h = h
no_fault kinds (Err e) h = tt

memory_alone : {T : Type 0} (kinds : Kinds) (r : Result T Error) → FailsBy kinds r → IfErr r (λ e. kinds ≡ [] → kind_of e ≡ OutOfMemory)
memory_alone kinds (Ok x) h = tt
memory_alone kinds (Err e) h = λ none. elim h [ inl memory ↦ memory | inr among ↦ absurd (subst (IsAmong (kind_of e)) none among) ]

named : (a : App) (words : List Text) (r : Result ArgMatches Error) → IfOk r (HasMatchesOf a words) → is_simple a ≡ true
    → IfOk r (λ m. subcommand_rows_of m ≡ subcommand_of a words)
named a words (Ok m) h simple = (h simple).1
named a words (Err e) h simple = tt

fails : (c : goal.After-try_get_matches_from) → FailsBy (fault_of tool_app (texts c.args.words.now)) c.try_get_matches_from.result
fails c =
    let P : App → Type 0 = λ a. is_simple_and_free a ≡ true → FailsBy (fault_of a (texts c.args.words.now)) c.try_get_matches_from.result in
    subst P c.in_ok-command.ensures c.try_get_matches_from.ensures.kinds refl

pub returns-clause-taken : goal.returns-clause-taken
unfolding AreAccepted
returns-clause-taken c = no_fault _ _ (fails c)

pub returns-clause-err : goal.returns-clause-err
unfolding AreAccepted
returns-clause-err c = memory_alone _ _ (fails c)

pub returns-clause-matches : goal.returns-clause-matches
unfolding subcommand_named
returns-clause-matches c =
    let P : App → Type 0 = λ a. is_simple a ≡ true → IfOk c.try_get_matches_from.result (λ m. subcommand_rows_of m ≡ subcommand_of a (texts c.args.words.now)) in
    subst P c.in_ok-command.ensures (named (app_of c.in_ok-command.command) (texts c.args.words.now) c.try_get_matches_from.result c.try_get_matches_from.ensures.matches) refl
