use Rattle.std.proofs.Common.{◌≡◌, ◌∙◌, Err, IfErr, List, ap, subst, true}
use Rattle.clap.specs.Walk.{texts}
use Rattle.clap.specs.Words.{Text}
use Rattle.command_line.specs.declared.asked.Options.{Options}
use Rattle.command_line.specs.declared.asked.Refusal.TheVariants.{Words}
use Rattle.command_line.specs.Asked.{AsksOnlyFor, NamesNothing, NamesRun, with_run}
use Rattle.command_line.specs.Laws.{NamesStates-image, NamesStates-nothing}
use Rattle.command_line.proofs.asked.states_options_by.Goals as goal

pub returns-in-Ok-Run-clause-refused : goal.returns-in-Ok-Run-clause-refused
returns-in-Ok-Run-clause-refused c = λ e other names.
    let image : c.in-Ok-Run.options.image ≡ true = subst (λ r. IfErr r (λ refusal. c.in-Ok-Run.options.image ≡ true)) e c.without_image.ensures.err in
    let run : texts c.deref.result.now ≡ with_run (texts c.args.words.now) = ap texts c.deref.ensures.value ∙ c.in-Ok.ensures in
    let only = subst (λ asked. AsksOnlyFor (texts c.deref.result.now) asked) c.in-Ok-Run.field-0-is c.in-Ok-Run.ensures.only in
    let P : List Text → Type 0 = λ words. (o : Options) → NamesRun words o → o ≡ c.in-Ok-Run.options in
    NamesStates-image (texts c.args.words.now) c.in-Ok-Run.options other image (subst P run only) names

pub returns-clause-refused : goal.returns-clause-refused
returns-clause-refused c = λ e other names.
    let same : c.in-Err.refusal ≡ Words = cc in
    let run : texts c.deref.result.now ≡ with_run (texts c.args.words.now) = ap texts c.deref.ensures.value ∙ c.in-Ok.ensures in
    NamesStates-nothing (texts c.args.words.now) other (subst NamesNothing run (c.in-Err.ensures.refused (ap Err same))) names
