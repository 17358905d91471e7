use Rattle.std.proofs.Common.{List, rules, subst, sym}
use Rattle.command_line.specs.Asked.{NamesStates, Text}
use Rattle.revoker_command.proofs.WordLaws.{texts-rest}
use Rattle.revoker_command.proofs.words.choice_by.Goals as goal

pub returns-in_err-options-clause-refused : goal.returns-in_err-options-clause-refused
returns-in_err-options-clause-refused c = λ is choice named.
    c.in_err-options.ensures.refused (search rules) choice.options (subst (λ (words : List Text). NamesStates words choice.options) (sym (texts-rest c.args.words.now)) named.options)
