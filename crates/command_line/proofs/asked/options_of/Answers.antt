use Rattle.std.proofs.Common.{codes, arith, ◌∙◌}
use Rattle.clap.specs.Words.{found_of}
use Rattle.clap.proofs.WalkLemmas.{one_text-rows}
use Rattle.command_line.specs.NumberLaws.{HasNumber-get_one}
use Rattle.command_line.proofs.asked.options_of.Goals as goal

pub unwrap-requires : goal.unwrap-requires
unwrap-requires c = (HasNumber-get_one (found_of c.args.matches.now) (codes "workers") 64 c.get_one.result c.requires.workers c.get_one.ensures.value (omega arith)).0

pub unwrap-requires-2 : goal.unwrap-requires-2
unwrap-requires-2 c = (HasNumber-get_one (found_of c.args.matches.now) (codes "cut") 256 c.get_one-2.result c.requires.cut c.get_one-2.ensures.value (omega arith)).0

pub returns : goal.returns
returns c =
    let found = found_of c.args.matches.now in
    let rows = one_text-rows found (codes "image") in
    record {
      image = λ e. c.get_flag.ensures.value (rows ∙ e);
      no_image = λ e. c.get_flag.ensures.other (rows ∙ e);
      unnamed = λ e. c.get_flag.ensures.none (rows ∙ e);
      workers = (HasNumber-get_one found (codes "workers") 64 c.get_one.result c.requires.workers c.get_one.ensures.value (omega arith)).1 c.unwrap.result c.unwrap.ensures;
      pages_per_task = (HasNumber-get_one found (codes "cut") 256 c.get_one-2.result c.requires.cut c.get_one-2.ensures.value (omega arith)).1 c.unwrap-2.result c.unwrap-2.ensures;
    }
