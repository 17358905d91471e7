use Rattle.trace_text.specs.declared.trace.Command.TheVariants.{End}
use Rattle.heap_reply.specs.declared.reply.Reply.TheVariants.{Swept}
use Rattle.machine_steps.specs.Follow.{Follows}
use Rattle.revoker_steps.proofs.EndLaws.{Release-end, ends}
use Rattle.revoker_steps.proofs.PassLaws.{begin-is, visit_of_untags}
use Rattle.revoker_steps.proofs.StepLaws.{Paint-is}
use Rattle.revoker_steps.proofs.laws.passes_law.Goals as goal

pub returns-clause-begun : goal.returns-clause-begun
returns-clause-begun c = λ s mid reply pages new cover closed step run. begin-is s mid pages Follows new cover (Paint-is s reply mid closed step) run

pub returns-clause-ends : goal.returns-clause-ends
returns-clause-ends c = λ s mid pages registers new is opened cover all first last. ends Follows s mid pages registers new is opened cover all first last

pub returns-clause-visited : goal.returns-clause-visited
returns-clause-visited c = λ s page granules new opened inside all tests run. visit_of_untags Follows s page granules new opened inside all tests run

pub returns-clause-ended : goal.returns-clause-ended
returns-clause-ended c = λ old bytes new step. Release-end old bytes new step

pub returns-clause-in_use : goal.returns-clause-in_use
returns-clause-in_use c = λ old bytes new safe step. c.safe_reuse_law.ensures.revoked old End (Swept 0 bytes) new safe tt (Release-end old bytes new step)
