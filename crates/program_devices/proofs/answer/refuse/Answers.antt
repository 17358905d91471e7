use Rattle.program_devices.proofs.answer.refuse.Goals as goal

pub returns-in-Words-clause-part : goal.returns-in-Words-clause-part
returns-in-Words-clause-part g c = λ e. rw c.in-Words.is (c.finish-in-Words.ensures.part e)
