use Rattle.std.proofs.Common.{◌∙◌, arith}
use Rattle.heap_model.specs.ShadowLaws.{get_or-bits_of, length-bits_of}
use Rattle.heap_model.proofs.shadow.Shadow.from_words.Goals as goal

pub returns-clause-granules : goal.returns-clause-granules
returns-clause-granules c = length-bits_of c.args.words.items ∙ c.requires

pub returns-clause-painted : goal.returns-clause-painted
returns-clause-painted c = λ k inside. get_or-bits_of c.args.words.items k (omega (arith, inside, c.requires))
