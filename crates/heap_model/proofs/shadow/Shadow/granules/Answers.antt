use Rattle.std.proofs.Common.{arith}
use Rattle.heap_model.specs.ShadowLaws.{length-bits_of}
use Rattle.heap_model.proofs.shadow.Shadow.granules.Goals as goal

pub returns : goal.returns
returns c = rw (← c.self.view_is) (omega (arith, length-bits_of c.self.inside.words.items, c.self.invariant.0))
