use Rattle.std.proofs.Common.{◌≡◌, ◌∙◌, ◌*◌, arith, length}
use Rattle.sweep_pool.proofs.PaintLaws.{shadow-from_words, words-due, words-long}
use Rattle.sweep_pool.proofs.painting.finish.Goals as goal

pub from_words-requires : goal.from_words-requires
from_words-requires c =
    words-long c.args.heap.now c.args.board c.args.seat c.in-Ok.words.items c.granules.result c.invariant.ensures c.requires.granules c.requires.painted c.in-Ok.ensures.mine c.granules.ensures

pub returns-clause-shadow : goal.returns-clause-shadow
returns-clause-shadow c =
    let due = words-due c.args.heap.now c.args.board c.args.seat c.in-Ok.words.items c.requires.painted c.in-Ok.ensures.mine c.in-Ok.ensures.seen in
    let long : 16 * length c.from_words.result ≡ c.args.heap.now.size = omega (arith, c.from_words.ensures.granules, c.granules.ensures) in
    shadow-from_words c.args.heap.now c.from_words.result c.invariant.ensures long
    (λ k inside. c.from_words.ensures.painted k (omega (arith, inside, c.from_words.ensures.granules)) ∙ due k)
