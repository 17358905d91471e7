use Rattle.std.proofs.Common.{◌≡◌, ◌+◌, ◌*◌, arith}
use Rattle.heap_core.proofs.ClaimLaws.{some_due}
use Rattle.heap_core.proofs.heap.Heap.in_the_way.Goals as goal

pub unwrap-requires : goal.unwrap-requires
unwrap-requires c =
    let s = c.args.self.now in
    let at : s.base + 16 * c.args.first ≡ c.args.base = c.requires.fit.at in
    let end : s.base + 16 * (c.args.first + c.args.granules) ≡ c.args.top = omega (arith, c.requires.fit.at, c.requires.fit.length, c.requires.fit.could.order) in
    let live = rw (at, end) at c.in_default.ensures in
    let held = rw (at, end) at c.held_over.ensures in
    some_due s c.args.base c.args.top c.held_over.result c.requires.fit.could c.requires.taken live held

pub returns : goal.returns
returns c =
    let s = c.args.self.now in
    let at : s.base + 16 * c.args.first ≡ c.args.base = c.requires.fit.at in
    let end : s.base + 16 * (c.args.first + c.args.granules) ≡ c.args.top = omega (arith, c.requires.fit.at, c.requires.fit.length, c.requires.fit.could.order) in
    let live = rw (at, end) at c.in_default.ensures in
    let held = rw (at, end, c.unwrap.ensures) at c.held_over.ensures in
    (c.requires.fit.could, live, held)
