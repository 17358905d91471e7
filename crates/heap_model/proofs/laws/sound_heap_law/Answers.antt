use Rattle.std.proofs.Common.{◌≤◌, ◌<◌, ◌+◌, ◌^◌, arith}
use Rattle.heap_model.specs.Place.{block_length, granule_size}
use Rattle.heap_model.specs.SizeLaws.{IsFreeBlock-free, le-length_for, max-le-block_length}
use Rattle.heap_model.specs.ExtentLaws.{LiesWithin-span}
use Rattle.heap_model.specs.StateLaws.{IsSound-begun, IsSound-block, IsSound-ended, IsSound-free, IsSound-waiting}
use Rattle.heap_model.proofs.laws.sound_heap_law.Goals as goal

pub returns-clause-live : goal.returns-clause-live
returns-clause-live c = λ s a length sound free. IsSound-block s a length sound free

pub returns-clause-place : goal.returns-clause-place
returns-clause-place c = λ s size a free. IsFreeBlock-free s size a free

pub returns-clause-enough : goal.returns-clause-enough
returns-clause-enough c = λ size. max-le-block_length size

pub returns-clause-waiting : goal.returns-clause-waiting
returns-clause-waiting c = λ s base top sound there. IsSound-waiting s base top sound there

pub returns-clause-free : goal.returns-clause-free
returns-clause-free c = λ s sound. IsSound-free s sound

pub returns-clause-begun : goal.returns-clause-begun
returns-clause-begun c = λ s sound. IsSound-begun s sound

pub returns-clause-ended : goal.returns-clause-ended
returns-clause-ended c = λ s sound. IsSound-ended s sound

pub returns-clause-exact : goal.returns-clause-exact
returns-clause-exact c = λ s size a sound free.
    let within = LiesWithin-span s.base sound.pages sound.size sound.place in
    let room : a + block_length size ≤ 2 ^ 64 = omega (arith, free.end, within.end, sound.bytes) in
    let small : granule_size size < 2 ^ 64 = omega (arith, le-length_for (granule_size size), free.end, free.from, within.limit, sound.bytes) in
    c.derivation_law.ensures.exact (granule_size size) a small free.unit room
