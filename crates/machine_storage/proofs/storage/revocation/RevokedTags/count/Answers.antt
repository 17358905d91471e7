use Rattle.std.proofs.Common.{◌≡◌, ◌<◌, ◌+◌, ◌^◌, ℕ, arith, get_or, refl}
use Rattle.std.specs.Prelude.{count_ones, sum_by}
use Rattle.machine_storage.proofs.SweepStep.{count-revoked}
use Rattle.machine_storage.proofs.storage.revocation.RevokedTags.count.Goals as goal

pub returns : goal.returns
returns c =
    λ held memory registers revoked.
    let tags = c.args.self.now in
    let words : (w : ℕ) → get_or tags.masks.items w 0 < 2 ^ 64 = rw c.deref.ensures.value at c.ones_in-granules.ensures.words in
    let told : c.ones_in-granules.result + count_ones tags.registers ≡ sum_by count_ones tags.masks.items + count_ones tags.registers = rw (c.ones_in-granules.ensures.count, c.deref.ensures.value) refl in
    count-revoked held memory registers tags (c.ones_in-granules.result + count_ones tags.registers) revoked words (omega arith) told
