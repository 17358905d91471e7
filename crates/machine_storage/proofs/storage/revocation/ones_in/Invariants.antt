use Rattle.std.proofs.Common.{◌≡◌, ◌≤◌, ◌*◌, take}
use Rattle.std.specs.Prelude.{count_ones, sum_by}
use Rattle.machine_storage.proofs.storage.revocation.ones_in.Given as goal

abbrev pub invariant-loop-mask : goal.invariant-loop-mask
invariant-loop-mask l = record {
  count : l.count ≡ sum_by count_ones (take l.mask-index l.masks);
  most : l.count ≤ 64 * l.mask-index;
}
