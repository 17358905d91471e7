-- Where a heap lies, in plain numbers.
use Rattle.std.proofs.Common.{◌≡◌, ◌≤◌, ◌+◌, ◌*◌, ◌%◌, ◌^◌, ◌==◌, nat_le, ℕ, Bool, true, arith}
use Rattle.std.proofs.lemmas.Bool.{and_parts, leb-true}
use Rattle.std.proofs.lemmas.Bool.Decides.{nat_tests}
use Rattle.tag_memory.specs.Extent.{is_base, is_size}

-- Pages that a heap may have, from a base that it may have.
pub record LiesWithin (base pages : ℕ) : Type 0 where
  pub some : 1 ≤ pages
  pub limit : pages ≤ 1024
  pub multiple : base % 4096 ≡ 0
  pub end : base + 4096 * pages ≤ 2 ^ 64

pub LiesWithin-span : (base pages : ℕ) → is_size pages ≡ true → is_base base pages ≡ true → LiesWithin base pages
LiesWithin-span base pages size place =
    let sizes = and_parts (nat_le 1 pages) (nat_le pages 1024) size in
    let places = and_parts (base % 4096 == 0) (nat_le (base + 4096 * pages) (2 ^ 64)) place in
    record {
      some = leb-true 1 pages sizes.0;
      limit = leb-true pages 1024 sizes.1;
      multiple = grind (arith, nat_tests);
      end = leb-true (base + 4096 * pages) (2 ^ 64) places.1;
    }
