-- Where a heap can lie, by this project's own profile: so many pages may be had, and may begin at its base.
use Rattle.std.specs.Prelude.{ℕ, IsTrue}
use Rattle.tag_memory.specs.Extent.{is_base, is_size}

pub record IsHeap (base pages : ℕ) : Type 0 where
  pub size : IsTrue (is_size pages)
  pub place : IsTrue (is_base base pages)
