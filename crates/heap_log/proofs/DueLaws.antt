-- Words that are due: one place more. Addresses of granules fit 64 bits.
use Rattle.std.proofs.Common.{◌≡◌, ◌<◌, ◌≤◌, ◌+◌, ◌*◌, ◌^◌, ◌==◌, ◌%◌, ◌++◌, ℕ, suc, false, List, length, slice_index_or, ap, arith}
use Rattle.std.specs.Prelude.{nat_le}
use Rattle.std.proofs.lemmas.Bool.{and_parts}
use Rattle.std.proofs.lemmas.Bool.Decides.{nat_tests}
use Rattle.heap_model.specs.Blocks.{Span}
use Rattle.tag_memory.specs.Cells.{Cell, Granule, IsMemory, MemoryState, cell_of, register_at}
use Rattle.heap_log.specs.Due.{as_list, due_base, due_granules, due_registers, in_granule, in_register}

pub due_registers-more : (blocks : List Span) (cells : List Cell) (n : ℕ)
    → due_registers blocks cells (n + 1) ≡ due_registers blocks cells n ++ as_list (in_register n (due_base blocks (register_at cells n)))
due_registers-more blocks cells n = let one : n + 1 ≡ suc n = omega arith in ap (due_registers blocks cells) one

pub due_granules-more : (blocks : List Span) (base : ℕ) (granules : List Granule) (n : ℕ)
    → due_granules blocks base granules (n + 1)
    ≡ due_granules blocks base granules n ++ as_list (in_granule (base + 16 * n) (due_base blocks (cell_of (slice_index_or granules n (0, false)))))
due_granules-more blocks base granules n = let one : n + 1 ≡ suc n = omega arith in ap (due_granules blocks base granules) one

pub granule_fits : (m : MemoryState) (i : ℕ) → IsMemory m → i < length m.granules → m.base + 16 * i < 2 ^ 64
granule_fits m i is here =
    let both = and_parts (m.base % 4096 == 0) (nat_le (m.base + 4096 * is.pages) (2 ^ 64)) is.place in
    let end : m.base + 4096 * is.pages ≤ 2 ^ 64 = grind (arith, nat_tests, both.1) in
    omega (arith, is.count, here, end)
