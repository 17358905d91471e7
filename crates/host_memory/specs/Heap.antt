-- What the allocator's type is, and what it asks for when it takes a block back.
pub use Rattle.std.specs.contracts.alloc.Global.{the_row}
pub use Rattle.std.specs.contracts.impls.GlobalAllocator.TheImpl.{ghosts}
