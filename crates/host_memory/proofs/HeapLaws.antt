-- The laws of the allocator's type, and that it, and what it asks for, may go to another thread.
pub use Rattle.std.proofs.Crossing.{frees}
pub use Rattle.std.proofs.alloc.Global.TheLaws.{the_row_laws}
pub use Rattle.std.proofs.alloc.Global.TheSendSync.{the_field_send}
