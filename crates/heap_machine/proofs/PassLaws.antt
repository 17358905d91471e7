-- What sound parts give a pass to go by.
use Rattle.std.proofs.Common.{◌≡◌, Bool, Err, List, Ok, Result, subst, sym, true}
use Rattle.std.specs.Prelude.{IfOk, IfSome}
use Rattle.std.specs.Result.{result_ok}
use Rattle.heap_model.specs.Blocks.{Span}
use Rattle.heap_model.specs.Heap.{due}
use Rattle.heap_model.specs.Laws.{due-open}
use Rattle.heap_model.specs.Quarantine.{IsShadow}
use Rattle.heap_model.specs.Sweep.{AreInDirtyPages}
use Rattle.sweep_masks.specs.Masks.{IsShadowOf}
use Rattle.machine_storage.specs.Storage.{IsStorage}
use Rattle.machine_storage.specs.declared.storage.Storage.{Storage}

-- The shadow lies where the memory does.
pub IsShadowOf-storage : (m : Storage) (shadow : List Bool) → IsStorage m → IsShadow m.heap shadow → IsShadowOf m.heap m.memory.base shadow
IsShadowOf-storage m shadow storage painted = record { start = sym storage.base; sound = storage.sound.safe.heap; painted = painted }

-- In an open epoch the words of the blocks that are due stand in dirty pages.
pub AreInDirtyPages-storage : (m : Storage) → IsStorage m → m.heap.is_open ≡ true → AreInDirtyPages m.memory.granules m.memory.dirty (due m.heap)
AreInDirtyPages-storage m storage opened =
    subst (λ (blocks : List Span). AreInDirtyPages m.memory.granules m.memory.dirty blocks) (sym (due-open m.heap opened)) storage.dirtied

-- What holds of a good result holds of the option that it is made.
pub IfSome-ok : {A E : Type 0} (P : A → Type 0) (r : Result A E) → IfOk r P → IfSome (result_ok r) P
IfSome-ok P (Ok x) holds = holds
IfSome-ok P (Err e) holds = tt
