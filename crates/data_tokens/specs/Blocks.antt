-- What data tells of blocks: those that changed, each with what became of it. First come all that ended, and then, by
-- their states, those that weren't in that state before.
use Rattle.std.specs.Prelude.{ℕ, ◌||◌, Bool, not, List, [], ◌∷◌, ◌++◌, codes, filter, flat_map}
use Rattle.json.specs.Token.{Token, begin_object, end_object, key, string}
use Rattle.heap_model.specs.Blocks.{Span, end_of, is_block, start_of}
use Rattle.heap_model.specs.Heap.{HeapState}
use Rattle.heap_reply.specs.Display.{hexadecimal_text}

-- Where a block starts and ends.
abbrev pub bounds_tokens : Span → List Token
bounds_tokens block =
    key (codes "base") ∷ string (hexadecimal_text (start_of block)) ∷ key (codes "top") ∷ string (hexadecimal_text (end_of block)) ∷ []

-- A block, with this word for what it is now.
abbrev pub block_tokens : List ℕ → Span → List Token
block_tokens state block = begin_object ∷ (bounds_tokens block ++ key (codes "state") ∷ string state ∷ end_object ∷ [])

abbrev pub named_blocks_tokens : List ℕ → List Span → List Token
named_blocks_tokens state blocks = flat_map (block_tokens state) blocks

-- One of these has just the block's bounds.
abbrev pub has_block : List Span → Span → Bool
has_block blocks block = is_block blocks (start_of block) (end_of block)

-- The block is live, waits or is painted.
abbrev pub is_known : HeapState → Span → Bool
is_known heap block = has_block heap.live block || (has_block heap.waiting block || has_block heap.painted block)

-- Those of the new ones that weren't there before.
abbrev pub come_in : List Span → List Span → List Span
come_in old new = filter (λ block. not (has_block old block)) new

-- Those of the old heap that the new one doesn't know.
abbrev pub ended_in : HeapState → HeapState → List Span
ended_in old new = filter (λ block. not (is_known new block)) (old.live ++ (old.waiting ++ old.painted))

abbrev pub blocks_tokens : HeapState → HeapState → List Token
blocks_tokens old new =
    named_blocks_tokens (codes "free") (ended_in old new)
    ++ (named_blocks_tokens (codes "live") (come_in old.live new.live)
    ++ (named_blocks_tokens (codes "waiting") (come_in old.waiting new.waiting) ++ named_blocks_tokens (codes "painted") (come_in old.painted new.painted)))
