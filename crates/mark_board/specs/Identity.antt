-- Which board it is. Callers see of it only whether two are the same; that it is the table beneath is known
-- here and to the rule alone.
use Rattle.std.specs.Prelude.{◌≡◌}
use Rattle.std.specs.Coded.{Coded}
use Rattle.atomic_table.specs.Seated.{TableId, table_id_coded}

pub BoardId : Type 0
BoardId = TableId

-- The board on this table.
pub board_id : TableId → BoardId
unfolding BoardId
board_id table = table

-- Two tables have two boards.
pub board_id-injective : (first second : TableId) → board_id first ≡ board_id second → first ≡ second
unfolding BoardId board_id
board_id-injective first second same = same

pub board_id_coded : Coded BoardId
unfolding BoardId
board_id_coded = table_id_coded
