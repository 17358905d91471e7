-- The rule of a board's table: a set of bits and a view for each seat, which every step keeps lawful.
-- The words of the table are the set; what the table keeps for each seat is its view.
use Rattle.std.specs.Prelude.{◌≡◌, ℕ, ◌+◌, ◌-◌, ◌*◌, ◌<◌, ◌≤◌, List, [], bit_or, length, replicate, sum_by}
use Rattle.std.specs.Int.{bit_at}
use Rattle.atomic_table.specs.Table.{Me, State, Step}
use mathlib.Core.Option.{some}
use lib.ListN.{get_elem?}
use Rattle.mark_board.specs.Bits.{Apart, AreWords, LiesOnBoard, Within, bit, with_bits, union, bits_without}
use Rattle.mark_board.specs.Board.{IsSeat, SeatState, words_for}
use Rattle.mark_board.specs.Identity.{BoardId}
use Rattle.mark_board.specs.declared.rule.Shape.{Shape}
use Rattle.mark_board.specs.declared.rule.View.{View}

-- A view that was not just joined from two.
abbrev pub view : Shape → ℕ → List ℕ → List ℕ → View
view shape parts mine seen = record { shape = shape; parts = parts; mine = mine; seen = seen; left = []; right = [] }

-- The view of the first seat.
abbrev pub first_view : Shape → View
first_view shape = view shape shape.parts (replicate (words_for shape.bits) 0) (replicate (words_for shape.bits) 0)

-- The view of a seat that was joined to another.
abbrev pub spent_view : View
spent_view = view (record { bits = 0; parts = 0 }) 0 [] []

-- The seat with this view.
abbrev pub seat_of : BoardId → View → SeatState
seat_of id v = record { board = record { identity = id; bits = v.shape.bits; parts = v.shape.parts }; parts = v.parts; mine = v.mine; seen = v.seen }

-- What a seat keeps: its number of parts is its view's, it holds no slot, and what it knows is sound.
abbrev pub IsKept : ℕ → BoardId → Me (Unit {0}) View → Type 0
IsKept parts id me = (parts ≡ me.0.parts) × (me.1 ≡ []) × IsSeat (seat_of id me.0)

-- Both of a seat's sets are of words, what it set first it has seen, what it has seen is set, without a
-- part it has set nothing first, with one it knows the board's shape, and the two that it was joined from
-- had no bit in common.
pub record IsHonest (shape : Shape) (words : List ℕ) (v : View) : Type 0 where
  pub mine_words : AreWords v.mine
  pub seen_words : AreWords v.seen
  pub own : Within v.mine v.seen
  pub set : Within v.seen words
  pub none : v.parts ≡ 0 → (w j : ℕ) → bit v.mine w j ≡ 0
  pub known : 0 < v.parts → v.shape ≡ shape
  pub apart : Apart v.left v.right

-- The set has its words, of 64 bits, and no bit past the board's end. All parts add up, and each bit that is set was
-- set first by exactly one seat.
pub record IsLawful (shape : Shape) (words : List ℕ) (views : List View) : Type 0 where
  pub width : length words ≡ words_for shape.bits
  pub are_words : AreWords words
  pub inside : LiesOnBoard shape.bits words
  pub parts : sum_by (λ v. v.parts) views ≡ shape.parts
  pub first : (w j : ℕ) → sum_by (λ v. bit v.mine w j) views ≡ bit words w j
  pub honest : (id : ℕ) (v : View) → get_elem? views id ≡ some v → IsHonest shape words v

abbrev pub IsLawfulState : Shape → State (Unit {0}) View → Type 0
IsLawfulState shape s = IsLawful shape s.words s.views

-- The view after a mark of these bits of a word that was found so.
abbrev pub marked_view : View → ℕ → ℕ → ℕ → View
marked_view v word mask found = view v.shape v.parts (with_bits v.mine word (bits_without mask found)) (with_bits v.seen word (bit_or found mask))

-- What a mark tells: the word found has all that the seat had seen there, and no bit past the board's end.
abbrev pub Marks : Step (Unit {0}) → Me (Unit {0}) View → ℕ → Me (Unit {0}) View → Type 0
Marks step me found after = ((j : ℕ) → bit me.0.seen step.word j ≤ bit_at found j)
    × ((j : ℕ) → me.0.shape.bits ≤ 64 * step.word + j → bit_at found j ≡ 0)
    × (after ≡ (marked_view me.0 step.word step.first found, me.1))

-- The view without what it was joined from.
abbrev pub settled_view : View → View
settled_view v = view v.shape v.parts v.mine v.seen

-- What the load after a join tells: the two had no bit in common, and have no more parts than there are.
abbrev pub Settles : Step (Unit {0}) → Me (Unit {0}) View → ℕ → Me (Unit {0}) View → Type 0
Settles step me found after = Apart me.0.left me.0.right
    × (me.0.parts ≤ me.0.shape.parts)
    × (after ≡ (settled_view me.0, me.1))

-- What a split leaves with the seat, and what it gives to the new one.
abbrev pub kept_part : View → View
kept_part v = view v.shape (v.parts - 1) v.mine v.seen

abbrev pub cut_part : View → View
cut_part v = view v.shape 1 (replicate (length v.mine) 0) v.seen

-- Two views made one.
abbrev pub both_parts : View → View → View
both_parts v w = record { shape = v.shape; parts = v.parts + w.parts; mine = union v.mine w.mine; seen = union v.seen w.seen; left = v.mine; right = w.mine }
