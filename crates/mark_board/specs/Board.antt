-- A board and its seats as callers see them (this project's own profile).
use Rattle.std.specs.Prelude.{◌≡◌, ℕ, ◌+◌, ◌-◌, ◌*◌, ◌/◌, ◌^◌, ◌<◌, ◌≤◌, ◌&&◌, Bool, List, length, nat_le, replicate, true}
use Rattle.std.specs.Int.{bit_at}
use Rattle.mark_board.specs.Bits.{AreWords, LiesOnBoard, Within, bit}
use Rattle.mark_board.specs.Identity.{BoardId}

-- A board may have so many bits.
abbrev pub is_board_size : ℕ → Bool
is_board_size bits = nat_le 1 bits && nat_le bits 262144

-- The seats of a board may have so many parts together.
abbrev pub are_parts : ℕ → Bool
are_parts parts = nat_le 1 parts && nat_le parts 64

-- What stays of a board while its bits are set: which board it is, how many bits it has, and how many
-- parts all its seats have together.
pub record BoardState : Type 0 where
  pub identity : BoardId
  pub bits : ℕ
  pub parts : ℕ

-- A seat: its board, its parts, the bits that its own marks set first, and the bits that it has seen set.
pub record SeatState : Type 0 where
  pub board : BoardState
  pub parts : ℕ
  pub mine : List ℕ
  pub seen : List ℕ

-- What holds of every board.
abbrev pub IsBoard : BoardState → Type 0
IsBoard board = (is_board_size board.bits ≡ true) × (are_parts board.parts ≡ true)

-- The words of 64 bits that so many bits take.
abbrev pub words_for : ℕ → ℕ
words_for bits = (bits + 63) / 64

abbrev pub word_count : BoardState → ℕ
word_count board = words_for board.bits

-- No bit of a board.
abbrev pub no_bits : BoardState → List ℕ
no_bits board = replicate (word_count board) 0

-- The seat is of this board.
abbrev pub IsOf : BoardState → SeatState → Type 0
IsOf board seat = seat.board ≡ board

-- The seat that a new board is given out with has all parts, and has neither set nor seen a bit.
abbrev pub first_seat : BoardState → SeatState
first_seat board = record { board = board; parts = board.parts; mine = no_bits board; seen = no_bits board }

-- Laid on this word, no bit of the mask stands at or past the end of the board.
abbrev pub IsMaskOf : BoardState → ℕ → ℕ → Type 0
IsMaskOf board word mask = mask < 2 ^ (board.bits - 64 * word)

-- The bits found in this word are all that the seat had seen there, and maybe more.
abbrev pub HasAllSeen : SeatState → ℕ → ℕ → Type 0
HasAllSeen seat word found = (j : ℕ) → bit seat.seen word j ≤ bit_at found j

-- What holds of every seat: its sets have a word of 64 bits for each of the board's, it has seen what it
-- set, all that it has seen stands before the board's end, and it has a part, even where it has set
-- nothing, and no more parts than there are.
pub record IsSeat (seat : SeatState) : Type 0 where
  pub mine_width : length seat.mine ≡ word_count seat.board
  pub seen_width : length seat.seen ≡ word_count seat.board
  pub mine_words : AreWords seat.mine
  pub seen_words : AreWords seat.seen
  pub own : Within seat.mine seat.seen
  pub inside : LiesOnBoard seat.board.bits seat.seen
  pub some : 0 < seat.parts
  pub parts : seat.parts ≤ seat.board.parts
