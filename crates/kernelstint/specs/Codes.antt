-- What exports answer beside a value: the version of the library, and codes for what no value can be made of.
use Rattle.std.specs.Prelude.{◌+◌, ◌*◌, ◌^◌, ℕ, Bool, if◌then◌else◌}

-- The version 0.1.0: 8 bits for each part.
abbrev pub version : ℕ
version = 0 * 2 ^ 16 + 1 * 2 ^ 8 + 0

abbrev pub done : ℕ
done = 0

-- Bytes that aren't 16, fields past their widths, and bounds that end before they begin or past 2 ^ 64.
abbrev pub bad_length : ℕ
bad_length = 1

abbrev pub bad_fields : ℕ
bad_fields = 2

abbrev pub bad_bounds : ℕ
bad_bounds = 3

-- The code of a call whose arguments pass or don't.
abbrev pub code_of : Bool → ℕ → ℕ
code_of passes code = if passes then done else code

-- What calls on the bytes of states can't be asked, or can't do. The code 4 is for pointers that are null, and no export answers it.
abbrev pub bad_room : ℕ
bad_room = 5

abbrev pub bad_state : ℕ
bad_state = 6

abbrev pub bad_size : ℕ
bad_size = 7

abbrev pub bad_base : ℕ
bad_base = 8

abbrev pub bad_register : ℕ
bad_register = 9

abbrev pub bad_address : ℕ
bad_address = 10

abbrev pub short_text : ℕ
short_text = 11

abbrev pub passed_over : ℕ
passed_over = 12

abbrev pub bad_line : ℕ
bad_line = 13

abbrev pub no_memory : ℕ
no_memory = 14

abbrev pub bad_command : ℕ
bad_command = 15

abbrev pub bad_reply : ℕ
bad_reply = 16

-- An answer was judged, and isn't allowed.
abbrev pub differs : ℕ
differs = 17

abbrev pub bad_trace : ℕ
bad_trace = 18
