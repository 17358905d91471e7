-- A short text: the last bytes of a room, from a start on. What is put before them has to fit, and to be UTF-8.
use Rattle.std.proofs.Common.{◌≡◌, ℕ, zero, suc, ◌+◌, ◌<◌, ◌≤◌, ◌^◌, ◌/◌, ◌%◌, Bool, cond, true, false, inl, inr, List, [], ◌∷◌, ◌++◌, drop, length, refl, sym, subst, ap, arith, length-append}
use Rattle.std.proofs.Math.ListN.{length-drop}
use Rattle.std.proofs.lemmas.Bool.{and_parts, cases_lt, le-ltb, lt-ltb, ltb-true}
use Rattle.std.proofs.lemmas.Fmt.{IsAscii-decimal}
use Rattle.std.proofs.lemmas.Str.{IsUtf8-append, IsUtf8-from_ascii}
use Rattle.std.proofs.lemmas.Str.Ascii.{IsAscii-cons, IsAscii-nil}
use Rattle.std.specs.Bool.{◌==◌}
use Rattle.std.specs.List.{list_all}
use Rattle.std.specs.Prelude.{nat_lt}
use Rattle.std.specs.Fmt.{decimal, digit_glyph, digits, digits_onto}
use Rattle.std.specs.Str.{IsAscii, IsUtf8}
use Rattle.hex.proofs.HexLemmas.{IsAscii-encode_with}
use Rattle.hex.specs.Hex.{encode_lower, lower_digits}
use Rattle.heap_reply.specs.ShortText.{IsShortText}

-- where a text of a room of 256 bytes starts
start_is : (line room : List ℕ) (start : ℕ) → length room ≡ 256 → start ≤ 256 → drop start room ≡ line → start + length line ≡ 256
start_is line room start size within view = omega (arith, ap length view, length-drop start room, size, within)

-- a text of k bytes at most fits before the line, if k more bytes do
pub fits : (k : ℕ) (text line room : List ℕ) (start : ℕ) → length text ≤ k → k + length line ≤ 256 → length room ≡ 256 → start ≤ 256 → drop start room ≡ line
    → (length text ≤ start) × (start ≤ length room)
fits k text line room start short room_left size within view =
    let e = start_is line room start size within view in
    (omega (arith, e, short, room_left), omega (arith, size, within))

-- the line is longer by k bytes at most
pub longer : (k : ℕ) (text line more rest : List ℕ) → length text ≤ k → rest ≡ line → more ≡ text ++ rest → length more ≤ k + length line
longer k text line more rest short view put = omega (arith, ap length put, length-append text rest, ap length view, short)

-- ---- UTF-8

-- what stands before a text is UTF-8 with it
pub utf8_with : (text line more : List ℕ) → IsUtf8 text → IsUtf8 line → more ≡ text ++ line → IsUtf8 more
utf8_with text line more first later put = subst IsUtf8 (sym put) (IsUtf8-append text line first later)

pub utf8_decimal : (n : ℕ) → n < 2 ^ 64 → IsUtf8 (decimal n)
utf8_decimal n small = IsUtf8-from_ascii (decimal n) (IsAscii-decimal n small)

glyph_is_ascii : (d : ℕ) → d < 16 → digit_glyph false d < 128
glyph_is_ascii d small = elim (cases_lt d 10) [ inl low ↦ rw (lt-ltb d 10 low) (omega arith) | inr high ↦ rw (le-ltb d 10 high) (omega arith) ]

either_ascii : (b : Bool) (xs ys : List ℕ) → IsAscii xs → IsAscii ys → IsAscii (cond b xs ys)
either_ascii true xs ys first second = first
either_ascii false xs ys first second = second

onto_is_ascii : (k n : ℕ) (acc : List ℕ) → IsAscii acc → IsAscii (digits_onto k 16 false n acc)
onto_is_ascii zero n acc ascii = ascii
onto_is_ascii (suc k) n acc ascii =
    let more = IsAscii-cons (digit_glyph false (n % 16)) acc (glyph_is_ascii (n % 16) (omega arith)) ascii in
    either_ascii (n / 16 == 0) _ _ more (onto_is_ascii k (n / 16) (digit_glyph false (n % 16) ∷ acc) more)

pub utf8_hexadecimal : (n : ℕ) → IsUtf8 (digits 16 false n)
unfolding digits
utf8_hexadecimal n = IsUtf8-from_ascii (digits_onto 64 16 false n []) (onto_is_ascii 64 n [] IsAscii-nil)

lower_is_ascii : IsAscii lower_digits
lower_is_ascii = All-ascii lower_digits refl where
  All-ascii : (bytes : List ℕ) → list_all (λ b. nat_lt b 128) bytes ≡ true → IsAscii bytes
  All-ascii [] all = IsAscii-nil
  All-ascii (b ∷ bytes) all = (let parts = and_parts (nat_lt b 128) (list_all (λ c. nat_lt c 128) bytes) all in IsAscii-cons b bytes (ltb-true b 128 parts.0) (All-ascii bytes parts.1))

pub utf8_bytes : (bytes : List ℕ) → IsUtf8 (encode_lower bytes)
utf8_bytes bytes = IsUtf8-from_ascii (encode_lower bytes) (IsAscii-encode_with lower_digits bytes lower_is_ascii)

-- ---- a text once more was put

pub put_is : (text room : List ℕ) (start : ℕ) (old : List ℕ) (first : ℕ) → IsUtf8 text → IsShortText start old → first + length text ≡ start
    → drop first room ≡ text ++ drop start old → IsShortText first room
put_is text room start old first utf8 is moved put = record {
  within = omega (arith, is.within, moved);
  utf8 = utf8_with text (drop start old) (drop first room) utf8 is.utf8 put;
}
