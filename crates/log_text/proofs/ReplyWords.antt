-- Which words an answer's text has, and that just these are read as it.
use Rattle.std.proofs.Common.{◌≡◌, ℕ, ◌^◌, ◌<◌, ◌≤◌, Bool, true, false, cond, codes, List, [], ◌∷◌, ◌++◌, Option, Some, None, IfSome, All, bytes_eq, length, take, drop, filter, refl, sym, ap, ap₂, subst, ◌∙◌, append_assoc, arith}
use Rattle.std.specs.Fmt.{decimal, digit_glyph, digits}
use Rattle.std.specs.List.{slice_split}
use Rattle.std.specs.Option.{option_map}
use Rattle.std.specs.Prelude.{option_and_then}
use Rattle.std.proofs.lemmas.Bool.Decides.{nat_tests}
use Rattle.std.proofs.lemmas.Fmt.{decimal_digit}
use Rattle.std.proofs.lemmas.List.{take-append-drop}
use Rattle.std.proofs.lemmas.List.Elements.{All-cons, All-nil}
use Rattle.std.proofs.lemmas.List.Splits.{slice_split_at, slice_split_none}
use Rattle.std.proofs.lemmas.Slice.Eq.{bytes_eq-Decides}
use Rattle.cap_codec.specs.Fields.{bit_of}
use Rattle.heap_reply.specs.declared.reply.Reply.{Reply}
use Rattle.heap_reply.specs.declared.reply.Reply.TheVariants.{Block, BlockAfter, NoSpace, NoSpaceAfter, Held, Done, Cleared, Swept, Begun}
use Rattle.heap_reply.specs.declared.reply.Reply.TheVariants as reply
use Rattle.heap_reply.specs.declared.reply.Shown.{Shown as ShownCell}
use Rattle.heap_reply.specs.declared.reply.Trap.{Trap}
use Rattle.heap_reply.specs.declared.reply.Trap.TheVariants as trap
use Rattle.heap_reply.specs.ReplyText.{text_of_reply, shown_text, trap_name}
use Rattle.heap_reply.specs.Display.{bit_text, hexadecimal_text, bounded_address_text}
use Rattle.trace_text.specs.Lines.{is_blank, is_nonempty, words_of}
use Rattle.trace_text.specs.Reading.{one_word_in}
use Rattle.log_text.specs.ReplyText.{FitsReply, FitsShown, IsReplyText, reply_in, bit_in, block_in, block_of, cleared_in, decimal_in, done_in, exponent_in, field_in, held_in, hexadecimal_in, kind_in, no_space_in, no_space_of, bounded_address_in, shown_in, swept_in, swept_of, trap_in, number_in_radix}
use Rattle.log_text.proofs.Numerals.{AreGlyphs, digits_are, digits_glyphs, same_bytes, written-is, written-read}

-- ---- words of a text

abbrev IsPlain : ℕ → Type 0
IsPlain byte = is_blank byte ≡ false

-- a word before a blank
word_then : (word rest : List ℕ) → 0 < length word → All IsPlain word → words_of (word ++ (32 ∷ rest)) ≡ word ∷ words_of rest
word_then [] rest some plain = absurd (omega arith)
word_then (b ∷ bs) rest some plain =
    let parts = slice_split is_blank rest in
    go (slice_split is_blank ((b ∷ bs) ++ (32 ∷ rest))) (slice_split_at is_blank (b ∷ bs) 32 rest plain refl) where
      go : (parts : List (List ℕ)) → parts ≡ (b ∷ bs) ∷ slice_split is_blank rest → filter is_nonempty parts ≡ (b ∷ bs) ∷ words_of rest
      go parts is = ap (filter is_nonempty) is

-- a word at the end
word_last : (word : List ℕ) → 0 < length word → All IsPlain word → words_of word ≡ word ∷ []
word_last [] some plain = absurd (omega arith)
word_last (b ∷ bs) some plain = ap (filter is_nonempty) (slice_split_none is_blank (b ∷ bs) plain)

-- ---- numbers

glyph_plain : (digit : ℕ) → digit < 16 → is_blank (digit_glyph false digit) ≡ false
glyph_plain digit small = grind (arith, nat_tests)

glyphs_plain : (base : ℕ) (bytes : List ℕ) → base ≤ 16 → AreGlyphs base bytes → All IsPlain bytes
glyphs_plain base [] high are = All-nil IsPlain
glyphs_plain base (b ∷ bs) high are =
    All-cons IsPlain b bs (ap is_blank (sym are.0.2) ∙ glyph_plain are.0.0 (omega (arith, are.0.1))) (glyphs_plain base bs high are.1)

decimal_plain : (n : ℕ) → All IsPlain (decimal n)
decimal_plain n = glyphs_plain 10 (decimal n) (omega arith) (digits_glyphs 10 (omega arith) (omega arith) n)

decimal_some : (n : ℕ) → n < 2 ^ 64 → 0 < length (decimal n)
decimal_some n small = (digits_are 10 (omega arith) (omega arith) n (omega arith)).0

hexadecimal_plain : (n : ℕ) → All IsPlain (hexadecimal_text n)
hexadecimal_plain n =
    All-cons IsPlain 48 (120 ∷ digits 16 false n) refl (All-cons IsPlain 120 (digits 16 false n) refl (glyphs_plain 16 (digits 16 false n) (omega arith) (digits_glyphs 16 (omega arith) (omega arith) n)))

hexadecimal_some : (n : ℕ) → 0 < length (hexadecimal_text n)
hexadecimal_some n = omega arith

pub decimal_is : (limit n : ℕ) → n < limit → limit ≤ 2 ^ 64 → decimal_in limit (decimal n) ≡ Some n
decimal_is limit n lt room = written-is 10 (omega arith) (omega arith) limit n (decimal n) lt (omega arith) refl

pub decimal_read : (limit n : ℕ) (word : List ℕ) → decimal_in limit word ≡ Some n → (n < limit) × (word ≡ decimal n)
decimal_read limit n word e = written-read 10 (omega arith) (omega arith) limit n word e

hexadecimal_is : (limit n : ℕ) → n < limit → limit ≤ 2 ^ 128 → hexadecimal_in limit (hexadecimal_text n) ≡ Some n
hexadecimal_is limit n lt room = written-is 16 (omega arith) (omega arith) limit n (digits 16 false n) lt (omega arith) refl

hexadecimal_read : (limit n : ℕ) (word : List ℕ) → hexadecimal_in limit word ≡ Some n → (n < limit) × (word ≡ hexadecimal_text n)
hexadecimal_read limit n word e = go (bytes_eq (take 2 word) (codes "0x")) refl e where
  go : (t : Bool) → bytes_eq (take 2 word) (codes "0x") ≡ t → cond t (number_in_radix 16 limit (drop 2 word)) None ≡ Some n → (n < limit) × (word ≡ hexadecimal_text n)
  go true is h =
      let read = written-read 16 (omega arith) (omega arith) limit n (drop 2 word) h in
      (read.0, sym (take-append-drop 2 word) ∙ ap₂ (λ front back. front ++ back) (same_bytes (take 2 word) (codes "0x") is) read.1)
  go false is h = absurd cc

bit_text-is : (b : Bool) → bit_in (bit_text b) ≡ Some b
bit_text-is true = ap bit_in (decimal_digit 1 (omega arith))
bit_text-is false = ap bit_in (decimal_digit 0 (omega arith))

bit_text-read : (b : Bool) (word : List ℕ) → bit_in word ≡ Some b → word ≡ bit_text b
bit_text-read b word e = go (bytes_eq word (codes "0")) (bytes_eq word (codes "1")) refl refl e where
  go : (zero one : Bool) → bytes_eq word (codes "0") ≡ zero → bytes_eq word (codes "1") ≡ one → cond zero (Some false) (cond one (Some true) None) ≡ Some b → word ≡ bit_text b
  go true one is_zero is_one h =
      let flag : false ≡ b = cc in
      same_bytes word (codes "0") is_zero ∙ sym (decimal_digit 0 (omega arith)) ∙ ap bit_text flag
  go false true is_zero is_one h =
      let flag : true ≡ b = cc in
      same_bytes word (codes "1") is_one ∙ sym (decimal_digit 1 (omega arith)) ∙ ap bit_text flag
  go false false is_zero is_one h = absurd cc

-- ---- the words of answers

abbrev swept_words : Option ℕ → List (List ℕ)
swept_words None = []
swept_words (Some cleared) = codes "swept" ∷ decimal cleared ∷ []

abbrev shown_words : ShownCell → List (List ℕ)
shown_words s =
    bit_text s.tag ∷ codes "address" ∷ hexadecimal_text s.address ∷ codes "base" ∷ hexadecimal_text s.base ∷ codes "top" ∷ hexadecimal_text s.top
    ∷ codes "perms" ∷ hexadecimal_text s.perms ∷ codes "type" ∷ hexadecimal_text s.otype ∷ codes "exponent" ∷ decimal s.exponent ∷ []

abbrev pub reply_words : Reply → List (List ℕ)
reply_words (Block base top) = codes "block" ∷ hexadecimal_text base ∷ hexadecimal_text top ∷ []
reply_words (BlockAfter base top cleared) = codes "block" ∷ hexadecimal_text base ∷ hexadecimal_text top ∷ codes "swept" ∷ decimal cleared ∷ []
reply_words NoSpace = codes "nospace" ∷ []
reply_words (NoSpaceAfter cleared) = codes "nospace" ∷ codes "swept" ∷ decimal cleared ∷ []
reply_words (Held bytes) = codes "held" ∷ decimal bytes ∷ []
reply_words Done = codes "ok" ∷ []
reply_words Cleared = codes "cleared" ∷ []
reply_words (Swept cleared released) = codes "cleared" ∷ decimal cleared ∷ codes "released" ∷ decimal released ∷ []
reply_words (Begun cleared) = codes "cleared" ∷ decimal cleared ∷ []
reply_words (reply.Shown s) = codes "tag" ∷ shown_words s
reply_words (reply.Trap t) = codes "trap" ∷ trap_name t ∷ []

hexadecimal_then : (n : ℕ) (rest : List ℕ) → words_of (hexadecimal_text n ++ (32 ∷ rest)) ≡ hexadecimal_text n ∷ words_of rest
hexadecimal_then n rest = word_then (hexadecimal_text n) rest (hexadecimal_some n) (hexadecimal_plain n)

hexadecimal_last : (n : ℕ) → words_of (hexadecimal_text n) ≡ hexadecimal_text n ∷ []
hexadecimal_last n = word_last (hexadecimal_text n) (hexadecimal_some n) (hexadecimal_plain n)

decimal_then : (n : ℕ) (rest : List ℕ) → n < 2 ^ 64 → words_of (decimal n ++ (32 ∷ rest)) ≡ decimal n ∷ words_of rest
decimal_then n rest small = word_then (decimal n) rest (decimal_some n small) (decimal_plain n)

pub decimal_last : (n : ℕ) → n < 2 ^ 64 → words_of (decimal n) ≡ decimal n ∷ []
decimal_last n small = word_last (decimal n) (decimal_some n small) (decimal_plain n)

abbrev pub after : List ℕ → List (List ℕ) → List (List ℕ)
after word words = word ∷ words

regroup : (a b c d e f rest : List ℕ) → (a ++ (b ++ (c ++ (d ++ (e ++ f))))) ++ rest ≡ a ++ (b ++ (c ++ (d ++ (e ++ (f ++ rest)))))
regroup a b c d e f rest = simp append_assoc

place_words : (address base top : ℕ) (rest : List ℕ) → words_of (bounded_address_text address base top ++ (32 ∷ rest))
    ≡ codes "address" ∷ hexadecimal_text address ∷ codes "base" ∷ hexadecimal_text base ∷ codes "top" ∷ hexadecimal_text top ∷ words_of rest
place_words address base top rest =
    let end = hexadecimal_text top ++ (32 ∷ rest) in
    let middle = hexadecimal_text base ++ (codes " top " ++ end) in
    let grouped : bounded_address_text address base top ++ (32 ∷ rest) ≡ codes "address " ++ (hexadecimal_text address ++ (codes " base " ++ middle)) =
    regroup (codes "address ") (hexadecimal_text address) (codes " base ") (hexadecimal_text base) (codes " top ") (hexadecimal_text top) (32 ∷ rest) in
    ap words_of grouped
    ∙ ap (after (codes "address")) (hexadecimal_then address (codes "base " ++ middle)
    ∙ ap (λ words. hexadecimal_text address ∷ codes "base" ∷ words) (hexadecimal_then base (codes "top " ++ end)
    ∙ ap (λ words. hexadecimal_text base ∷ codes "top" ∷ words) (hexadecimal_then top rest)))

kind_words : (perms otype exponent : ℕ) → exponent < 2 ^ 64
    → words_of (codes "perms " ++ (hexadecimal_text perms ++ (codes " type " ++ (hexadecimal_text otype ++ (codes " exponent " ++ decimal exponent)))))
    ≡ codes "perms" ∷ hexadecimal_text perms ∷ codes "type" ∷ hexadecimal_text otype ∷ codes "exponent" ∷ decimal exponent ∷ []
kind_words perms otype exponent small =
    let end = hexadecimal_text otype ++ (codes " exponent " ++ decimal exponent) in
    ap (after (codes "perms")) (hexadecimal_then perms (codes "type " ++ end)
    ∙ ap (λ words. hexadecimal_text perms ∷ codes "type" ∷ words) (hexadecimal_then otype (codes "exponent " ++ decimal exponent)
    ∙ ap (λ words. hexadecimal_text otype ∷ codes "exponent" ∷ words) (decimal_last exponent small)))

shown_words-are : (s : ShownCell) → FitsShown s → words_of (shown_text s) ≡ codes "tag" ∷ shown_words s
shown_words-are s fits =
    let kind = codes "perms " ++ (hexadecimal_text s.perms ++ (codes " type " ++ (hexadecimal_text s.otype ++ (codes " exponent " ++ decimal s.exponent)))) in
    let place = bounded_address_text s.address s.base s.top ++ (32 ∷ kind) in
    ap (after (codes "tag")) (decimal_then (bit_of s.tag) place (bit_below s.tag)
    ∙ ap (after (bit_text s.tag)) (place_words s.address s.base s.top kind
    ∙ ap (λ words. codes "address" ∷ hexadecimal_text s.address ∷ codes "base" ∷ hexadecimal_text s.base ∷ codes "top" ∷ hexadecimal_text s.top ∷ words)
    (kind_words s.perms s.otype s.exponent (omega (arith, fits.5))))) where
      bit_below : (b : Bool) → bit_of b < 2 ^ 64
      bit_below true = omega arith
      bit_below false = omega arith

pub reply_words-are : (answer : Reply) → FitsReply answer → words_of (text_of_reply answer) ≡ reply_words answer
reply_words-are (Block base top) fits = ap (after (codes "block")) (hexadecimal_then base (hexadecimal_text top) ∙ ap (after (hexadecimal_text base)) (hexadecimal_last top))
reply_words-are (BlockAfter base top cleared) fits =
    ap (after (codes "block")) (hexadecimal_then base (hexadecimal_text top ++ (codes " swept " ++ decimal cleared))
    ∙ ap (after (hexadecimal_text base)) (hexadecimal_then top (codes "swept " ++ decimal cleared)
    ∙ ap (λ words. hexadecimal_text top ∷ codes "swept" ∷ words) (decimal_last cleared (omega (arith, fits.2)))))
reply_words-are NoSpace fits = refl
reply_words-are (NoSpaceAfter cleared) fits = ap (λ words. codes "nospace" ∷ codes "swept" ∷ words) (decimal_last cleared (omega (arith, fits)))
reply_words-are (Held bytes) fits = ap (after (codes "held")) (decimal_last bytes (omega (arith, fits)))
reply_words-are Done fits = refl
reply_words-are Cleared fits = refl
reply_words-are (Swept cleared released) fits =
    ap (after (codes "cleared")) (decimal_then cleared (codes "released " ++ decimal released) (omega (arith, fits.0))
    ∙ ap (λ words. decimal cleared ∷ codes "released" ∷ words) (decimal_last released (omega (arith, fits.1))))
reply_words-are (Begun cleared) fits = ap (after (codes "cleared")) (decimal_last cleared (omega (arith, fits)))
reply_words-are (reply.Shown s) fits = shown_words-are s fits
reply_words-are (reply.Trap t) fits = trap_words t where
  trap_words : (t : Trap) → words_of (text_of_reply (reply.Trap t)) ≡ codes "trap" ∷ trap_name t ∷ []
  trap_words trap.Tag = refl
  trap_words trap.Perm = refl
  trap_words trap.Bounds = refl
  trap_words trap.Align = refl
  trap_words trap.Empty = refl
  trap_words trap.Inexact = refl
  trap_words trap.Freed = refl
  trap_words trap.NotBlock = refl
  trap_words trap.Open = refl
  trap_words trap.NotOpen = refl

-- ---- from an answer to its words and back

same_word : (word : List ℕ) → bytes_eq word word ≡ true
same_word word = (bytes_eq-Decides word word).1 refl

field_is : (name word : List ℕ) (read : List ℕ → Option ℕ) (number : ℕ) (rest : List (List ℕ)) → read word ≡ Some number → field_in name read (name ∷ word ∷ rest) ≡ Some (number, rest)
unfolding field_in
field_is name word read number rest e = rw (same_word name, e) refl

place_is : (address base top : ℕ) (rest : List (List ℕ)) → address < 2 ^ 64 → base < 2 ^ 64 → top < 2 ^ 128
    → bounded_address_in (codes "address" ∷ hexadecimal_text address ∷ codes "base" ∷ hexadecimal_text base ∷ codes "top" ∷ hexadecimal_text top ∷ rest) ≡ Some ((address, base, top), rest)
unfolding bounded_address_in
place_is address base top rest small_address small_base small_top =
    let end = codes "top" ∷ hexadecimal_text top ∷ rest in
    let middle = codes "base" ∷ hexadecimal_text base ∷ end in
    let first = field_is (codes "address") (hexadecimal_text address) (hexadecimal_in (2 ^ 64)) address middle (hexadecimal_is (2 ^ 64) address small_address (omega arith)) in
    let second = field_is (codes "base") (hexadecimal_text base) (hexadecimal_in (2 ^ 64)) base end (hexadecimal_is (2 ^ 64) base small_base (omega arith)) in
    let third = field_is (codes "top") (hexadecimal_text top) (hexadecimal_in (2 ^ 128)) top rest (hexadecimal_is (2 ^ 128) top small_top (omega arith)) in
    rw (first, second, third) refl

exponent_is : (exponent : ℕ) → exponent < 2 ^ 8 → exponent_in (codes "exponent" ∷ decimal exponent ∷ []) ≡ Some exponent
exponent_is exponent small = decimal_is (2 ^ 8) exponent small (omega arith)

kind_is : (perms otype exponent : ℕ) → perms < 2 ^ 16 → otype < 2 ^ 32 → exponent < 2 ^ 8
    → kind_in (codes "perms" ∷ hexadecimal_text perms ∷ codes "type" ∷ hexadecimal_text otype ∷ codes "exponent" ∷ decimal exponent ∷ []) ≡ Some (perms, otype, exponent)
unfolding kind_in
kind_is perms otype exponent small_perms small_type small =
    let end = codes "exponent" ∷ decimal exponent ∷ [] in
    let first = field_is (codes "perms") (hexadecimal_text perms) (hexadecimal_in (2 ^ 16)) perms (codes "type" ∷ hexadecimal_text otype ∷ end) (hexadecimal_is (2 ^ 16) perms small_perms (omega arith)) in
    let second = field_is (codes "type") (hexadecimal_text otype) (hexadecimal_in (2 ^ 32)) otype end (hexadecimal_is (2 ^ 32) otype small_type (omega arith)) in
    rw (first, second) (ap (option_map (λ e. (perms, otype, e))) (exponent_is exponent small))

shown_is : (s : ShownCell) → FitsShown s → shown_in (shown_words s) ≡ Some s
unfolding shown_in
shown_is s fits =
    let kind = codes "perms" ∷ hexadecimal_text s.perms ∷ codes "type" ∷ hexadecimal_text s.otype ∷ codes "exponent" ∷ decimal s.exponent ∷ [] in
    let third = kind_is s.perms s.otype s.exponent fits.4 fits.3 fits.5 in
    rw (bit_text-is s.tag, place_is s.address s.base s.top kind fits.1 fits.2 fits.0, third) refl

trap_is : (t : Trap) → trap_in (trap_name t) ≡ Some t
unfolding trap_in
trap_is trap.Tag = refl
trap_is trap.Perm = refl
trap_is trap.Bounds = refl
trap_is trap.Align = refl
trap_is trap.Empty = refl
trap_is trap.Inexact = refl
trap_is trap.Freed = refl
trap_is trap.NotBlock = refl
trap_is trap.Open = refl
trap_is trap.NotOpen = refl

pub reply_is : (answer : Reply) → FitsReply answer → reply_in (reply_words answer) ≡ Some answer
unfolding reply_in block_in swept_in cleared_in
reply_is (Block base top) fits = ap₂ (λ b t. block_of b t (Some None)) (hexadecimal_is (2 ^ 64) base fits.0 (omega arith)) (hexadecimal_is (2 ^ 128) top fits.1 (omega arith))
reply_is (BlockAfter base top cleared) fits =
    ap₂ (λ b t. block_of b t (option_map Some (decimal_in (2 ^ 32) (decimal cleared)))) (hexadecimal_is (2 ^ 64) base fits.0 (omega arith)) (hexadecimal_is (2 ^ 128) top fits.1 (omega arith))
    ∙ ap (λ c. block_of (Some base) (Some top) (option_map Some c)) (decimal_is (2 ^ 32) cleared fits.2 (omega arith))
reply_is NoSpace fits = refl
reply_is (NoSpaceAfter cleared) fits = ap (λ c. option_map no_space_of (option_map Some c)) (decimal_is (2 ^ 32) cleared fits (omega arith))
reply_is (Held bytes) fits = ap (option_map Held) (decimal_is (2 ^ 64) bytes fits (omega arith))
reply_is Done fits = refl
reply_is Cleared fits = refl
reply_is (Swept cleared released) fits = ap₂ swept_of (decimal_is (2 ^ 32) cleared fits.0 (omega arith)) (decimal_is (2 ^ 64) released fits.1 (omega arith))
reply_is (Begun cleared) fits = ap (option_map Begun) (decimal_is (2 ^ 32) cleared fits (omega arith))
reply_is (reply.Shown s) fits = ap (option_map reply.Shown) (shown_is s fits)
reply_is (reply.Trap t) fits = ap (option_map reply.Trap) (trap_is t)

-- ---- from words to the answer

then_read : {A B : Type 0} (f : A → Option B) (found : Option A) (y : B) → option_and_then f found ≡ Some y → (x : A) × (found ≡ Some x) × (f x ≡ Some y)
then_read f None y e = absurd cc
then_read f (Some x) y e = (x, refl, e)

pub one_read : {A : Type 0} (read : List ℕ → Option A) (words : List (List ℕ)) (x : A) → option_and_then read (one_word_in words) ≡ Some x → (word : List ℕ) × (words ≡ word ∷ []) × (read word ≡ Some x)
one_read read [] x e = absurd cc
one_read read (word ∷ []) x e = (word, refl, e)
one_read read (word ∷ other ∷ words) x e = absurd cc

swept_read : (words : List (List ℕ)) (found : Option ℕ) → swept_in words ≡ Some found → (words ≡ swept_words found) × IfSome found (λ cleared. cleared < 2 ^ 32)
unfolding swept_in
swept_read [] None e = (refl, tt)
swept_read [] (Some cleared) e = absurd cc
swept_read (name ∷ words) found e = go (bytes_eq name (codes "swept")) (option_and_then (decimal_in (2 ^ 32)) (one_word_in words)) refl refl e where
  go : (t : Bool) (number : Option ℕ) → bytes_eq name (codes "swept") ≡ t → option_and_then (decimal_in (2 ^ 32)) (one_word_in words) ≡ number → cond t (option_map Some number) None ≡ Some found
      → (name ∷ words ≡ swept_words found) × IfSome found (λ cleared. cleared < 2 ^ 32)
  go false number is read h = absurd cc
  go true None is read h = absurd cc
  go true (Some cleared) is read h =
      let one = one_read (decimal_in (2 ^ 32)) words cleared read in
      let number = decimal_read (2 ^ 32) cleared one.0 one.2 in
      let told : Some cleared ≡ found = cc in
      subst (λ (x : Option ℕ). (name ∷ words ≡ swept_words x) × IfSome x (λ cleared. cleared < 2 ^ 32)) told
      (ap₂ after (same_bytes name (codes "swept") is) (one.1 ∙ ap (λ word. word ∷ []) number.1), number.0)

-- what was read of these words, if anything was, is an answer that has them
abbrev Tells : List (List ℕ) → Option Reply → Type 0
Tells words found = IfSome found (λ answer. FitsReply answer × (words ≡ reply_words answer))

block_tells : (words : List (List ℕ)) → Tells (codes "block" ∷ words) (block_in words)
unfolding block_in
block_tells [] = tt
block_tells (b ∷ []) = tt
block_tells (b ∷ t ∷ words) = go (hexadecimal_in (2 ^ 64) b) (hexadecimal_in (2 ^ 128) t) (swept_in words) refl refl refl where
  go : (base top : Option ℕ) (sweep : Option (Option ℕ)) → hexadecimal_in (2 ^ 64) b ≡ base → hexadecimal_in (2 ^ 128) t ≡ top → swept_in words ≡ sweep
      → Tells (codes "block" ∷ b ∷ t ∷ words) (block_of base top sweep)
  go (Some base) (Some top) (Some None) is_base is_top is_sweep =
      let first = hexadecimal_read (2 ^ 64) base b is_base in
      let second = hexadecimal_read (2 ^ 128) top t is_top in
      ((first.0, second.0), ap (after (codes "block")) (ap₂ after first.1 (ap₂ after second.1 (swept_read words None is_sweep).0)))
  go (Some base) (Some top) (Some (Some cleared)) is_base is_top is_sweep =
      let first = hexadecimal_read (2 ^ 64) base b is_base in
      let second = hexadecimal_read (2 ^ 128) top t is_top in
      let third = swept_read words (Some cleared) is_sweep in
      ((first.0, second.0, third.1), ap (after (codes "block")) (ap₂ after first.1 (ap₂ after second.1 third.0)))
  go (Some base) (Some top) None is_base is_top is_sweep = tt
  go (Some base) None sweep is_base is_top is_sweep = tt
  go None top sweep is_base is_top is_sweep = tt

no_space_tells : (words : List (List ℕ)) → Tells (codes "nospace" ∷ words) (no_space_in words)
no_space_tells words = go (swept_in words) refl where
  go : (sweep : Option (Option ℕ)) → swept_in words ≡ sweep → Tells (codes "nospace" ∷ words) (option_map no_space_of sweep)
  go None is = tt
  go (Some None) is = (tt, ap (after (codes "nospace")) (swept_read words None is).0)
  go (Some (Some cleared)) is = let sweep = swept_read words (Some cleared) is in (sweep.1, ap (after (codes "nospace")) sweep.0)

held_tells : (words : List (List ℕ)) → Tells (codes "held" ∷ words) (held_in words)
held_tells words = go (option_and_then (decimal_in (2 ^ 64)) (one_word_in words)) refl where
  go : (found : Option ℕ) → option_and_then (decimal_in (2 ^ 64)) (one_word_in words) ≡ found → Tells (codes "held" ∷ words) (option_map Held found)
  go None is = tt
  go (Some bytes) is =
      let one = one_read (decimal_in (2 ^ 64)) words bytes is in
      let number = decimal_read (2 ^ 64) bytes one.0 one.2 in
      (number.0, ap (after (codes "held")) (one.1 ∙ ap (λ word. word ∷ []) number.1))

done_tells : (words : List (List ℕ)) → Tells (codes "ok" ∷ words) (done_in words)
done_tells [] = (tt, refl)
done_tells (word ∷ words) = tt

cleared_tells : (words : List (List ℕ)) → Tells (codes "cleared" ∷ words) (cleared_in words)
unfolding cleared_in
cleared_tells [] = (tt, refl)
cleared_tells (c ∷ []) = go (decimal_in (2 ^ 32) c) refl where
  go : (found : Option ℕ) → decimal_in (2 ^ 32) c ≡ found → Tells (codes "cleared" ∷ c ∷ []) (option_map Begun found)
  go None is = tt
  go (Some cleared) is = let number = decimal_read (2 ^ 32) cleared c is in (number.0, ap (λ word. codes "cleared" ∷ word ∷ []) number.1)
cleared_tells (c ∷ name ∷ []) = tt
cleared_tells (c ∷ name ∷ r ∷ []) = go (bytes_eq name (codes "released")) (decimal_in (2 ^ 32) c) (decimal_in (2 ^ 64) r) refl refl refl where
  go : (t : Bool) (cleared released : Option ℕ) → bytes_eq name (codes "released") ≡ t → decimal_in (2 ^ 32) c ≡ cleared → decimal_in (2 ^ 64) r ≡ released
      → Tells (codes "cleared" ∷ c ∷ name ∷ r ∷ []) (cond t (swept_of cleared released) None)
  go true (Some cleared) (Some released) is is_cleared is_released =
      let first = decimal_read (2 ^ 32) cleared c is_cleared in
      let second = decimal_read (2 ^ 64) released r is_released in
      ((first.0, second.0), ap (after (codes "cleared")) (ap₂ after first.1 (ap₂ after (same_bytes name (codes "released") is) (ap (λ word. word ∷ []) second.1))))
  go true (Some cleared) None is is_cleared is_released = tt
  go true None released is is_cleared is_released = tt
  go false cleared released is is_cleared is_released = tt
cleared_tells (c ∷ name ∷ r ∷ other ∷ words) = tt

field_read : (name : List ℕ) (read : List ℕ → Option ℕ) (words : List (List ℕ)) (found : ℕ × List (List ℕ)) → field_in name read words ≡ Some found
    → (word : List ℕ) × (words ≡ name ∷ word ∷ found.1) × (read word ≡ Some found.0)
unfolding field_in
field_read name read [] found e = absurd cc
field_read name read (first ∷ []) found e = absurd cc
field_read name read (first ∷ second ∷ words) found e = go (bytes_eq first name) (read second) refl refl e where
  go : (t : Bool) (number : Option ℕ) → bytes_eq first name ≡ t → read second ≡ number → cond t (option_map (λ n. (n, words)) number) None ≡ Some found
      → (word : List ℕ) × (first ∷ second ∷ words ≡ name ∷ word ∷ found.1) × (read word ≡ Some found.0)
  go true (Some number) is h e =
      let same : (number, words) ≡ found = cc in
      (second, ap₂ (λ w ws. w ∷ second ∷ ws) (same_bytes first name is) (ap (λ f. f.1) same), h ∙ ap (λ f. Some f.0) same)
  go true None is h e = absurd cc
  go false number is h e = absurd cc

hexadecimal_field_read : (name : List ℕ) (limit : ℕ) (words : List (List ℕ)) (found : ℕ × List (List ℕ)) → field_in name (hexadecimal_in limit) words ≡ Some found
    → (found.0 < limit) × (words ≡ name ∷ hexadecimal_text found.0 ∷ found.1)
hexadecimal_field_read name limit words found e =
    let field = field_read name (hexadecimal_in limit) words found e in
    let number = hexadecimal_read limit found.0 field.0 field.2 in
    (number.0, field.1 ∙ ap (λ word. name ∷ word ∷ found.1) number.1)

exponent_read : (words : List (List ℕ)) (exponent : ℕ) → exponent_in words ≡ Some exponent → (exponent < 2 ^ 8) × (words ≡ codes "exponent" ∷ decimal exponent ∷ [])
exponent_read [] exponent e = absurd cc
exponent_read (first ∷ []) exponent e = absurd cc
exponent_read (first ∷ second ∷ []) exponent e = go (bytes_eq first (codes "exponent")) refl e where
  go : (t : Bool) → bytes_eq first (codes "exponent") ≡ t → cond t (decimal_in (2 ^ 8) second) None ≡ Some exponent → (exponent < 2 ^ 8) × (first ∷ second ∷ [] ≡ codes "exponent" ∷ decimal exponent ∷ [])
  go true is h = let number = decimal_read (2 ^ 8) exponent second h in (number.0, ap₂ (λ a b. a ∷ b ∷ []) (same_bytes first (codes "exponent") is) number.1)
  go false is h = absurd cc
exponent_read (first ∷ second ∷ third ∷ words) exponent e = absurd cc

abbrev PlaceRead : List (List ℕ) → (ℕ × ℕ × ℕ) → List (List ℕ) → Type 0
PlaceRead words place rest =
    (place.0 < 2 ^ 64) × (place.1 < 2 ^ 64) × (place.2 < 2 ^ 128)
    × (words ≡ codes "address" ∷ hexadecimal_text place.0 ∷ codes "base" ∷ hexadecimal_text place.1 ∷ codes "top" ∷ hexadecimal_text place.2 ∷ rest)

place_read : (words : List (List ℕ)) (found : (ℕ × ℕ × ℕ) × List (List ℕ)) → bounded_address_in words ≡ Some found → PlaceRead words found.0 found.1
unfolding bounded_address_in
place_read words found e =
    let first = then_read _ (field_in (codes "address") (hexadecimal_in (2 ^ 64)) words) found e in
    let second = then_read _ (field_in (codes "base") (hexadecimal_in (2 ^ 64)) first.0.1) found first.2 in
    let third = then_read _ (field_in (codes "top") (hexadecimal_in (2 ^ 128)) second.0.1) found second.2 in
    let address = hexadecimal_field_read (codes "address") (2 ^ 64) words first.0 first.1 in
    let base = hexadecimal_field_read (codes "base") (2 ^ 64) first.0.1 second.0 second.1 in
    let top = hexadecimal_field_read (codes "top") (2 ^ 128) second.0.1 third.0 third.1 in
    let told : ((first.0.0, second.0.0, third.0.0), third.0.1) ≡ found = (let same = third.2 in cc) in
    subst (λ (f : (ℕ × ℕ × ℕ) × List (List ℕ)). PlaceRead words f.0 f.1) told
    (address.0, base.0, top.0, address.1 ∙ ap (λ ws. codes "address" ∷ hexadecimal_text first.0.0 ∷ ws) (base.1 ∙ ap (λ ws. codes "base" ∷ hexadecimal_text second.0.0 ∷ ws) top.1))

abbrev KindRead : List (List ℕ) → (ℕ × ℕ × ℕ) → Type 0
KindRead words kind =
    (kind.0 < 2 ^ 16) × (kind.1 < 2 ^ 32) × (kind.2 < 2 ^ 8)
    × (words ≡ codes "perms" ∷ hexadecimal_text kind.0 ∷ codes "type" ∷ hexadecimal_text kind.1 ∷ codes "exponent" ∷ decimal kind.2 ∷ [])

kind_read : (words : List (List ℕ)) (found : ℕ × ℕ × ℕ) → kind_in words ≡ Some found → KindRead words found
unfolding kind_in
kind_read words found e =
    let first = then_read _ (field_in (codes "perms") (hexadecimal_in (2 ^ 16)) words) found e in
    let second = then_read _ (field_in (codes "type") (hexadecimal_in (2 ^ 32)) first.0.1) found first.2 in
    let third = then_read _ (exponent_in second.0.1) found second.2 in
    let perms = hexadecimal_field_read (codes "perms") (2 ^ 16) words first.0 first.1 in
    let otype = hexadecimal_field_read (codes "type") (2 ^ 32) first.0.1 second.0 second.1 in
    let exponent = exponent_read second.0.1 third.0 third.1 in
    let told : (first.0.0, second.0.0, third.0) ≡ found = (let same = third.2 in cc) in
    subst (KindRead words) told
    (perms.0, otype.0, exponent.0, perms.1 ∙ ap (λ ws. codes "perms" ∷ hexadecimal_text first.0.0 ∷ ws) (otype.1 ∙ ap (λ ws. codes "type" ∷ hexadecimal_text second.0.0 ∷ ws) exponent.1))

-- a flag, a place and a kind that were read one after the other
shown_of : (first : List ℕ) (words : List (List ℕ)) (flag : Bool) (place : (ℕ × ℕ × ℕ) × List (List ℕ)) (kind : ℕ × ℕ × ℕ) (s : ShownCell)
    → bit_in first ≡ Some flag → PlaceRead words place.0 place.1 → KindRead place.1 kind
    → Some (record { top = place.0.2; address = place.0.0; base = place.0.1; otype = kind.1; perms = kind.0; exponent = kind.2; tag = flag }) ≡ Some s
    → FitsShown s × (first ∷ words ≡ shown_words s)
shown_of first words flag place kind s is_flag is_place is_kind told =
    let cell : ShownCell = record { top = place.0.2; address = place.0.0; base = place.0.1; otype = kind.1; perms = kind.0; exponent = kind.2; tag = flag } in
    let same : cell ≡ s = cc in
    subst (λ (x : ShownCell). FitsShown x × (first ∷ words ≡ shown_words x)) {x = cell} same (
      (is_place.2, is_place.0, is_place.1, is_kind.1, is_kind.0, is_kind.2),
      ap₂ after (bit_text-read flag first is_flag) (is_place.3
          ∙ ap (λ ws. codes "address" ∷ hexadecimal_text place.0.0 ∷ codes "base" ∷ hexadecimal_text place.0.1 ∷ codes "top" ∷ hexadecimal_text place.0.2 ∷ ws) is_kind.3),
    )

shown_read : (words : List (List ℕ)) (s : ShownCell) → shown_in words ≡ Some s → FitsShown s × (words ≡ shown_words s)
unfolding shown_in
shown_read [] s e = absurd cc
shown_read (first ∷ words) s e =
    let flag = then_read _ (bit_in first) s e in
    let place = then_read _ (bounded_address_in words) s flag.2 in
    let kind = then_read _ (kind_in place.0.1) s place.2 in
    shown_of first words flag.0 place.0 kind.0 s flag.1 (place_read words place.0 place.1) (kind_read place.0.1 kind.0 kind.1) kind.2

shown_tells : (words : List (List ℕ)) → Tells (codes "tag" ∷ words) (option_map reply.Shown (shown_in words))
shown_tells words = go (shown_in words) refl where
  go : (found : Option ShownCell) → shown_in words ≡ found → Tells (codes "tag" ∷ words) (option_map reply.Shown found)
  go None is = tt
  go (Some s) is = let read = shown_read words s is in (read.0, ap (after (codes "tag")) read.1)

-- the name of a trap that was read, if one was
abbrev Names : List ℕ → Option Trap → Type 0
Names name found = IfSome found (λ t. name ≡ trap_name t)

trap_named : (word name : List ℕ) (t : Trap) (other : Option Trap) → word ≡ trap_name t → Names name other → Names name (cond (bytes_eq name word) (Some t) other)
trap_named word name t other is if_other = go (bytes_eq name word) refl where
  go : (same : Bool) → bytes_eq name word ≡ same → Names name (cond same (Some t) other)
  go true same = same_bytes name word same ∙ is
  go false same = if_other

trap_names : (name : List ℕ) → Names name (trap_in name)
unfolding trap_in
trap_names name =
    trap_named (codes "tag") name trap.Tag _ refl (trap_named (codes "perm") name trap.Perm _ refl (trap_named (codes "bounds") name trap.Bounds _ refl
    (trap_named (codes "align") name trap.Align _ refl (trap_named (codes "empty") name trap.Empty _ refl (trap_named (codes "inexact") name trap.Inexact _ refl
    (trap_named (codes "freed") name trap.Freed _ refl (trap_named (codes "notblock") name trap.NotBlock _ refl (trap_named (codes "open") name trap.Open _ refl
    (trap_named (codes "notopen") name trap.NotOpen None refl tt)))))))))

trap_tells : (words : List (List ℕ)) → Tells (codes "trap" ∷ words) (option_map reply.Trap (option_and_then trap_in (one_word_in words)))
trap_tells [] = tt
trap_tells (name ∷ []) = go (trap_in name) (trap_names name) where
  go : (found : Option Trap) → Names name found → Tells (codes "trap" ∷ name ∷ []) (option_map reply.Trap found)
  go None is = tt
  go (Some t) is = (tt, ap (λ word. codes "trap" ∷ word ∷ []) is)
trap_tells (name ∷ other ∷ words) = tt

-- a name that is this word or another
named : (word name : List ℕ) (words : List (List ℕ)) (this other : Option Reply) → Tells (word ∷ words) this → Tells (name ∷ words) other → Tells (name ∷ words) (cond (bytes_eq name word) this other)
named word name words this other if_this if_other = go (bytes_eq name word) refl where
  go : (t : Bool) → bytes_eq name word ≡ t → Tells (name ∷ words) (cond t this other)
  go true is = subst (λ w. Tells (w ∷ words) this) (sym (same_bytes name word is)) if_this
  go false is = if_other

reply_tells : (words : List (List ℕ)) → Tells words (reply_in words)
unfolding reply_in
reply_tells [] = tt
reply_tells (name ∷ words) =
    named (codes "block") name words _ _ (block_tells words) (named (codes "nospace") name words _ _ (no_space_tells words) (named (codes "held") name words _ _ (held_tells words)
    (named (codes "ok") name words _ _ (done_tells words) (named (codes "cleared") name words _ _ (cleared_tells words) (named (codes "tag") name words _ _ (shown_tells words)
    (named (codes "trap") name words _ None (trap_tells words) tt))))))

pub IsReplyText-read : (words : List (List ℕ)) (answer : Reply) → reply_in words ≡ Some answer → IsReplyText words answer
IsReplyText-read words answer e =
    let told : FitsReply answer × (words ≡ reply_words answer) = subst (Tells words) e (reply_tells words) in
    (told.0, told.1 ∙ sym (reply_words-are answer told.0))

pub reply_in-IsReplyText : (words : List (List ℕ)) (answer : Reply) → IsReplyText words answer → reply_in words ≡ Some answer
reply_in-IsReplyText words answer is = ap reply_in (is.1 ∙ reply_words-are answer is.0) ∙ reply_is answer is.0

pub one_answer : (words : List (List ℕ)) (answer other : Reply) → IsReplyText words answer → IsReplyText words other → answer ≡ other
one_answer words answer other is is_other =
    let first = reply_in-IsReplyText words answer is in
    let second = reply_in-IsReplyText words other is_other in
    cc
