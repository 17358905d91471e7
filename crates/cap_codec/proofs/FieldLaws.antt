-- From metadata to fields and back.
use Rattle.std.proofs.Common.{◌≡◌, ℕ, ◌+◌, ◌*◌, ◌/◌, ◌%◌, ◌^◌, ◌<◌, Bool, true, false, refl, ap, ◌∙◌, arith}
use Rattle.std.proofs.lemmas.Nat.Bits.{bit_at_xor, bit_at-lt, same_from_bits}
use Rattle.std.proofs.lemmas.Nat.{xor_lt}
use Rattle.std.specs.Int.{bit_at}
use Rattle.std.specs.Prelude.{bit_xor, ◌==◌}
use Rattle.cap_codec.specs.declared.word.Fields.{Fields}
use Rattle.cap_codec.specs.declared.word.Word.{Word}
use Rattle.cap_codec.specs.Fields.{IsValid, bit_of, bits_from, bits_with, fields_in, fields_of, metadata_of, metadata_with, null_metadata}

-- ---- exclusive or

undone : (x y : ℕ) → x < 2 → y < 2 → ((x + y) % 2 + y) % 2 ≡ x
undone x y p q = omega arith

-- An exclusive or done twice changes nothing.
xor_twice : (a n : ℕ) → bit_xor (bit_xor a n) n ≡ a
xor_twice a n =
    same_from_bits _ _
    (λ i. bit_at_xor (bit_xor a n) n i ∙ (ap (λ x. (x + bit_at n i) % 2) (bit_at_xor a n i) ∙ undone (bit_at a i) (bit_at n i) (bit_at-lt a i) (bit_at-lt n i)))

-- ---- flags

test_is_bit : (x : ℕ) → x < 2 → bit_of (x == 1) ≡ x
test_is_bit x h = grind arith

bit_is_test : (b : Bool) → (bit_of b == 1) ≡ b
bit_is_test true = refl
bit_is_test false = refl

pub bit_of-lt : (b : Bool) → bit_of b < 2
bit_of-lt true = omega arith
bit_of-lt false = omega arith

-- ---- from metadata to fields to metadata

slices_whole : (m : ℕ) → m < 2 ^ 64 →
    bits_from m 48 16 * 2 ^ 48 + bits_from m 46 2 * 2 ^ 46 + bits_from m 45 1 * 2 ^ 45 + bits_from m 27 18 * 2 ^ 27
    + bits_from m 26 1 * 2 ^ 26 + bits_from m 14 12 * 2 ^ 14 + bits_from m 0 14
    ≡ m
slices_whole m h = omega arith

metadata_with-fields_in : (m a : ℕ) → m < 2 ^ 64 → metadata_with (fields_in m a) ≡ m
metadata_with-fields_in m a h =
    omega (arith, slices_whole m h, test_is_bit (bits_from m 45 1) (omega arith), test_is_bit (bits_from m 26 1) (omega arith))

-- The bits of a word's fields are the word's bits.
pub bits_with-fields_of : (w : Word) → w.bits < 2 ^ 128 → bits_with (fields_of w) ≡ w.bits
unfolding bits_with fields_of
bits_with-fields_of w h =
    let small : metadata_of w.bits < 2 ^ 64 = xor_lt 64 (w.bits / 2 ^ 64) null_metadata (omega arith) (omega arith) in
    let e : metadata_with (fields_of w) ≡ metadata_of w.bits = metadata_with-fields_in (metadata_of w.bits) (w.bits % 2 ^ 64) small in
    let x : bit_xor (metadata_with (fields_of w)) null_metadata ≡ w.bits / 2 ^ 64 = ap (λ k. bit_xor k null_metadata) e ∙ xor_twice (w.bits / 2 ^ 64) null_metadata in
    omega (arith, x)

-- A word is known by its fields.
pub known_by_fields : (w v : Word) → w.bits < 2 ^ 128 → v.bits ≡ bits_with (fields_of w) → v ≡ w
known_by_fields w v h e = ap (λ b. let r : Word = record { bits = b } in r) (e ∙ bits_with-fields_of w h)

-- ---- from fields to metadata to fields

-- The widths that the types of the fields give.
pub record IsInRange (f : Fields) : Type 0 where
  pub perms : f.perms < 2 ^ 16
  pub address : f.address < 2 ^ 64

same_parts : (f g : Fields) → f.perms ≡ g.perms → f.reserved ≡ g.reserved → f.flag ≡ g.flag → f.otype ≡ g.otype → f.internal ≡ g.internal
    → f.top12 ≡ g.top12 → f.base14 ≡ g.base14 → f.address ≡ g.address → f ≡ g
same_parts f g p r l o i t b a =
    let make : ℕ → ℕ → Bool → ℕ → Bool → ℕ → ℕ → ℕ → Fields =
    λ p r l o i t b a. record { perms = p; reserved = r; flag = l; otype = o; internal = i; top12 = t; base14 = b; address = a } in
    let e : make f.perms f.reserved f.flag f.otype f.internal f.top12 f.base14 f.address ≡ make g.perms g.reserved g.flag g.otype g.internal g.top12 g.base14 g.address = cc in
    e

fields_in-metadata_with : (f : Fields) → IsValid f → IsInRange f → fields_in (metadata_with f) f.address ≡ f
fields_in-metadata_with f v r =
    let g = bit_of-lt f.flag in
    let i = bit_of-lt f.internal in
    let m = metadata_with f in
    let perms : bits_from m 48 16 ≡ f.perms = omega (arith, g, i) in
    let reserved : bits_from m 46 2 ≡ f.reserved = omega (arith, g, i) in
    let flag_bit : bits_from m 45 1 ≡ bit_of f.flag = omega (arith, g, i) in
    let flag : (bits_from m 45 1 == 1) ≡ f.flag = ap (λ x. x == 1) flag_bit ∙ bit_is_test f.flag in
    let otype : bits_from m 27 18 ≡ f.otype = omega (arith, g, i) in
    let internal_bit : bits_from m 26 1 ≡ bit_of f.internal = omega (arith, g, i) in
    let internal : (bits_from m 26 1 == 1) ≡ f.internal = ap (λ x. x == 1) internal_bit ∙ bit_is_test f.internal in
    let top12 : bits_from m 14 12 ≡ f.top12 = omega (arith, g, i) in
    let base14 : bits_from m 0 14 ≡ f.base14 = omega (arith, g, i) in
    same_parts (fields_in m f.address) f perms reserved flag otype internal top12 base14 refl

-- The fields of the word that has these fields are these.
pub fields_of-bits_with : (f : Fields) (w : Word) → IsValid f → IsInRange f → w.bits ≡ bits_with f → fields_of w ≡ f
unfolding bits_with fields_of
fields_of-bits_with f w v r e =
    let high : w.bits / 2 ^ 64 ≡ bit_xor (metadata_with f) null_metadata = omega arith in
    let low : w.bits % 2 ^ 64 ≡ f.address = omega arith in
    let metadata : metadata_of w.bits ≡ metadata_with f = ap (λ k. bit_xor k null_metadata) high ∙ xor_twice (metadata_with f) null_metadata in
    let parts : fields_of w ≡ fields_in (metadata_with f) f.address = cc in
    parts ∙ fields_in-metadata_with f v r

-- ---- the fields of a word made from a word

pub IsInRange-fields_of : (w : Word) → IsInRange (fields_of w)
unfolding fields_of
IsInRange-fields_of w = record { perms = omega arith; address = omega arith }

-- A word with the metadata of w and the address a.
pub fields_of-with_address : (w v : Word) (a : ℕ) → v.bits / 2 ^ 64 ≡ w.bits / 2 ^ 64 → v.bits % 2 ^ 64 ≡ a → fields_of v ≡ record (fields_of w) { address = a }
unfolding fields_of
fields_of-with_address w v a high low =
    ap (λ h. fields_in (bit_xor h null_metadata) (v.bits % 2 ^ 64)) high ∙ ap (λ n. fields_in (metadata_of w.bits) n) low

-- The bits of a word with these fields are 128.
pub bits_with-lt : (f : Fields) → IsValid f → IsInRange f → bits_with f < 2 ^ 128
unfolding bits_with
bits_with-lt f v r =
    let metadata : metadata_with f < 2 ^ 64 = omega (arith, bit_of-lt f.flag, bit_of-lt f.internal) in
    let turned : bit_xor (metadata_with f) null_metadata < 2 ^ 64 = xor_lt 64 (metadata_with f) null_metadata metadata (omega arith) in
    omega arith

pub IsValid-fields_of : (w : Word) → IsValid (fields_of w)
unfolding fields_of
IsValid-fields_of w = record { reserved = omega arith; otype = omega arith; top12 = omega arith; base14 = omega arith }
