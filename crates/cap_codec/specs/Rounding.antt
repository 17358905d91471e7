-- Bounds rounded outward to what a word can hold, and the lengths that a word can hold (Woodruff et al.
-- 2019, CHERI Concentrate: encoding of the bounds; CHERI ISA version 9, UCAM-CL-TR-987: representable
-- length and alignment mask).
use Rattle.std.specs.Prelude.{◌≡◌, ◌<◌, ◌≤◌, ◌+◌, ◌-◌, ◌*◌, ◌/◌, ◌%◌, ◌^◌, nat_lt, zero, suc, ℕ, Bool, true, false, if◌then◌else◌}
use Rattle.cap_codec.specs.declared.word.Bounds.{Bounds}
use Rattle.cap_codec.specs.declared.word.Fields.{Fields}
use Rattle.cap_codec.specs.declared.word.Word.{Word}
use Rattle.cap_codec.specs.Bounds.{bounds_of}
use Rattle.cap_codec.specs.Fields.{fields_of}

-- n down to a multiple of 2 ^ k.
abbrev pub round_down : ℕ → ℕ → ℕ
round_down k n = n / 2 ^ k * 2 ^ k

-- n up to a multiple of 2 ^ k.
abbrev pub round_up : ℕ → ℕ → ℕ
round_up k n = (n + (2 ^ k - 1)) / 2 ^ k * 2 ^ k

-- How long the bounds are once both are rounded outward to multiples of 2 ^ (e + 3).
abbrev pub rounded_length : ℕ → ℕ → ℕ → ℕ
rounded_length base top e = round_up (e + 3) top - round_down (e + 3) base

-- Bounds rounded for the exponent e are short enough for it.
abbrev pub Fits : ℕ → ℕ → ℕ → Type 0
Fits base top e = rounded_length base top e < 2 ^ (e + 13)

-- e is the least exponent for which the bounds, rounded, are short enough.
pub record IsExponent (base top e : ℕ) : Type 0 where
  pub fits : Fits base top e
  pub least : (k : ℕ) → Fits base top k → e ≤ k

-- e is the place of the length's highest bit less 12, or one more, and at most 52.
pub record IsNearExponent (length e : ℕ) : Type 0 where
  pub least : 2 ^ (e + 11) ≤ length
  pub most : length < 2 ^ (e + 13)
  pub limit : e ≤ 52

-- The first number from `from` on that passes; from + more where none before it does.
unfoldable pub first_from : (ℕ → Bool) → ℕ → ℕ → ℕ
first_from p from zero = from
first_from p from (suc more) = if p from then from else first_from p (suc from) more

-- That exponent. For bounds within 2 ^ 64 it is at most 52.
unfoldable pub exponent_for : ℕ → ℕ → ℕ
exponent_for base top = first_from (λ e. nat_lt (rounded_length base top e) (2 ^ (e + 13))) 0 52

-- Bounds shorter than this are held as they are, with no exponent.
abbrev pub is_short : ℕ → ℕ → Bool
is_short base top = nat_lt (top - base) (2 ^ 12)

-- The representable length of n: n itself where it is short, else n rounded up for its exponent.
unfoldable pub length_for : ℕ → ℕ
length_for n = if is_short 0 n then n else round_up (exponent_for 0 n + 3) n

-- What bases of that length are multiples of: 1 where it is short.
unfoldable pub unit_for : ℕ → ℕ
unit_for n = if is_short 0 n then 1 else 2 ^ (exponent_for 0 n + 3)

-- ---- setting bounds

-- The bounds that a word can hold: base and top where these are short, else both rounded outward.
abbrev pub outward_base : ℕ → ℕ → ℕ
outward_base base top = if is_short base top then base else round_down (exponent_for base top + 3) base

abbrev pub outward_top : ℕ → ℕ → ℕ
outward_top base top = if is_short base top then top else round_up (exponent_for base top + 3) top

abbrev pub outward_bounds : ℕ → ℕ → Bounds
outward_bounds base top = record { base = outward_base base top; top = outward_top base top }

-- A word can hold these bounds as they are: they are the same once they are rounded outward.
abbrev pub IsExact : ℕ → ℕ → Type 0
IsExact base top = outward_bounds base top ≡ record { base = base; top = top }

-- Some word decodes to these bounds.
pub record IsDecoded (base top : ℕ) : Type 0 where
  pub word : Word
  pub fits : word.bits < 2 ^ 128
  pub has : bounds_of (fields_of word) ≡ record { base = base; top = top }

-- The fields with these bounds, rounded outward, and the address at `base`; permissions, reserved, flag and
-- type stay. The low 3 bits of rounded mantissas are 0, and the exponent's two halves take their place.
unfoldable pub with_bounds_of : Fields → ℕ → ℕ → Fields
with_bounds_of f base top =
    let e = exponent_for base top in
    if is_short base top
    then record f { internal = false; top12 = top % 2 ^ 12; base14 = base % 2 ^ 14; address = base }
    else record f {
      internal = true;
      top12 = round_up (e + 3) top / 2 ^ e % 2 ^ 12 + e / 8;
      base14 = round_down (e + 3) base / 2 ^ e % 2 ^ 14 + e % 8;
      address = base;
    }
