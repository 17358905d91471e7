-- What crosses to C, as the values of cap_codec that it stands for.
use Rattle.std.specs.Prelude.{◌+◌, ◌*◌, ◌^◌, ◌==◌, ◌&&◌, nat_le, nat_lt, ℕ, Bool}
use Rattle.cap_codec.specs.declared.word.Bounds.{Bounds}
use Rattle.cap_codec.specs.declared.word.Fields.{Fields}
use Rattle.cap_codec.specs.declared.word.Word.{Word}
use Rattle.kernelstint.specs.declared.crossing.HostBounds.{HostBounds}
use Rattle.kernelstint.specs.declared.crossing.HostFields.{HostFields}
use Rattle.kernelstint.specs.declared.crossing.HostLength.{HostLength}
use Rattle.kernelstint.specs.declared.crossing.HostWord.{HostWord}

-- The number of two halves of 64 bits.
abbrev pub wide : ℕ → ℕ → ℕ
wide low high = low + 2 ^ 64 * high

-- The word of two halves: the address below the metadata.
abbrev pub word_from : HostWord → Word
word_from w = record { bits = w.address + 2 ^ 64 * w.metadata }

-- A top and a length, of two halves each.
abbrev pub top_of : HostBounds → ℕ
top_of b = wide b.top b.top_high

abbrev pub length_of : HostLength → ℕ
length_of n = wide n.length n.length_high

-- The bounds of a base and a top.
abbrev pub bounds_from : HostBounds → Bounds
bounds_from b = record { base = b.base; top = top_of b }

-- The fields, whose flags are 1 or 0.
abbrev pub fields_from : HostFields → Fields
fields_from f = record {
  perms = f.perms;
  reserved = f.reserved;
  flag = f.flag == 1;
  otype = f.otype;
  internal = f.internal == 1;
  top12 = f.top12;
  base14 = f.base14;
  address = f.address;
}

-- Each field is within its width; of a flag that is one bit.
abbrev pub are_fields : HostFields → Bool
are_fields f =
    nat_lt f.reserved (2 ^ 2) && nat_lt f.flag 2 && nat_lt f.otype (2 ^ 18) && nat_lt f.internal 2
    && nat_lt f.top12 (2 ^ 12) && nat_lt f.base14 (2 ^ 14)

-- The bounds end where they begin or after it, and at 2 ^ 64 at most.
abbrev pub are_bounds : HostBounds → Bool
are_bounds b = nat_le b.base (top_of b) && nat_le (top_of b) (2 ^ 64)
