-- What several reads in turn do to the bytes that are known of a source.
use Rattle.std.proofs.Common.{◌≡◌, ℕ, ◌+◌, ◌-◌, ◌≤◌, ◌<◌, Bool, true, false, List, [], ◌++◌, length, sym, subst, Option, arith, refl}
use Rattle.std.proofs.lemmas.List.{length-append}
use Rattle.std.proofs.KnownBytes.{Consumes-nil, Consumes-trans}
use Rattle.std.specs.Io.KnownBytes.{Consumes, IsAtEnd}
use Rattle.program_devices.specs.Device.{ReadsFew, ReadsMore, ReadsUpTo}

-- the text has all that was read of a source so far, which is at its end if so told
pub record HasRead (limit : ℕ) (old new : Option (List ℕ)) (text : List ℕ) (is_at_end : Bool) : Type 0 where
  pub taken : Consumes old new text
  pub few : length text ≤ limit
  pub ends : is_at_end ≡ true → IsAtEnd new

-- how many more reads there can be
abbrev pub reads_left : ℕ → Bool → ℕ → ℕ
reads_left limit true count = 0
reads_left limit false count = limit - count + 1

-- before the first read
pub HasRead-start : (limit : ℕ) (old : Option (List ℕ)) → HasRead limit old old [] false
HasRead-start limit old = record { taken = Consumes-nil old; few = omega arith; ends = λ e. absurd cc }

-- one more read
pub HasRead-more : (limit : ℕ) (old mid new : Option (List ℕ)) (before text : List ℕ) (was is : Bool) → HasRead limit old mid before was → ReadsMore limit mid new before text is
    → HasRead limit old new text is
HasRead-more limit old mid new before text was is h m = record {
  taken = subst (Consumes old new) (sym m.more) (Consumes-trans old mid new before m.bs h.taken m.taken);
  few = m.few;
  ends = m.ends;
}

-- no read is left to do
pub HasRead-whole : (limit : ℕ) (old new : Option (List ℕ)) (text : List ℕ) (is_at_end : Bool) → HasRead limit old new text is_at_end → (is_at_end ≡ false → length text < limit → ⊥)
    → ReadsUpTo limit old new text
HasRead-whole limit old new text true h over = record { taken = h.taken; few = h.few; ends = λ short. h.ends refl }
HasRead-whole limit old new text false h over = record {
  taken = h.taken;
  few = h.few;
  ends = λ short. let few = h.few in absurd (over refl (omega arith));
}

-- a read leaves fewer to do
pub reads_left-falls : (limit before after : ℕ) (is : Bool) → before < limit → after ≤ limit → (is ≡ false → before < after) → reads_left limit is after < reads_left limit false before
reads_left-falls limit before after true room few grows = omega arith
reads_left-falls limit before after false room few grows = let more = grows refl in omega arith

-- ---- how much was read

-- nothing
pub ReadsFew-none : (limit : ℕ) (same : Option (List ℕ)) → ReadsFew limit 0 same same
ReadsFew-none limit same = record { bs = []; taken = Consumes-nil same; few = omega arith }

-- what the text has
pub ReadsFew-whole : (limit : ℕ) (old new : Option (List ℕ)) (text : List ℕ) (is_at_end : Bool) → HasRead limit old new text is_at_end → ReadsFew limit 0 old new
ReadsFew-whole limit old new text is_at_end h = record { bs = text; taken = h.taken; few = omega (arith, h.few) }

-- that, and what one more read took
pub ReadsFew-more : (limit : ℕ) (old mid new : Option (List ℕ)) (text : List ℕ) (is_at_end : Bool) → HasRead limit old mid text is_at_end → ReadsFew limit (length text) mid new
    → ReadsFew limit 0 old new
ReadsFew-more limit old mid new text is_at_end h more = record {
  bs = text ++ more.bs;
  taken = Consumes-trans old mid new text more.bs h.taken more.taken;
  few = omega (arith, length-append text more.bs, more.few);
}
