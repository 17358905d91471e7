-- Records read back.
use Rattle.std.proofs.Common.{◌≡◌, ◌∙◌, ℕ, Bool, true, false, Some, refl, ap, arith}
use Rattle.heap_reply.specs.declared.reply.Reply.{Reply}
use Rattle.heap_reply.specs.declared.reply.Reply.TheVariants as reply
use Rattle.heap_reply.specs.declared.reply.Shown.{Shown as ShownCell}
use Rattle.heap_reply.specs.declared.reply.Trap.{Trap}
use Rattle.heap_reply.specs.declared.reply.Trap.TheVariants as trap
use Rattle.byte_machine.specs.Records.{high_half, low_half, reply_of_record, record_of_reply, record_of_shown, trap_number, trap_of_number, trap_reply, wide}

pub wide_back : (bits : ℕ) → wide (low_half bits) (high_half bits) ≡ bits
wide_back bits = omega arith

pub halves_back : (bits low high : ℕ) → low ≡ low_half bits → high ≡ high_half bits → wide low high ≡ bits
halves_back bits low high l h = (λ j. wide (l j) (h j)) ∙ wide_back bits

trap_back : (t : Trap) → trap_of_number (trap_number t) ≡ Some t
trap_back trap.Tag = refl
trap_back trap.Perm = refl
trap_back trap.Bounds = refl
trap_back trap.Align = refl
trap_back trap.Empty = refl
trap_back trap.Inexact = refl
trap_back trap.Freed = refl
trap_back trap.NotBlock = refl
trap_back trap.Open = refl
trap_back trap.NotOpen = refl

abbrev cell : ℕ → ℕ → ℕ → ℕ → ℕ → ℕ → Bool → ShownCell
cell top address base otype perms exponent tag =
    record { top = top; address = address; base = base; otype = otype; perms = perms; exponent = exponent; tag = tag }

shown_back : (top address base otype perms exponent : ℕ) (tag : Bool)
    → reply_of_record (record_of_shown (cell top address base otype perms exponent tag)) ≡ Some (reply.Shown (cell top address base otype perms exponent tag))
unfolding reply_of_record
shown_back top address base otype perms exponent true = ap (λ (t : ℕ). Some (reply.Shown (cell t address base otype perms exponent true))) (wide_back top)
shown_back top address base otype perms exponent false = ap (λ (t : ℕ). Some (reply.Shown (cell t address base otype perms exponent false))) (wide_back top)

-- What the record of a reply tells is the reply.

pub told_back : (r : Reply) → reply_of_record (record_of_reply r) ≡ Some r
unfolding reply_of_record
told_back (reply.Block base top) = ap (λ (t : ℕ). Some (reply.Block base t)) (wide_back top)
told_back (reply.BlockAfter base top cleared) = ap (λ (t : ℕ). Some (reply.BlockAfter base t cleared)) (wide_back top)
told_back reply.NoSpace = refl
told_back (reply.NoSpaceAfter cleared) = refl
told_back (reply.Held bytes) = refl
told_back reply.Done = refl
told_back reply.Cleared = refl
told_back (reply.Swept cleared released) = refl
told_back (reply.Begun cleared) = refl
told_back (reply.Shown shown) = shown_back shown.top shown.address shown.base shown.otype shown.perms shown.exponent shown.tag
told_back (reply.Trap t) = ap trap_reply (trap_back t)
