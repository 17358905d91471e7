-- What the words decode to that are made from words.
use Rattle.std.proofs.Common.{◌≡◌, ◌∙◌, ◌≤◌, ◌<◌, ◌^◌, ℕ, Bool, ap, refl, arith}
use Rattle.std.specs.Prelude.{◌↔◌, IsTrue, bit_and}
use Rattle.std.proofs.lemmas.Nat.{and_le_l}
use Rattle.cap_codec.specs.declared.word.Fields.{Fields}
use Rattle.cap_codec.specs.declared.word.Word.{Word}
use Rattle.cap_codec.specs.Bounds.{bounds_of}
use Rattle.cap_codec.specs.Fields.{IsValid, bits_with, fields_of}
use Rattle.cap_codec.specs.Rounding.{IsExact, outward_bounds, with_bounds_of}
use Rattle.cap_codec.specs.Words.{block_fields, bounds_in, capability_of, is_exact, keeps_bounds, narrowed_word, with_address, with_perms}
use Rattle.cap_codec.proofs.BoundsLaws.{same_ends}
use Rattle.cap_codec.proofs.CorrectedWindow.{same_tests}
use Rattle.cap_codec.proofs.EncodeLaws.{IsValid-with_bounds_of, bounds_of-with_bounds_of}
use Rattle.cap_codec.proofs.FieldLaws.{IsInRange, IsInRange-fields_of, IsValid-fields_of, fields_of-bits_with}
use Rattle.cap_codec.proofs.RepresentLaws.{is_representable-is}

-- ---- bounds that are set

pub IsInRange-bounded : (f : Fields) (base top : ℕ) → f.perms < 2 ^ 16 → base < 2 ^ 64 → IsInRange (with_bounds_of f base top)
unfolding with_bounds_of
IsInRange-bounded f base top perms small = record { perms = search (arith, perms, small); address = search (arith, perms, small) }

bounds_of-bounded : (f : Fields) (base top : ℕ) → IsValid f → f.perms < 2 ^ 16 → base < 2 ^ 64 → base ≤ top → top ≤ 2 ^ 64
    → bounds_of (fields_of (record { bits = bits_with (with_bounds_of f base top) })) ≡ outward_bounds base top
bounds_of-bounded f base top valid perms small order room =
    let g = with_bounds_of f base top in
    ap bounds_of (fields_of-bits_with g (record { bits = bits_with g }) (IsValid-with_bounds_of f base top valid) (IsInRange-bounded f base top perms small) refl)
    ∙ bounds_of-with_bounds_of f base top order room small

pub bounds_in-narrowed : (w : Word) (base top : ℕ) → base < 2 ^ 64 → base ≤ top → top ≤ 2 ^ 64 → bounds_in (narrowed_word w base top) ≡ outward_bounds base top
unfolding narrowed_word
bounds_in-narrowed w base top small order room =
    bounds_of-bounded (fields_of w) base top (IsValid-fields_of w) (IsInRange-fields_of w).perms small order room

pub bounds_in-capability_of : (base top : ℕ) → base < 2 ^ 64 → base ≤ top → top ≤ 2 ^ 64 → bounds_in (capability_of base top) ≡ outward_bounds base top
unfolding capability_of
bounds_in-capability_of base top small order room =
    let v = IsValid-fields_of (record { bits = 0 }) in
    let valid : IsValid block_fields = record { reserved = v.reserved; otype = v.otype; top12 = v.top12; base14 = v.base14 } in
    bounds_of-bounded block_fields base top valid (omega arith) small order room

-- ---- whether bounds can be held as they are

pub is_exact-is : (base top : ℕ) → IsTrue (is_exact base top) ↔ IsExact base top
unfolding is_exact
is_exact-is base top = same_ends (outward_bounds base top) (record { base = base; top = top })

pub is_exact-flag : (t : Bool) (base top : ℕ) → IsTrue t ↔ IsExact base top → t ≡ is_exact base top
is_exact-flag t base top h =
    let is = is_exact-is base top in
    same_tests t (is_exact base top) (λ e. is.1 (h.0 e)) (λ e. h.1 (is.0 e))

-- ---- another address, fewer permissions

pub fields_of-moved : (w : Word) (a : ℕ) → a < 2 ^ 64 → fields_of (with_address w a) ≡ record (fields_of w) { address = a }
unfolding with_address
fields_of-moved w a small =
    let g : Fields = record (fields_of w) { address = a } in
    let v = IsValid-fields_of w in
    fields_of-bits_with g (record { bits = bits_with g }) (record { reserved = v.reserved; otype = v.otype; top12 = v.top12; base14 = v.base14 })
    (record { perms = (IsInRange-fields_of w).perms; address = small }) refl

pub bounds_in-with_address : (w : Word) (a : ℕ) → a < 2 ^ 64 → IsTrue (keeps_bounds w a) → bounds_in (with_address w a) ≡ bounds_in w
bounds_in-with_address w a small keeps = ap bounds_of (fields_of-moved w a small) ∙ (is_representable-is (fields_of w) a).0 keeps

fields_of-masked : (w : Word) (mask : ℕ) → fields_of (with_perms w mask) ≡ record (fields_of w) { perms = bit_and (fields_of w).perms mask }
unfolding with_perms
fields_of-masked w mask =
    let g : Fields = record (fields_of w) { perms = bit_and (fields_of w).perms mask } in
    let v = IsValid-fields_of w in
    let r = IsInRange-fields_of w in
    fields_of-bits_with g (record { bits = bits_with g }) (record { reserved = v.reserved; otype = v.otype; top12 = v.top12; base14 = v.base14 })
    (record { perms = omega (arith, r.perms, and_le_l (fields_of w).perms mask); address = r.address }) refl

-- Bounds don't depend on permissions.
any_perms : (f : Fields) (perms : ℕ) → bounds_of (record f { perms = perms }) ≡ bounds_of f
unfolding bounds_of
any_perms f perms = refl

pub bounds_in-with_perms : (w : Word) (mask : ℕ) → bounds_in (with_perms w mask) ≡ bounds_in w
bounds_in-with_perms w mask = ap bounds_of (fields_of-masked w mask) ∙ any_perms (fields_of w) (bit_and (fields_of w).perms mask)
