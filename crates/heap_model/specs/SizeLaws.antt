-- Lengths and units of blocks, in granules.
use Rattle.std.proofs.Common.{◌≡◌, ◌<◌, ◌≤◌, ◌+◌, ◌-◌, ◌*◌, ◌/◌, ◌%◌, ◌^◌, ◌⊎◌, inl, inr, ℕ, zero, suc, max, refl, sym, ap, ◌∙◌, subst, true, false, arith}
use Rattle.std.proofs.Math.Arith.{mod-mul}
use Rattle.std.proofs.Math.Nat.{le-max_left, max-eq_right, mod-one, mul-mod_left}
use Rattle.std.proofs.lemmas.Bool.{cases_Bool, lt-ltb}
use Rattle.std.proofs.lemmas.Nat.{pow-add, pow_pos}
use Rattle.cap_codec.specs.Laws.{le-round_up}
use Rattle.cap_codec.specs.Rounding.{IsExact, exponent_for, is_short, length_for, round_up, unit_for}
use Rattle.heap_model.specs.Heap.{HeapState}
use Rattle.heap_model.specs.Place.{IsFree, IsFreeBlock, block_length, block_unit, granule_size}

-- ---- lengths

length_for_short : (n : ℕ) → is_short 0 n ≡ true → length_for n ≡ n
unfolding length_for
length_for_short n short = rw short refl

length_for_long : (n : ℕ) → is_short 0 n ≡ false → length_for n ≡ round_up (exponent_for 0 n + 3) n
unfolding length_for
length_for_long n long = rw long refl

pub le-length_for : (n : ℕ) → n ≤ length_for n
le-length_for n =
    elim (cases_Bool (is_short 0 n)) [
      | inl short ↦ omega (arith, length_for_short n short)
      | inr long ↦ rw (length_for_long n long) (le-round_up (exponent_for 0 n + 3) n)
    ]

-- A power from 2 ^ 3 on is 8, or some times 16.
power_splits : (e : ℕ) → (2 ^ (e + 3) ≡ 8) ⊎ ((v : ℕ) × ((2 ^ (e + 3) ≡ 16 * v) × (0 < v)))
power_splits zero = inl refl
power_splits (suc e) =
    let more : suc e + 3 ≡ e + 4 = omega arith in
    let parts : 2 ^ (suc e + 3) ≡ 2 ^ e * 2 ^ 4 = ap (λ k. 2 ^ k) more ∙ pow-add 2 e 4 in
    inr (2 ^ e, (omega arith, pow_pos e))

-- Whole granules are rounded up to whole granules.
round_up_granules : (e n : ℕ) → n % 16 ≡ 0 → round_up (e + 3) n % 16 ≡ 0
round_up_granules e n whole =
    elim (power_splits e) [
      | inl eight ↦ rw eight (omega arith)
      | inr more ↦
          let q = (n + (2 ^ (e + 3) - 1)) / 2 ^ (e + 3) in
          let is : q * 2 ^ (e + 3) ≡ q * more.0 * 16 = rw more.1.0 (omega arith) in
          ap (λ x. x % 16) is ∙ mul-mod_left (q * more.0) 16
    ]

pub length_for_granules : (n : ℕ) → n % 16 ≡ 0 → length_for n % 16 ≡ 0
length_for_granules n whole =
    elim (cases_Bool (is_short 0 n)) [
      | inl short ↦ rw (length_for_short n short) whole
      | inr long ↦ rw (length_for_long n long) (round_up_granules (exponent_for 0 n) n whole)
    ]

-- ---- units

unit_for_short : (n : ℕ) → is_short 0 n ≡ true → unit_for n ≡ 1
unfolding unit_for
unit_for_short n short = rw short refl

unit_for_long : (n : ℕ) → is_short 0 n ≡ false → unit_for n ≡ 2 ^ (exponent_for 0 n + 3)
unfolding unit_for
unit_for_long n long = rw long refl

-- A unit of bytes is one of granules: the multiples of both among whole granules are the same.
pub record IsUnit (bytes unit : ℕ) : Type 0 where
  pub to : (k : ℕ) → 16 * k % bytes ≡ 0 → k % unit ≡ 0
  pub from : (k : ℕ) → k % unit ≡ 0 → 16 * k % bytes ≡ 0

IsUnit-1 : IsUnit 1 1
IsUnit-1 = record { to = λ k _. mod-one k; from = λ k _. mod-one (16 * k) }

IsUnit-8 : IsUnit 8 1
IsUnit-8 = record { to = λ k _. mod-one k; from = λ k _. omega arith }

sixteen_fold : (k v : ℕ) → 0 < v → 16 * k % (16 * v) ≡ 16 * (k % v)
sixteen_fold k v some =
    let parts : 16 * k % (v * 16) ≡ (16 * k / 16 % v) * 16 + 16 * k % 16 = mod-mul (16 * k) {m = v} {c = 16} some (omega arith) in
    let same : 16 * k / 16 ≡ k = omega arith in
    let none : 16 * k % 16 ≡ 0 = omega arith in
    let turned : 16 * v ≡ v * 16 = omega arith in
    rw (turned, parts, same, none) (omega arith)

IsUnit-granules : (v : ℕ) → 0 < v → IsUnit (16 * v) v
IsUnit-granules v some =
    record {
      to = λ k is. omega (arith, sixteen_fold k v some);
      from = λ k is. omega (arith, sixteen_fold k v some);
    }

unit_splits : (n : ℕ) → (unit_for n ≡ 1) ⊎ ((unit_for n ≡ 8) ⊎ ((v : ℕ) × ((unit_for n ≡ 16 * v) × (0 < v))))
unit_splits n =
    elim (cases_Bool (is_short 0 n)) [
      | inl short ↦ inl (unit_for_short n short)
      | inr long ↦ inr (rw (unit_for_long n long) (power_splits (exponent_for 0 n)))
    ]

pub unit_some : (n : ℕ) → 0 < unit_for n
unit_some n =
    elim (unit_splits n) [
      | inl one ↦ omega arith
      | inr other ↦ elim other [ inl eight ↦ omega arith | inr more ↦ omega (arith, more.1.0, more.1.1) ]
    ]

-- The greater of 16 and the unit, in granules.
pub granules_of_unit : (n rest : ℕ) → rest + 1 ≡ unit_for n → 16 * (rest / 16 + 1) ≡ max 16 (unit_for n)
granules_of_unit n rest is =
    elim (unit_splits n) [
      | inl one ↦ rw one (omega arith)
      | inr other ↦ elim other [
        | inl eight ↦ rw eight (omega arith)
        | inr more ↦
            let greater : max 16 (unit_for n) ≡ unit_for n = max-eq_right {n = 16} {m = unit_for n} (omega (arith, more.1.0, more.1.1)) in
            omega (arith, more.1.0)
      ]
    ]

IsUnit-unit_for : (n unit : ℕ) → 16 * unit ≡ max 16 (unit_for n) → IsUnit (unit_for n) unit
IsUnit-unit_for n unit is =
    elim (unit_splits n) [
      | inl one ↦
          let same : unit ≡ 1 = omega arith in
          rw (one, same) IsUnit-1
      | inr other ↦ elim other [
        | inl eight ↦
            let same : unit ≡ 1 = omega arith in
            rw (eight, same) IsUnit-8
        | inr more ↦
            let same : unit ≡ more.0 = omega (arith, max-eq_right {n = 16} {m = unit_for n} (omega (arith, more.1.0, more.1.1)), more.1.0) in
            rw (more.1.0, same) (IsUnit-granules more.0 more.1.1)
      ]
    ]

-- ---- short blocks

-- A length below 2 ^ 12 is held as it is, from everywhere.
module _ (n : ℕ) (short : n < 2 ^ 12) where
  is_short-at : (base length : ℕ) → length ≡ n → is_short base (base + length) ≡ true
  is_short-at base length is = lt-ltb (base + length - base) (2 ^ 12) (omega arith)

  pub short_length : length_for n ≡ n
  short_length = length_for_short n (lt-ltb (n - 0) (2 ^ 12) (omega arith))

  pub short_unit : unit_for n ≡ 1
  short_unit = unit_for_short n (lt-ltb (n - 0) (2 ^ 12) (omega arith))

  pub IsExact-short : (base : ℕ) → IsExact base (base + length_for n)
  IsExact-short base = rw (is_short-at base (length_for n) short_length) refl

-- ---- a block of this size

-- It has n granules, and starts at multiples of that unit.
pub record HasShape (size n unit : ℕ) : Type 0 where
  pub some : 0 < n
  pub length : block_length size ≡ 16 * n
  pub unit_some : 0 < unit
  pub units : IsUnit (block_unit size) unit

pub HasShape-shape : (size asked n unit : ℕ) → 16 * asked ≡ granule_size size → 0 < n → 16 * n ≡ length_for (16 * asked)
    → 16 * unit ≡ max 16 (unit_for (16 * asked)) → HasShape size n unit
HasShape-shape size asked n unit holds some length is =
    record {
      some = some;
      length = ap length_for (sym holds) ∙ sym length;
      unit_some = omega (arith, le-max_left 16 (unit_for (16 * asked)));
      units = subst (λ m. IsUnit (unit_for m) unit) holds (IsUnit-unit_for (16 * asked) unit is);
    }

-- It isn't shorter than what was asked for.
pub le-block_length : (size asked : ℕ) → 16 * asked ≡ granule_size size → 16 * asked ≤ block_length size
le-block_length size asked holds = omega (arith, le-length_for (granule_size size))

-- It is at least as long as its size says.
pub max-le-block_length : (size : ℕ) → max 1 size ≤ block_length size
max-le-block_length size = omega (arith, le-length_for (granule_size size))

-- A place for a block of a size is one for a block of its length.
pub IsFreeBlock-free : (s : HeapState) (size a : ℕ) → IsFree s size a → IsFreeBlock s a (block_length size)
IsFreeBlock-free s size a free =
    let whole : granule_size size % 16 ≡ 0 = omega arith in
    let one : 1 ≤ max 1 size = le-max_left 1 size in
    record {
      start = free.granule;
      whole = length_for_granules (granule_size size) whole;
      some = omega (arith, max-le-block_length size, one);
      from = free.from;
      end = free.end;
      live = free.live;
      waiting = free.waiting;
      painted = free.painted;
    }
