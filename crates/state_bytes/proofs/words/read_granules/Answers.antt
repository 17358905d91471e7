use Rattle.std.proofs.Common.{◌∙◌, ◌<◌, ◌+◌, ◌*◌, ◌==◌, List, Bool, false, get_or, length, length-set, refl, sym, ap, subst, arith}
use Rattle.std.proofs.lemmas.List.{ext_get_or, get_or-set_other}
use Rattle.tag_memory.specs.Cells.{Granule}
use Rattle.state_bytes.specs.Reading.{IsReadAt}
use Rattle.state_bytes.proofs.ReadLaws.{granule_read, read_same, reads_more}
use Rattle.state_bytes.proofs.ReplayLaws.{from_place}
use Rattle.state_bytes.proofs.words.read_granules.Goals as goal

pub put_over_zero-requires-clause-zero : goal.put_over_zero-requires-clause-zero
put_over_zero-requires-clause-zero c = c.loop-i.invariant.rest c.loop-i.i (omega arith)

pub loop-i-init : goal.loop-i-init
loop-i-init c = record {
  count = refl;
  pages = refl;
  base = refl;
  rest = λ k from. c.requires.zero k;
  read = λ k less. absurd (omega (arith, less));
}

pub loop-i-preserved : goal.loop-i-preserved
loop-i-preserved c =
    let tag : Bool = get_or c.args.bytes.now (13 + 21 * c.loop-i.i + 16) 0 == 1 in
    let granules = c.put_over_zero.ensures.granules in
    let lt : c.loop-i.i < length c.loop-i.memory.granules = omega (arith, c.loop-i-test.true, c.loop-i.invariant.count, c.granules-i-end.ensures) in
    let bits_are = from_place 16 (13 + 21 * c.loop-i.i) (13 + 21 * c.loop-i.i) c.args.bytes.now c.read_u128-bits.result c.read_u128-bits.ensures refl in
    record {
      count = ap (λ (xs : List Granule). length xs) granules ∙ (length-set c.loop-i.memory.granules c.loop-i.i (c.read_u128-bits.result, tag) ∙ c.loop-i.invariant.count);
      pages = c.put_over_zero.ensures.pages ∙ c.loop-i.invariant.pages;
      base = c.put_over_zero.ensures.base ∙ c.loop-i.invariant.base;
      rest = λ k from.
          ap (λ (xs : List Granule). get_or xs k (0, false)) granules
          ∙ (get_or-set_other c.loop-i.memory.granules c.loop-i.i k (c.read_u128-bits.result, tag) (0, false) (λ same. omega (arith, from, same)) ∙ c.loop-i.invariant.rest k (omega (arith, from)));
      read = λ k less.
          subst (λ (xs : List Granule). IsReadAt c.args.bytes.now k (get_or xs k (0, false))) (sym granules)
          (reads_more c.args.bytes.now c.loop-i.memory.granules c.loop-i.i c.read_u128-bits.result tag lt (record { bits = sym bits_are; tag = refl }) c.loop-i.invariant.read k less);
    }

pub returns-clause-granules : goal.returns-clause-granules
returns-clause-granules c m state text count =
    ext_get_or (0, false) c.loop-i.memory.granules m.state.granules (c.loop-i.invariant.count ∙ sym count)
    (λ k lt.
    read_same c.args.bytes.now k _ _
    (c.loop-i.invariant.read k (omega (arith, lt, c.loop-i.invariant.count, c.loop-i-test.false, c.granules-i-end.ensures)))
    (granule_read m c.args.bytes.now k state.invariant text (omega (arith, lt, c.loop-i.invariant.count, count))))

pub returns-clause-read : goal.returns-clause-read
returns-clause-read c i lt = c.loop-i.invariant.read i (omega (arith, lt, c.loop-i.invariant.count, c.loop-i-test.false, c.granules-i-end.ensures))
