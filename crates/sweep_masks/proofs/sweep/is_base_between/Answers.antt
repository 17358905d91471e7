use Rattle.std.proofs.Common.{◌≡◌, ◌<◌, ◌≤◌, ◌-◌, ◌/◌, ◌&&◌, ◌∙◌, suc, ℕ, false, true, get_or, nat_lt, arith, refl}
use Rattle.std.proofs.Math.Dec.{leb}
use Rattle.std.proofs.lemmas.Bool.{both_ways, le-leb}
use Rattle.cap_codec.specs.Words.{base_of}
use Rattle.cap_codec.specs.declared.word.Word.{Word}
use Rattle.tag_memory.specs.Cells.{cell_of}
use Rattle.tag_memory.specs.Bases.{base_granule, far}
use Rattle.sweep_masks.proofs.sweep.is_base_between.Goals as goal

-- A base that lies near is told by its granule.
base_granule-near : (start : ℕ) (w : Word) → start ≤ base_of w → (base_of w - start) / 16 < far → base_granule start w ≡ (base_of w - start) / 16
unfolding base_granule
base_granule-near start w from near = rw (le-leb start (base_of w) from, le-leb (suc ((base_of w - start) / 16)) far near) refl

between : (first end g : ℕ) → first ≤ g → g < end → (leb first g && nat_lt g end) ≡ true
between first end g from before = rw (le-leb first g from, le-leb (suc g) end before) refl

pub returns : goal.returns
returns c = λ out. record {
  outside = λ from least before.
      let start = c.args.memory.now.base in
      let word = (cell_of (get_or c.args.memory.now.granules c.args.i (0, false))).0 in
      let is = c.base_granule-granule.ensures.value ∙ base_granule-near start word from (omega (arith, before, c.ranges.end)) in
      both_ways _ out (rw is (between c.args.first c.args.end ((base_of word - start) / 16) least before));
}
