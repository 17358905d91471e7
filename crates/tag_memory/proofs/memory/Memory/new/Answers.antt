use Rattle.std.proofs.Common.{◌≡◌, ◌<◌, ◌*◌, ◌^◌, ◌∙◌, ℕ, Bool, List, ap, arith, false, length, replicate, rules, subst, sym}
use Rattle.std.specs.List.{All}
use Rattle.std.proofs.lemmas.List.{length-replicate}
use Rattle.std.proofs.lemmas.List.Elements.{All-replicate}
use Rattle.tag_memory.specs.Bases.{base_granules}
use Rattle.tag_memory.specs.Tags.{AreBlank, granules_of}
use Rattle.tag_memory.proofs.BaseLaws.{base_granules-zeros}
use Rattle.tag_memory.proofs.PageLaws.{blank-zeros}
use Rattle.tag_memory.proofs.TagLaws.{granules_of-zeros}
use Rattle.tag_memory.proofs.memory.Memory.new.Goals as goal

pub returns-clause-made : goal.returns-clause-made
returns-clause-made c =
    let bits : c.in-Ok.bits.items ≡ replicate (256 * c.args.pages) 0 = search (rules, c.in-Ok.ensures) in
    let tags : c.in-Ok-vec-2.tags.items ≡ replicate (4 * c.args.pages) 0 = search (rules, c.in-Ok-vec-2.ensures) in
    let granules = (λ k. granules_of (bits k) (tags k)) ∙ granules_of-zeros (256 * c.args.pages) (4 * c.args.pages) in
    let marks : c.in-Ok-vec-3.may_hold.items ≡ replicate c.args.pages false = search (rules, c.in-Ok-vec-3.ensures) in
    let dirt : c.in-Ok-vec-4.dirty.items ≡ replicate c.args.pages false = search (rules, c.in-Ok-vec-4.ensures) in
    λ k. record { base = c.args.base; granules = granules k; may_hold = marks k; dirty = dirt k }

pub invariant_of-result : goal.invariant_of-result
invariant_of-result c =
    let bits : c.in-Ok.bits.items ≡ replicate (256 * c.args.pages) 0 = search (rules, c.in-Ok.ensures) in
    let bases : c.in-Ok-vec.granules_of_bases.items ≡ replicate (256 * c.args.pages) c.base_granule.result = search (rules, c.in-Ok-vec.ensures) in
    let tags : c.in-Ok-vec-2.tags.items ≡ replicate (4 * c.args.pages) 0 = search (rules, c.in-Ok-vec-2.ensures) in
    let marks : c.in-Ok-vec-3.may_hold.items ≡ replicate c.args.pages false = search (rules, c.in-Ok-vec-3.ensures) in
    let numbers : All (λ (number : ℕ). number < 2 ^ 128) (replicate (256 * c.args.pages) 0) = All-replicate (λ (number : ℕ). number < 2 ^ 128) (256 * c.args.pages) 0 (omega arith) in
    let dirt : c.in-Ok-vec-4.dirty.items ≡ replicate c.args.pages false = search (rules, c.in-Ok-vec-4.ensures) in
    let blank = blank-zeros (4 * c.args.pages) c.in-Ok-vec-3.may_hold.items in
    record {
      granules = ap length bits ∙ length-replicate {A = ℕ} (256 * c.args.pages) 0;
      words = ap length tags ∙ length-replicate {A = ℕ} (4 * c.args.pages) 0;
      size = search rules;
      place = search rules;
      numbers = subst (All (λ (number : ℕ). number < 2 ^ 128)) (sym bits) numbers;
      bases = bases ∙ (ap (replicate (256 * c.args.pages)) c.base_granule.ensures ∙ (sym (base_granules-zeros c.args.base (256 * c.args.pages)) ∙ ap (base_granules c.args.base) (sym bits)));
      marks = ap length marks ∙ length-replicate {A = Bool} c.args.pages false;
      blank = subst (λ (words : List ℕ). AreBlank words c.in-Ok-vec-3.may_hold.items) (sym tags) blank;
      dirty_marks = ap length dirt ∙ length-replicate {A = Bool} c.args.pages false;
    }
