use Rattle.std.proofs.Common.{◌≡◌, arith, ap, ◌∙◌}
use Rattle.cap_codec.specs.declared.word.Fields.{Fields}
use Rattle.cap_codec.specs.Bounds.{bounds_of}
use Rattle.cap_codec.specs.Fields.{fields_of}
use Rattle.cap_codec.specs.Representable.{is_representable}
use Rattle.cap_codec.proofs.FieldLaws.{IsInRange-fields_of}
use Rattle.cap_codec.proofs.RepresentLaws.{inside-representable, is_representable-is, representable-inside}
use Rattle.cap_codec.proofs.plain.representable.Goals as goal

pub returns-clause-value : goal.returns-clause-value
unfolding is_representable
returns-clause-value c =
    let moved_fields : (let r : Fields = record c.fields.result { address = c.args.address } in r) ≡ record (fields_of c.args.w) { address = c.args.address } =
    ap (λ (f : Fields). let r : Fields = record f { address = c.args.address } in r) c.fields.ensures.value in
    let moved : c.bounds.result ≡ bounds_of (let r : Fields = record (fields_of c.args.w) { address = c.args.address } in r) =
    c.bounds.ensures.value ∙ ap bounds_of (c.word_of-moved.ensures.fields ∙ moved_fields) in
    let here = c.bounds-2.ensures.value in
    cc c.eq.ensures

pub returns-clause-same : goal.returns-clause-same
returns-clause-same c = rw (returns-clause-value c) (is_representable-is (fields_of c.args.w) c.args.address)

pub returns-clause-window : goal.returns-clause-window
returns-clause-window c =
    let same = returns-clause-same c in
    let f = fields_of c.args.w in
    let address = (IsInRange-fields_of c.args.w).address in
    (λ t. inside-representable f c.args.address address (omega arith) (same.0 t), λ i. same.1 (representable-inside f c.args.address address (omega arith) i))
