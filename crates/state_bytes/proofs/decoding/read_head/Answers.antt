use Rattle.std.proofs.Common.{◌∙◌, sym}
use Rattle.std.proofs.lemmas.Bool.{true≢false}
use Rattle.state_bytes.proofs.PartLaws.{head_of, head_place, head_size, long_head, long_text}
use Rattle.state_bytes.proofs.decoding.read_head.Goals as goal

pub returns-then-bytes-lt-HEAD-clause-refused : goal.returns-then-bytes-lt-HEAD-clause-refused
returns-then-bytes-lt-HEAD-clause-refused c m state text = long_text m c.args.bytes.now state.invariant text c.if-bytes-lt-HEAD.true

pub returns-then-bytes-text_length-clause-refused : goal.returns-then-bytes-text_length-clause-refused
returns-then-bytes-text_length-clause-refused c m state text =
    let has = head_of m c.args.bytes.now c.head_in-head.result state.invariant text c.head_in-head.ensures.base c.head_in-head.ensures.pages c.head_in-head.ensures.is_open in
    long_head m c.args.bytes.now c.head_in-head.result c.text_length.result state.invariant text has c.text_length.ensures c.if-bytes-text_length.true

pub returns-then-not-is_size-clause-refused : goal.returns-then-not-is_size-clause-refused
returns-then-not-is_size-clause-refused c m state text =
    let has = head_of m c.args.bytes.now c.head_in-head.result state.invariant text c.head_in-head.ensures.base c.head_in-head.ensures.pages c.head_in-head.ensures.is_open in
    absurd (true≢false (sym (head_size m c.head_in-head.result c.from.result state.invariant has c.from.ensures) ∙ (sym c.is_size.ensures ∙ c.if-not-is_size.true)))

pub returns-then-not-is_base-clause-refused : goal.returns-then-not-is_base-clause-refused
returns-then-not-is_base-clause-refused c m state text =
    let has = head_of m c.args.bytes.now c.head_in-head.result state.invariant text c.head_in-head.ensures.base c.head_in-head.ensures.pages c.head_in-head.ensures.is_open in
    absurd (true≢false (sym (head_place m c.head_in-head.result c.from-2.result state.invariant has c.from-2.ensures) ∙ (sym c.is_base.ensures ∙ c.if-not-is_base.true)))

pub returns-clause-head : goal.returns-clause-head
returns-clause-head c m state text = head_of m c.args.bytes.now c.head_in-head.result state.invariant text c.head_in-head.ensures.base c.head_in-head.ensures.pages c.head_in-head.ensures.is_open
