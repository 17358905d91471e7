use Rattle.std.proofs.Common.{◌≡◌, rules, subst, List, ℕ, IfOk, string_bytes}
use Rattle.heap_reply.specs.WordLine.{line_with, word_line}
use Rattle.heap_reply.proofs.word_text.word_line.Goals as goal

pub returns : goal.returns
returns c =
    let same : line_with c.fields-f.result c.bounds-within.result c.exponent.result ≡ word_line c.args.w = rw (c.fields-f.ensures.value, c.bounds-within.ensures.value, c.exponent.ensures.value) in
    let P : List ℕ → Type 0 = λ line. IfOk c.format.result (λ text. string_bytes text ≡ line) in
    subst P same (search rules)
