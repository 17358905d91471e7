use Rattle.std.proofs.Common.{◌*◌, ◌/◌, ◌∙◌, ℕ, inl, inr, sym, arith}
use Rattle.std.proofs.lemmas.Bool.{cases_lt}
use Rattle.tag_memory.specs.Tags.{is_tagged}
use Rattle.heap_machine.proofs.TaggedLaws.{untagged-in_word}
use Rattle.heap_machine.proofs.machine.making.first_tagged.Goals as goal

pub returns-in-Some : goal.returns-in-Some
returns-in-Some c =
    let found = c.in-Some.ensures in
    let w : ℕ = c.args.from / 64 in (
      omega (arith, found.0),
      omega (arith, found.1, c.requires.words, c.if-end-from.false),
      sym (c.tag_word.ensures.bits c.in-Some.j found.1) ∙ found.2,
      λ k from before. untagged-in_word (is_tagged c.args.memory.now.granules) c.tag_word.result w _ c.in-Some.j
          c.tag_word.ensures.bits (omega (arith, found.1)) found.3 k (omega (arith, from)) before,
    )

pub loop-w-init : goal.loop-w-init
loop-w-init c = λ k from before.
    untagged-in_word (is_tagged c.args.memory.now.granules) c.tag_word.result (c.args.from / 64) _ 64
    c.tag_word.ensures.bits (omega arith) (λ j low high. c.in_default.ensures j low) k (omega (arith, from)) (omega (arith, before))

pub returns-in-Some-lowest_from : goal.returns-in-Some-lowest_from
returns-in-Some-lowest_from c =
    let found = c.in-Some-lowest_from.ensures in
    let w : ℕ = c.loop-w.w in (
      omega (arith, c.loop-w.auto.w),
      omega (arith, found.1, c.requires.words, c.loop-w-test.true),
      sym (c.tag_word-in-loop-w.ensures.bits c.in-Some-lowest_from.j found.1) ∙ found.2,
      λ k from before. elim (cases_lt k (64 * w)) [
        | inl lt ↦ c.loop-w.invariant k from lt
        | inr le ↦ untagged-in_word (is_tagged c.args.memory.now.granules) c.tag_word-in-loop-w.result w 0 c.in-Some-lowest_from.j
            c.tag_word-in-loop-w.ensures.bits (omega (arith, found.1)) found.3 k (omega (arith, le)) before
      ],
    )

pub loop-w-preserved : goal.loop-w-preserved
loop-w-preserved c = λ k from before. elim (cases_lt k (64 * c.loop-w.w)) [
  | inl lt ↦ c.loop-w.invariant k from lt
  | inr le ↦ untagged-in_word (is_tagged c.args.memory.now.granules) c.tag_word-in-loop-w.result c.loop-w.w 0 64
      c.tag_word-in-loop-w.ensures.bits (omega arith) (λ j low high. c.in_default-lowest_from.ensures j low) k (omega (arith, le)) (omega (arith, before))
]
