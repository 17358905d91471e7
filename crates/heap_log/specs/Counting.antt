-- What events come to, one more at a time.
use Rattle.std.specs.Prelude.{ℕ, ◌≤◌, ◌+◌, ◌*◌, ◌<◌, ◌^◌}
use Rattle.heap_reply.specs.declared.reply.Reply.{Reply}
use Rattle.log_text.specs.declared.log.Event.{Event}
use Rattle.heap_log.specs.declared.verdict.Tally.{Tally}
use Rattle.heap_log.specs.Judged.{blocks_of_reply, passes_of_reply, tags_of_reply, tally_of_event}

-- With what one more event tells.
abbrev pub tally_plus : Tally → Tally → Tally
tally_plus tally one = record {
  tags = tally.tags + one.tags;
  commands = tally.commands + one.commands;
  blocks = tally.blocks + one.blocks;
  passes = tally.passes + one.passes;
}

-- With one more answer.
abbrev pub tally_with : Tally → Reply → Tally
tally_with tally answer = record {
  tags = tally.tags + tags_of_reply answer;
  commands = tally.commands + 1;
  blocks = tally.blocks + blocks_of_reply answer;
  passes = tally.passes + passes_of_reply answer;
}

-- With one more event.
abbrev pub tally_with_event : Tally → Event → Tally
tally_with_event tally event = tally_plus tally (tally_of_event event)

-- One more can be counted.
pub record HasRoom (tally : Tally) : Type 0 where
  pub tags : tally.tags + 2 ^ 32 ≤ 2 ^ 64
  pub commands : tally.commands + 1 < 2 ^ 32
  pub blocks : tally.blocks + 1 < 2 ^ 32
  pub passes : tally.passes + 1 < 2 ^ 32

-- One more was counted, at most.
pub record Grows (before after : Tally) : Type 0 where
  pub tags : after.tags < before.tags + 2 ^ 32
  pub commands : after.commands ≤ before.commands + 1
  pub blocks : after.blocks ≤ before.blocks + 1
  pub passes : after.passes ≤ before.passes + 1

-- So many lines come to this at most.
pub record AreFew (lines : ℕ) (tally : Tally) : Type 0 where
  pub tags : tally.tags ≤ 4294967295 * lines
  pub commands : tally.commands ≤ lines
  pub blocks : tally.blocks ≤ lines
  pub passes : tally.passes ≤ lines
