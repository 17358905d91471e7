-- The line that the program writes of its own.
use Rattle.std.specs.Prelude.{ℕ, List, codes}

-- What is written where the words are refused.
abbrev pub usage_line : List ℕ
usage_line = codes "usage: heap_check [--workers N] [--cut N]\n"
