-- The line that the program writes beside those of its answers.
use Rattle.std.specs.Prelude.{ℕ, List, codes}

-- What is written where the words are refused.
abbrev pub usage_line : List ℕ
usage_line = codes "usage: heap_tool run [--workers N] [--cut N] [--image] or heap_tool word HEX\n"
