-- A line of data as it is written: the text before it, and its tokens so far.
use Rattle.std.specs.Prelude.{ℕ, List, [], ◌∷◌, ◌++◌}
use Rattle.json.specs.Token.{Token, begin_array, end_array, key}

pub record LineState : Type 0 where
  pub before : List ℕ
  pub tokens : List Token

-- With these tokens more.
abbrev pub with_tokens : LineState → List Token → LineState
with_tokens line tokens = record line { tokens = line.tokens ++ tokens }

-- A member that is a list of these.
abbrev pub list_tokens : List ℕ → List Token → List Token
list_tokens name items = key name ∷ begin_array ∷ (items ++ end_array ∷ [])
