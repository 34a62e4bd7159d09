-- Pairs that come with their numbers.
use Rattle.std.specs.Prelude.{List}
use Rattle.dfa_join.specs.Pairs.{Pair, IsNumberOf}
use Rattle.dfa_join.specs.declared.pairs.NumberedPair.{NumberedPair}

-- the pair of m has the number of m in the list
abbrev pub IsNumberedPair : List Pair → NumberedPair → Type 0
IsNumberedPair pairs m = IsNumberOf pairs m.pair m.number
