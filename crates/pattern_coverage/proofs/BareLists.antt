-- Lists of bare patterns that grow by one pattern after another.
use Rattle.std.proofs.Common.{◌≡◌, ℕ, ◌<◌, ◌+◌, List, [], ◌∷◌, ◌++◌, length, take, get_or}
use Rattle.std.proofs.Common.{arith}
use Rattle.std.proofs.lemmas.List.{take_more, length_push}
use Rattle.pat_types.specs.declared.pattern.Pattern.{Pattern}
use Rattle.pattern_coverage.specs.Bare.{IsBare, AreBare}
use Rattle.pattern_coverage.proofs.PairedLists.{paired-more}

-- one pattern more
pub AreBare-more : (p b : Pattern) (patterns bare : List Pattern) → AreBare patterns bare → IsBare p b
    → AreBare (patterns ++ p ∷ []) (bare ++ b ∷ [])
AreBare-more p b patterns bare are is = record {
  same_length = omega (arith, are.same_length, length_push patterns p, length_push bare b);
  each = paired-more IsBare p b is patterns bare are.same_length are.each;
}

-- the next pattern of a list
pub AreBare-next : (patterns bare more : List Pattern) (i : ℕ) (p b : Pattern) → i < length patterns
    → p ≡ get_or patterns i p → AreBare (take i patterns) bare → IsBare p b → more ≡ bare ++ b ∷ []
    → AreBare (take (i + 1) patterns) more
AreBare-next patterns bare more i p b low read are is now =
    grind (arith, take_more patterns i p low, AreBare-more p b (take i patterns) bare are is)
