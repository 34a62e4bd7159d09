-- The match whose move is played: the first, in the order of matches, of the matches of the greatest worth.
use Rattle.std.specs.Prelude.{◌≡◌, ℕ, ◌≤◌, ◌==◌, ◌&&◌, ◌||◌, not, Bool, nat_lt, List, Option, slice_get, find, Contains}
use Rattle.std.specs.List.{list_all}
use Rattle.std.specs.Option.{option_map_or}
use Rattle.pat_types.specs.declared.pattern.Pattern.{Pattern}
use Rattle.match_rules.specs.declared.found.Match.{Match}
use Rattle.match_rules.specs.Match.{ComesBefore}
use Rattle.move_choice.specs.Worth.{worth_of}

-- the worth of a match is that of its pattern
abbrev pub worth_at : List Pattern → Match → ℕ
worth_at patterns z = option_map_or worth_of (slice_get patterns z.pattern) 0

-- y comes before z: by the pattern's number, then by the transformation, then by the point
abbrev pub comes_before : Match → Match → Bool
comes_before y z = nat_lt y.pattern z.pattern || ((y.pattern == z.pattern)
    && (nat_lt y.transform z.transform || ((y.transform == z.transform) && nat_lt y.at z.at)))

-- y is preferred to z: it is worth more, or it is worth as much and comes before z
abbrev pub is_preferred : (Match → ℕ) → Match → Match → Bool
is_preferred worth y z = nat_lt (worth z) (worth y) || ((worth y == worth z) && comes_before y z)

-- the match of the list to which no match of the list is preferred, if there is one
abbrev pub choice_by : (Match → ℕ) → List Match → Option Match
choice_by worth zs = find (λ z. list_all (λ y. not (is_preferred worth y z)) zs) zs

-- the choice among matches of the patterns
unfoldable pub choice_of : List Pattern → List Match → Option Match
choice_of patterns zs = choice_by (worth_at patterns) zs

-- z is the choice by these worths: it is in the list, no match of the list is worth more, and none that is worth as
-- much comes before it
pub record IsChoice (worth : Match → ℕ) (zs : List Match) (z : Match) : Type 0 where
  pub there : Contains zs z
  pub none_greater : (y : Match) → Contains zs y → worth y ≤ worth z
  pub none_earlier : (y : Match) → Contains zs y → worth y ≡ worth z → ¬ ComesBefore y z
