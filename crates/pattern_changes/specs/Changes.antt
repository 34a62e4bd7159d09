-- What a change of a list of patterns changes: the matches that went and those that came. Patterns of the two lists are
-- compared by their names.
use Rattle.std.specs.Prelude.{◌≡◌, ℕ, ◌&&◌, ◌==◌, not, Bool, false, List, ◌++◌, map, filter, Option, Some, None}
use Rattle.std.specs.Prelude.{slice_get, Contains}
use Rattle.std.specs.List.{list_any, flat_map, enumerate_from}
use Rattle.std.specs.Str.{bytes_eq}
use Rattle.go_rules.specs.declared.Colour.{Colour}
use Rattle.go_rules.specs.Position.{BoardState}
use Rattle.pat_types.specs.declared.pattern.Pattern.{Pattern}
use Rattle.cons_eval.specs.Readings.{Codes}
use Rattle.match_rules.specs.declared.found.Match.{Match}
use Rattle.match_rules.specs.Conditions.{Advice}
use Rattle.match_rules.specs.Match.{matches_of, IsMatch}
use Rattle.pattern_changes.specs.declared.change.Change.{Change}
use Rattle.pattern_changes.specs.declared.change.Way.{Way}
use Rattle.pattern_changes.specs.declared.change.Way.TheVariants.{Went, Came}

-- both patterns are there, and have the same name
abbrev pub have_same_name : Option Pattern → Option Pattern → Bool
have_same_name None q = false
have_same_name (Some p) None = false
have_same_name (Some p) (Some q) = bytes_eq p.name q.name

-- y, a match of the other patterns, is at the point of z, a match of the patterns, under the same transformation and by
-- a pattern of the same name
abbrev pub is_same_match : List Pattern → List Pattern → Match → Match → Bool
is_same_match patterns others z y = y.at == z.at && (y.transform == z.transform
    && have_same_name (slice_get patterns z.pattern) (slice_get others y.pattern))

-- the matches of the patterns that are not among the matches of the other patterns
unfoldable pub lacking : List Pattern → List Match → List Pattern → List Match → List Match
lacking patterns found others theirs = filter (λ z. not (list_any (is_same_match patterns others z) theirs)) found

-- the matches of the patterns on a position for a friend that the other patterns do not have there
abbrev pub lost : Codes → Advice → List Pattern → List Pattern → BoardState → Colour → List Match
lost code advice patterns others board friend =
    lacking patterns (matches_of code advice patterns board friend) others
    (matches_of code advice others board friend)

-- a match that went or came for a friend, on the position after this number of moves
abbrev pub change_of : ℕ → Colour → Way → Match → Change
change_of moves friend way z = record { moves = moves; friend = friend; way = way; found = z }

-- what changes for a friend on the position after this number of moves: first the matches that went, then those that
-- came
unfoldable pub changes_for : Codes → Advice → List Pattern → List Pattern → ℕ → BoardState → Colour → List Change
changes_for code advice old new moves board friend =
    map (change_of moves friend Went) (lost code advice old new board friend)
    ++ map (change_of moves friend Came) (lost code advice new old board friend)

-- what changes for these friends on the position after this number of moves
unfoldable pub changes_at : Codes → Advice → List Pattern → List Pattern → List Colour → ℕ × BoardState → List Change
changes_at code advice old new friends place =
    flat_map (λ friend. changes_for code advice old new place.0 place.1 friend) friends

-- what changes for these friends over the positions of a game: the position before the first move, the one after it,
-- and so on
unfoldable pub changes_over : Codes → Advice → List Pattern → List Pattern → List Colour → List BoardState → List Change
changes_over code advice old new friends boards =
    flat_map (changes_at code advice old new friends) (enumerate_from 0 boards)

-- y, a match of the other patterns, is at the point of z, a match of the patterns, under the same transformation and by
-- a pattern of the same name
pub record IsSameMatch (patterns others : List Pattern) (z y : Match) : Type 0 where
  pub pattern : Pattern
  pub number : slice_get patterns z.pattern ≡ Some pattern
  pub other : Pattern
  pub other_number : slice_get others y.pattern ≡ Some other
  pub name : pattern.name ≡ other.name
  pub transform : y.transform ≡ z.transform
  pub at : y.at ≡ z.at

-- z is a match of the patterns, and the other patterns have no such match: same point, transformation and pattern name
pub record IsLost (code : Codes) (advice : Advice) (patterns others : List Pattern) (board : BoardState)
    (friend : Colour) (z : Match) : Type 0 where
  pub found : IsMatch code advice patterns board friend z
  pub lost : (y : Match) → IsMatch code advice others board friend y → IsSameMatch patterns others z y → ⊥

-- a match that went is one of the old patterns and the new patterns do not have it there; a match that came is one of
-- the new patterns and the old patterns do not have it there
abbrev pub IsChanged : Codes → Advice → List Pattern → List Pattern → BoardState → Colour → Way → Match → Type 0
IsChanged code advice old new board friend Went z = IsLost code advice old new board friend z
IsChanged code advice old new board friend Came z = IsLost code advice new old board friend z

-- c is a change over the positions of a game: on the position after c.moves moves, a match went or came for one of
-- these friends
pub record IsChange (code : Codes) (advice : Advice) (old new : List Pattern) (friends : List Colour)
    (boards : List BoardState) (c : Change) : Type 0 where
  pub board : BoardState
  pub moves : slice_get boards c.moves ≡ Some board
  pub friend : Contains friends c.friend
  pub changed : IsChanged code advice old new board c.friend c.way c.found
