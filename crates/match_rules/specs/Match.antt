-- The matches of patterns on a position, in order: by the pattern's number, the transformation, and the point of the
-- move. A match needs a diagram that fits, a legal move, and the consent of classes, constraint and helpers.
use Rattle.std.specs.Prelude.{◌≡◌, ◌≢◌, pos, true, ℕ, ◌*◌, ◌<◌, ◌&&◌, ◌⊎◌, Bool, List, map, filter, Some, Ok, slice_get}
use Rattle.std.specs.Prelude.{Contains}
use Rattle.std.specs.List.{flat_map, enumerate_from, range_with_len, AllPairs}
use Rattle.go_rules.specs.declared.Colour.{Colour}
use Rattle.go_rules.specs.Position.{BoardState, other}
use Rattle.go_rules.specs.Play.{play, is_legal}
use Rattle.pat_types.specs.declared.pattern.Pattern.{Pattern}
use Rattle.pat_types.specs.Marks.{count_of}
use Rattle.match_rules.specs.declared.found.Match.{Match}
use Rattle.pat_types.specs.declared.expr.Expr.{Expr}
use Rattle.cons_eval.specs.Readings.{Codes}
use Rattle.cons_eval.specs.Values.{value_of}
use Rattle.match_rules.specs.Fits.{fits, Fits}
use Rattle.match_rules.specs.Conditions.{unsafe_class, enemy_class, IsSafePlay, Advice, meanings_at, is_agreed}
use Rattle.helpers.specs.Fields.{helper_names}

-- whether the pattern matches at m under t: it fits there, the friend's play at m is legal, and its classes, its
-- constraint and its helpers allow it
abbrev pub is_match : Codes → Advice → Pattern → BoardState → Colour → ℕ → ℕ → Bool
is_match code advice p board friend t m =
    fits p board friend t m && (is_legal board friend m && is_agreed code advice p board friend t m)

-- the matches of the pattern with this number under t: the points of a board of size s that pass the test
abbrev pub matches_under : (ℕ → Bool) → ℕ → ℕ → ℕ → List Match
matches_under test number t s =
    map (λ m. record { pattern = number; transform = t; at = m }) (filter test (range_with_len 0 (s * s)))

-- the matches of the pattern with this number: the transformations of its mark and the points that pass the test
abbrev pub matches_of_one : (ℕ → ℕ → Bool) → ℕ → Pattern → ℕ → List Match
matches_of_one test number p s = flat_map (λ t. matches_under (test t) number t s) (range_with_len 0 (count_of p.mark))

-- the matches of all patterns: the patterns with their numbers, the transformations and the points that pass the test
abbrev pub matches_by : (ℕ → Pattern → ℕ → ℕ → Bool) → List Pattern → ℕ → List Match
matches_by test patterns s =
    flat_map (λ numbered. matches_of_one (test numbered.0 numbered.1) numbered.0 numbered.1 s)
    (enumerate_from 0 patterns)

-- the matches of the patterns for a friend: each pattern under each transformation of its mark at each point where it
-- matches
unfoldable pub matches_of : Codes → Advice → List Pattern → BoardState → Colour → List Match
matches_of code advice patterns board friend =
    matches_by (λ number p t m. is_match code advice p board friend t m) patterns board.size

-- z is a match of the patterns for a friend, if code gives the code of each reading and advice what each helper says
pub record IsMatch (code : Codes) (advice : Advice) (patterns : List Pattern) (board : BoardState) (friend : Colour)
    (z : Match) : Type 0 where
  pub pattern : Pattern
  pub number : slice_get patterns z.pattern ≡ Some pattern
  pub transform : z.transform < count_of pattern.mark
  pub on_board : z.at < board.size * board.size
  pub fits : Fits pattern board friend z.transform z.at
  pub legal : (next : BoardState) × (play board friend z.at ≡ Ok next)
  -- unless class s is there, the stone cannot be captured after the play
  pub safe : Contains pattern.classes unsafe_class ⊎ IsSafePlay code board friend z.at
  -- with class n the enemy's play at the same point is legal, and that stone cannot be captured either
  pub enemy_safe : Contains pattern.classes enemy_class → IsSafePlay code board (other friend) z.at
  -- the constraint, if there is one, has a value other than 0 at the moved labels
  pub constraint_true : (e : Expr) → pattern.constraint ≡ Some e
      → value_of (meanings_at code pattern board friend z.transform z.at) e ≢ pos 0
  -- every helper that the pattern names says yes
  pub helpers_agree : (name : List ℕ) → Contains (helper_names pattern.items) name
      → advice name board z.at friend ≡ true

-- y comes before z: by the pattern's number, then by the transformation, then by the point
abbrev pub ComesBefore : Match → Match → Type 0
ComesBefore y z = (y.pattern < z.pattern)
    ⊎ ((y.pattern ≡ z.pattern) × ((y.transform < z.transform) ⊎ ((y.transform ≡ z.transform) × (y.at < z.at))))

-- the list has exactly the matches, each once, in order
pub record AreMatches (code : Codes) (advice : Advice) (patterns : List Pattern) (board : BoardState) (friend : Colour)
    (zs : List Match) : Type 0 where
  pub sound : (z : Match) → Contains zs z → IsMatch code advice patterns board friend z
  pub complete : (z : Match) → IsMatch code advice patterns board friend z → Contains zs z
  pub in_order : AllPairs ComesBefore zs
