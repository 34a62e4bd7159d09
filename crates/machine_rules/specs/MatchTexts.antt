-- How a session prints matches.
use Rattle.std.specs.Prelude.{ℕ, ◌*◌, ◌<◌, List, [], ◌++◌, length, map, Option, Some, None, slice_get, Contains}
use Rattle.std.specs.Prelude.{codes, decimal}
use Rattle.std.specs.List.{join_with_byte}
use Rattle.pat_types.specs.declared.pattern.Pattern.{Pattern}
use Rattle.match_rules.specs.declared.found.Match.{Match}
use Rattle.gtp_cmd.specs.Words.{line_feed}
use Rattle.gtp_cmd.specs.Vertices.{vertex_text}

-- the name of a pattern; empty if there is no pattern
abbrev pub name_of : Option Pattern → List ℕ
name_of None = []
name_of (Some p) = p.name

-- a match of these patterns on a board of size s: the name of its pattern, its transformation and its point, separated
-- by blanks
abbrev pub match_text : List Pattern → ℕ → Match → List ℕ
match_text patterns s z =
    name_of (slice_get patterns z.pattern) ++ codes " " ++ decimal z.transform ++ codes " " ++ vertex_text s z.at

-- the texts of matches, one a line
abbrev pub matches_text : List Pattern → ℕ → List Match → List ℕ
matches_text patterns s zs = join_with_byte line_feed (map (match_text patterns s) zs)

-- each match is one of these patterns at a point of a board of size s
abbrev pub AreAmong : List Pattern → ℕ → List Match → Type 0
AreAmong patterns s zs = (z : Match) → Contains zs z → (z.pattern < length patterns) × (z.at < s * s)
