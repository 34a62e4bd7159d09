-- The match that a hit of an automaton is, if it is one.
use Rattle.std.specs.Prelude.{ℕ, pos, ◌-ℤ◌, Option, Some, None, nat_lt, if◌then◌else◌}
use Rattle.go_rules.specs.declared.Colour.{Colour}
use Rattle.go_rules.specs.Position.{BoardState}
use Rattle.spiral.specs.Spiral.{place_at}
use Rattle.pat_types.specs.declared.pattern.Pattern.{Pattern}
use Rattle.pat_types.specs.Cells.{anchor_of}
use Rattle.pat_types.specs.Marks.{count_of}
use Rattle.dfa_match.specs.declared.Hit.{Hit}
use Rattle.match_rules.specs.declared.found.Match.{Match}
use Rattle.go_rules.specs.Play.{is_legal}
use Rattle.match_engine.specs.AutomatonMatches.{lies_on_board}

-- the star's point, with the anchor's cell at the point a under t, or None off the board
abbrev pub place_of_star : Pattern → ℕ → ℕ → ℕ → Option ℕ
place_of_star p s t a = place_at s t a (pos p.star.0 -ℤ pos (anchor_of p).0, pos p.star.1 -ℤ pos (anchor_of p).1)

-- the star's point, if there is one and every letter of the diagram lies on the board with the star there
abbrev pub star_if_whole : Pattern → ℕ → ℕ → Option ℕ → Option ℕ
star_if_whole p s t None = None
star_if_whole p s t (Some m) = if lies_on_board p s t m then Some m else None

-- the match with this number, transformation and point, if there is a point and the friend's play there is legal
abbrev pub match_if_legal : BoardState → Colour → ℕ → ℕ → Option ℕ → Option Match
match_if_legal board friend number t None = None
match_if_legal board friend number t (Some m) = if is_legal board friend m then Some (record {
  pattern = number;
  transform = t;
  at = m;
}) else None

-- the match that a hit of this pattern is, if it is one
abbrev pub match_of : Pattern → BoardState → Colour → Hit → Option Match
match_of p board friend hit =
    if nat_lt hit.transform (count_of p.mark) then match_if_legal board friend hit.pattern hit.transform
    (star_if_whole p board.size hit.transform (place_of_star p board.size hit.transform hit.anchor)) else None

-- the match that a hit of the pattern is; None, if there is no pattern
abbrev pub match_from : Option Pattern → BoardState → Colour → Hit → Option Match
match_from None board friend hit = None
match_from (Some p) board friend hit = match_of p board friend hit
