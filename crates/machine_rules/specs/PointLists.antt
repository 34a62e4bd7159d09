-- Lists of points in reading order, and their text.
use Rattle.std.specs.Prelude.{ℕ, ◌*◌, List, [], ◌∷◌, map, filter}
use Rattle.std.specs.List.{join_with_byte, range_with_len}
use Rattle.std.specs.Ordering.{nat_cmp}
use Rattle.std.specs.FinSet as set
use Rattle.go_rules.specs.declared.Colour.{Colour}
use Rattle.go_rules.specs.Strings.{liberty_points}
use Rattle.go_rules.specs.Position.{BoardState}
use Rattle.go_rules.specs.Play.{legal_points}
use Rattle.gtp_cmd.specs.Words.{blank}
use Rattle.gtp_cmd.specs.Vertices.{vertex_text}

-- the members of a set of points of a board of size s, in reading order
abbrev pub in_reading_order : ℕ → set.FinSet nat_cmp → List ℕ
in_reading_order s points = filter (set.contains points) (range_with_len 0 (s * s))

-- the points where c may play, in reading order
abbrev pub legal_list : BoardState → Colour → List ℕ
legal_list pos c = in_reading_order pos.size (legal_points pos c)

-- the liberties of the string of p, in reading order
abbrev pub liberty_list : BoardState → ℕ → List ℕ
liberty_list pos p = in_reading_order pos.size (liberty_points pos.size pos.cells p)

-- the vertices of points of a board of size s, separated by blanks
abbrev pub vertices_text : ℕ → List ℕ → List ℕ
vertices_text s points = join_with_byte blank (map (vertex_text s) points)

-- a blank after a text that is not empty
abbrev pub blank_after : List ℕ → List ℕ
blank_after [] = []
blank_after (b ∷ bs) = blank ∷ []
