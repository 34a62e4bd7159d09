-- The points on which the parts of a sure capture rest. They are computed from the position before the play.
use Rattle.std.specs.Prelude.{ℕ, zero, suc, ◌*◌, ◌&&◌, ◌||◌, Bool, true, false, not, nat_lt, nat_le, List, Option}
use Rattle.std.specs.Prelude.{None, Some, if◌then◌else◌}
use Rattle.std.specs.Option.{option_map, option_and_then}
use Rattle.std.specs.Ordering.{nat_cmp}
use Rattle.std.specs.FinSet as set
use Rattle.go_rules.specs.declared.Cell.{Cell}
use Rattle.go_rules.specs.declared.Cell.TheVariants.{Empty}
use Rattle.go_rules.specs.declared.Colour.{Colour}
use Rattle.go_rules.specs.Below.{any_below, first_below, set_below}
use Rattle.go_rules.specs.Board.{largest_points}
use Rattle.go_rules.specs.Strings.{cell_at, same_cell, is_liberty, liberties, string_at, liberty_points}
use Rattle.go_rules.specs.Position.{BoardState, other, stone_of}
use Rattle.go_base.specs.Floods.{enemy_points}
use Rattle.go_base.specs.Sides.{neighbour_at}
use Rattle.read_rules.specs.Candidates.{is_empty_beside}
use Rattle.read_rules.specs.declared.node.Node.{Node}
use Rattle.read_rules.specs.declared.tree.Tree.{Tree}
use Rattle.read_rules.specs.declared.tree.Tree.TheVariants.{Stated, Wider}
use Rattle.read_rules.specs.declared.turn.Turn.{Turn}
use Rattle.read_rules.specs.Trees.{is_wider}
use Rattle.read_rules.specs.Turns.{mover_of}
use Rattle.wider_rules.specs.Further.{is_weak_enemy, is_linked, few_of_attacker, few_of_parted, netted}

-- a set of points
abbrev pub Points : Type 0
Points = set.FinSet nat_cmp

-- the union of sets 0 to sets (n - 1)
abbrev pub union_below : ℕ → (ℕ → Points) → Points
union_below zero sets = set.empty
union_below (suc n) sets = set.union (union_below n sets) (sets n)

-- the first point, or the second if there is no first
abbrev pub else_point : Option ℕ → Option ℕ → Option ℕ
else_point None second = second
else_point (Some q) second = Some q

-- the least point of a set
abbrev pub first_of : Points → Option ℕ
first_of S = first_below largest_points (set.contains S)

-- the least point of S that is in Z; if no point of S is in Z, the least point of S
abbrev pub first_within : Points → Points → Option ℕ
first_within Z S = else_point (first_of (set.intersection S Z)) (first_of S)

-- two points of S, if it has two; points that are in Z are taken before the others
abbrev pub two_within : Points → Points → Option (ℕ × ℕ)
two_within Z S = option_and_then (λ l. option_map (λ k. (l, k)) (first_within Z (set.remove S l))) (first_within Z S)

-- the string of q and all its neighbours
unfoldable pub close_to : ℕ → List Cell → ℕ → Points
close_to s cells q = set.union (set.union (string_at s cells q) (liberty_points s cells q)) (enemy_points s cells q)

-- the stones and the two given liberties; if none are given, the stones, the liberties and the enemies next to the
-- stones
abbrev pub shown_by : Points → Points → Points → Option (ℕ × ℕ) → Points
shown_by stones liberties enemies None = set.union (set.union stones liberties) enemies
shown_by stones liberties enemies (Some two) = set.insert (set.insert stones two.0) two.1

-- the points that show whether the string of q is in atari: q, and the string with two of its liberties, those in Z
-- before the others, or with all its neighbours if it has fewer than two liberties
unfoldable pub shows_atari : ℕ → List Cell → Points → ℕ → Points
shows_atari s cells Z q = set.insert (shown_by (string_at s cells q) (liberty_points s cells q) (enemy_points s cells q)
    (two_within Z (liberty_points s cells q))) q

-- there is a neighbour, and it is empty
abbrev pub is_empty_at : List Cell → Option ℕ → Bool
is_empty_at cells None = false
is_empty_at cells (Some q) = same_cell (cell_at cells q) Empty

-- p has an empty neighbour
unfoldable pub has_empty_neighbour : ℕ → List Cell → ℕ → Bool
has_empty_neighbour s cells p = any_below 4 (λ side. is_empty_at cells (neighbour_at s p side))

-- a neighbour of the point of a play of c shows nothing but its cell: the cell is empty; or it holds a stone of c, and
-- free is true, which says that the point has an empty neighbour
abbrev pub shows_cell : Colour → Bool → Cell → Bool
shows_cell c free cell = same_cell cell Empty || (free && same_cell cell (stone_of c))

-- of a neighbour of the point of a play of c, the points on which the play rests: the neighbour alone, if it shows
-- nothing but its cell; else the points that show whether its string is in atari. None if the board ends there
abbrev pub shows_neighbour : ℕ → List Cell → Colour → Bool → Points → Option ℕ → Points
shows_neighbour s cells c free Z None = set.empty
shows_neighbour s cells c free Z (Some q) =
    if shows_cell c free (cell_at cells q) then set.insert set.empty q else shows_atari s cells Z q

-- the points on which a play of c at p rests, if what follows rests on Z: p, its neighbours, and the points that show
-- whether the strings of the neighbours are in atari; of the liberties, p and those in Z come before the others. If p
-- has an empty neighbour, the play can be made whatever the liberties of the neighbouring strings of c, so these strings
-- are left out. The points show whether the play can be made, what it captures and which ko ban it leaves
unfoldable pub play_rests_on : ℕ → List Cell → Colour → Points → ℕ → Points
play_rests_on s cells c Z p = set.insert (union_below 4 (λ side. shows_neighbour s cells c
    (has_empty_neighbour s cells p) (set.insert Z p) (neighbour_at s p side))) p

-- there is a neighbour, and it holds no stone of c
abbrev pub is_open : List Cell → Colour → Option ℕ → Bool
is_open cells c None = false
is_open cells c (Some q) = not (same_cell (cell_at cells q) (stone_of c))

-- the first neighbour of p, in the order of the sides, that holds no stone of c
unfoldable pub open_neighbour : ℕ → List Cell → Colour → ℕ → Option ℕ
open_neighbour s cells c p =
    option_and_then (neighbour_at s p) (first_below 4 (λ side. is_open cells c (neighbour_at s p side)))

-- the points that show whether each neighbour of the empty point p holds a stone of the enemy of c, and whether c can
-- play at p: p and a neighbour that holds no such stone; if there is no such neighbour, the points on which a play of c
-- at p rests
abbrev pub wall_rests_on : ℕ → List Cell → Colour → ℕ → Option ℕ → Points
wall_rests_on s cells c p None = play_rests_on s cells c set.empty p
wall_rests_on s cells c p (Some q) = set.insert (set.insert set.empty p) q

-- the points that show whether the defender takes back the target, which is taken, and to which position that leads. At
-- the attacker's turn and in the stated tree he does not, and the target's point is enough
unfoldable pub loss_rests_on : Node → BoardState → Points
loss_rests_on node pos =
    if is_wider node.turn.tree && not node.turn.attacker_to_play
    then wall_rests_on pos.size pos.cells (mover_of node.turn) node.turn.target
    (open_neighbour pos.size pos.cells (other node.turn.defender) node.turn.target)
    else set.insert set.empty node.turn.target

-- all points of a board of s rows
abbrev pub all_points : ℕ → Points
all_points s = set_below (s * s) (λ q. true)

-- the attacker tries the empty points next to the target's liberties, if a wide ply is left, up to this number of
-- liberties: two, and in the wider tree three
abbrev pub most_wide : Tree → ℕ
most_wide Stated = 2
most_wide Wider = netted

-- the liberties of an enemy string next to the target's are candidates of the attacker in each ply up to this number:
-- one, and in the wider tree two
abbrev pub most_of_enemy : Tree → ℕ
most_of_enemy Stated = 1
most_of_enemy Wider = few_of_attacker

-- the first enemy stone next to the target's string, in reading order, whose string has no more than most liberties,
-- one of which is p
unfoldable pub weak_enemy_at : ℕ → ℕ → List Cell → ℕ → ℕ → Option ℕ
weak_enemy_at most s cells target p =
    first_below (s * s) (λ q. is_weak_enemy most s cells target q && is_liberty s cells q p)

-- the first stone of a string linked to the target, in reading order, that has at most two liberties, one of which is p
unfoldable pub linked_at : ℕ → List Cell → ℕ → ℕ → Option ℕ
linked_at s cells target p =
    first_below (s * s) (λ q. is_linked few_of_parted s cells target q && is_liberty s cells q p)

-- a stone of another string than the target's that shows that p is a candidate: a stone of a weak enemy string; or, if
-- there is none and a wide ply is left in the wider tree, a stone of a linked string
unfoldable pub shown_at : Turn → ℕ → List Cell → ℕ → Option ℕ
shown_at turn s cells p = else_point (weak_enemy_at (most_of_enemy turn.tree) s cells turn.target p)
    (if nat_lt 0 turn.wide && is_wider turn.tree then linked_at s cells turn.target p else None)

-- the string of the target and that of q, each with all its neighbours; all points of the board if there is no q
abbrev pub with_string : ℕ → List Cell → ℕ → Option ℕ → Points
with_string s cells target None = all_points s
with_string s cells target (Some q) = set.union (close_to s cells target) (close_to s cells q)

-- the points that show that p is a candidate of the attacker at the turn and that the target has not too many
-- liberties. A liberty of the target rests on the target's string and its neighbours; a point beside a liberty rests on
-- these and on p; a liberty of a weak enemy string or of a linked string rests on these and on that string and its
-- neighbours. Every other candidate rests on all points of the board
unfoldable pub candidate_rests_on : Turn → BoardState → ℕ → Points
candidate_rests_on turn pos p =
    if is_liberty pos.size pos.cells turn.target p then close_to pos.size pos.cells turn.target
    else if (nat_lt 0 turn.wide && nat_le (liberties pos.size pos.cells turn.target) (most_wide turn.tree))
    && is_empty_beside pos.size pos.cells (is_liberty pos.size pos.cells turn.target) p
    then set.insert (close_to pos.size pos.cells turn.target) p
    else with_string pos.size pos.cells turn.target (shown_at turn pos.size pos.cells p)

-- the points that guard q: if q is in the zone Z and holds a stone of c, the points that show whether its string is in
-- atari, liberties in Z before the others; else none
abbrev pub guard_at : ℕ → List Cell → Colour → Points → ℕ → Points
guard_at s cells c Z q =
    if set.contains Z q && same_cell (cell_at cells q) (stone_of c) then shows_atari s cells Z q else set.empty

-- the points that show, of each string of c with a stone in Z, whether it is in atari
unfoldable pub guard_of : ℕ → List Cell → Colour → Points → Points
guard_of s cells c Z = union_below (s * s) (guard_at s cells c Z)

-- the liberties, if there are fewer than two; else none
abbrev pub last_of : Points → Option (ℕ × ℕ) → Points
last_of liberties None = liberties
last_of liberties (Some two) = set.empty

-- the reply that q asks for, if q is in Z: q if it is empty; if it holds a stone of c, the only liberty of its string,
-- if it has only one
abbrev pub asked_at : ℕ → List Cell → Colour → Points → ℕ → Points
asked_at s cells c Z q =
    if set.contains Z q && same_cell (cell_at cells q) Empty then set.insert set.empty q
    else if set.contains Z q && same_cell (cell_at cells q) (stone_of c)
    then last_of (liberty_points s cells q) (two_within Z (liberty_points s cells q))
    else set.empty

-- the replies that Z asks for: its empty points, and the only liberty of each string of c in atari that has a stone in
-- Z
unfoldable pub asked_of : ℕ → List Cell → Colour → Points → Points
asked_of s cells c Z = union_below (s * s) (asked_at s cells c Z)
