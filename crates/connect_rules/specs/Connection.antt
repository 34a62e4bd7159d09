-- The bounded tree of a connection: what decides a node, which moves lead on, and whether the strings can be joined.
-- Five rules decide a node, in this order: a string is gone, the two are one string, no ply is left, their own colour
-- is to play, the other colour is to play. No side may ignore the ko ban.
use Rattle.std.specs.Prelude.{ℕ, zero, suc, ◌*◌, Bool, true, false, not, ◌&&◌, ◌||◌, Option, Result, Ok, Err}
use Rattle.std.specs.Prelude.{if◌then◌else◌}
use Rattle.go_rules.specs.declared.Colour.{Colour}
use Rattle.go_rules.specs.declared.Illegal.{Illegal}
use Rattle.go_rules.specs.Below.{any_below, first_below}
use Rattle.go_rules.specs.Strings.{cell_at, same_cell, is_in_string}
use Rattle.go_rules.specs.Position.{BoardState, other, stone_of}
use Rattle.go_rules.specs.Play.{play, pass}
use Rattle.connect_rules.specs.declared.link.Link.{Link}
use Rattle.connect_rules.specs.ConnectingMoves.{is_connecting_move}

-- both strings stand: both points hold stones of the colour
abbrev pub both_stand : Link → BoardState → Bool
both_stand link pos =
    same_cell (cell_at pos.cells link.a) (stone_of link.colour)
    && same_cell (cell_at pos.cells link.b) (stone_of link.colour)

-- the string of the first point holds the second
abbrev pub is_one_string : Link → BoardState → Bool
is_one_string link pos = is_in_string pos.size pos.cells link.a link.b

-- both strings stand, and they are one string
abbrev pub are_joined : Link → BoardState → Bool
are_joined link pos = both_stand link pos && is_one_string link pos

-- the colour whose turn it is: the strings' own if own is true, else the other
abbrev pub mover_of : Link → Bool → Colour
mover_of link own = if own then link.colour else other link.colour

-- the play is legal, and the position after it passes the test
abbrev pub leads_to : (BoardState → Bool) → Result BoardState Illegal → Bool
leads_to test (Ok new) = test new
leads_to test (Err why) = false

-- the side that moved has its way: if it is the strings' own colour, they can be joined; if it is the other, they
-- cannot
abbrev pub has_way : Bool → Bool → Bool
has_way own joined = if own then joined else not joined

-- p is a connecting move, it is legal for the side to play, and the position after it passes the test
abbrev pub is_move_to : (BoardState → Bool) → Link → Bool → BoardState → ℕ → Bool
is_move_to test link own pos p = is_connecting_move link pos p && leads_to test (play pos (mover_of link own) p)

-- some connecting move of the side to play leads to a position that passes the test
abbrev pub some_move_to : (BoardState → Bool) → Link → Bool → BoardState → Bool
some_move_to test link own pos = any_below (pos.size * pos.size) (is_move_to test link own pos)

-- with n plies left the strings can be joined: they are joined already; or both stand, and it is their own turn, and
-- some connecting move leads to a position on which they can be joined; or both stand, and it is the other colour's
-- turn, and they can be joined after its pass, and no connecting move leads to a position on which they cannot
unfoldable pub can_connect : ℕ → Link → Bool → BoardState → Bool
can_connect zero link own pos = are_joined link pos
can_connect (suc n) link own pos = both_stand link pos && (is_one_string link pos || (if own
    then some_move_to (can_connect n link false) link true pos
    else can_connect n link true (pass pos)
    && not (some_move_to (λ new. not (can_connect n link true new)) link false pos)))

-- p is a connecting move that can be played, and with n plies left after it the side that played it has its way
abbrev pub succeeds : ℕ → Link → Bool → BoardState → ℕ → Bool
succeeds n link own pos p = is_move_to (λ new. has_way own (can_connect n link (not own) new)) link own pos p

-- the first connecting move in reading order that succeeds
abbrev pub first_success : ℕ → Link → Bool → BoardState → Option ℕ
first_success n link own pos = first_below (pos.size * pos.size) (succeeds n link own pos)

-- with n plies left after the other colour's pass the strings cannot be joined
abbrev pub pass_parts : ℕ → Link → BoardState → Bool
pass_parts n link pos = not (can_connect n link true (pass pos))
