-- A cramped stone: a stone that takes nothing when it is played, and that reaches at most one point.
use Rattle.std.specs.Prelude.{ℕ, ◌*◌, ◌==◌, ◌&&◌, ◌||◌, Bool, not, nat_lt, List}
use Rattle.go_rules.specs.declared.Cell.{Cell}
use Rattle.go_rules.specs.declared.Cell.TheVariants.{Empty, Black, White}
use Rattle.go_rules.specs.Below.{any_below, count_below}
use Rattle.go_rules.specs.Strings.{is_liberty}
use Rattle.go_base.specs.Surroundings.{is_only_liberty}
use Rattle.wider_rules.specs.Strings.{holds_next}

-- a stone of the other colour; an empty cell stays empty
abbrev pub foe_of : Cell → Cell
foe_of Empty = Empty
foe_of Black = White
foe_of White = Black

-- x is reached by a stone of this colour that is played at l: x is an empty neighbour of l; or x is a liberty, other
-- than l itself, of a string of this colour next to l
unfoldable pub is_reached : ℕ → List Cell → Cell → ℕ → ℕ → Bool
is_reached s cells own l x =
    (any_below (s * s) (λ q. holds_next s cells own l q && is_liberty s cells q x) && not (x == l))
    || holds_next s cells Empty l x

-- a stone of this colour that is played at l takes a string: l is the last liberty of a string of the other colour next
-- to l
unfoldable pub takes_some : ℕ → List Cell → Cell → ℕ → Bool
takes_some s cells own l =
    any_below (s * s) (λ q. holds_next s cells (foe_of own) l q && is_only_liberty s cells q l)

-- a stone of this colour that is played at l is cramped: it takes nothing, and it reaches at most one point
unfoldable pub is_cramped : ℕ → List Cell → Cell → ℕ → Bool
is_cramped s cells own l = nat_lt (count_below (s * s) (is_reached s cells own l)) 2 && not (takes_some s cells own l)
