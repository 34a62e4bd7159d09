-- A turn of the game tree: who moves, and the turn after it.
use Rattle.std.specs.Prelude.{◌-◌, not, if◌then◌else◌}
use Rattle.go_rules.specs.declared.Colour.{Colour}
use Rattle.go_rules.specs.Position.{other}
use Rattle.read_rules.specs.declared.turn.Turn.{Turn}

-- the colour whose turn it is
abbrev pub mover_of : Turn → Colour
mover_of turn = if turn.attacker_to_play then other turn.defender else turn.defender

-- the turn after a move: the other side is to play, and a wide ply is spent if one is left; the tree stays
abbrev pub next_turn : Turn → Turn
next_turn turn = record {
  tree = turn.tree;
  target = turn.target;
  defender = turn.defender;
  attacker_to_play = not turn.attacker_to_play;
  wide = turn.wide - 1;
}
