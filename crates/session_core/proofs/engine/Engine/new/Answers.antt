-- A session begins with the empty board.
use Rattle.std.proofs.Common.{◌≡◌, ℕ, List, codes, rules, arith}
use Rattle.go_history.specs.Games.{Game, new_game}
use Rattle.kept_connections.specs.Connections.{ConnectionsView}
use Rattle.match_engine.specs.ReadingDepths.{ReadingDepths}
use Rattle.match_engine.specs.Readings.{ReadingsView, first_readings}
use Rattle.machine_rules.specs.Machine.{first_size}
use Rattle.session_core.specs.EngineView.{EngineView, first_kept, first_links, depths_in}
use Rattle.session_core.proofs.engine.Engine.new.Goals as goal

-- what is kept of this game, these readings and connections before a line was counted
abbrev kept_of : Game → List ℕ → ReadingsView → ConnectionsView → EngineView
kept_of game komi readings links = record {
  base = game.base;
  moves = game.moves;
  komi = komi;
  depths = readings.depths;
  counts = record {
    readings = 0;
    fresh = 0;
    trials = 0;
    refused = readings.answers.refused;
    links = record { connections = 0; fresh = links.answers.fresh };
  };
  readings = readings;
  links = links;
}

-- with a new game of the first size it is what is kept at first
first_is : (game : Game) (s : ℕ) (komi : List ℕ) (readings : ReadingsView) (links : ConnectionsView)
    (depths : ReadingDepths) (capacity : ℕ) → game ≡ new_game s → s ≡ first_size → komi ≡ codes "0.0"
    → readings ≡ first_readings depths capacity → links ≡ first_links depths.plies capacity
    → kept_of game komi readings links ≡ first_kept depths capacity
first_is game s komi readings links depths capacity new size zero none unasked = grind arith

-- readings and connections have the plies of the options
pub invariant_of-result : goal.invariant_of-result
invariant_of-result c = search rules

-- the game is new, and so are the readings
pub returns : goal.returns
returns c =
    let size : c.unwrap-size.result ≡ first_size = search rules in
    let zero : c.zero.result ≡ codes "0.0" = search rules in
    let none : c.in_ok-new-2.field-0 ≡ first_readings (depths_in c.args.tree c.args.options.now)
    c.args.options.now.cache = search rules in
    first_is c.in_ok-new.field-0 c.unwrap-size.result c.zero.result c.in_ok-new-2.field-0 c.in_ok-new-3.field-0 _ _
    c.in_ok-new.ensures size zero none c.in_ok-new-3.ensures
