-- What a session keeps besides its helpers and its matcher: its machine, its counts, and its caches.
use Rattle.std.specs.Prelude.{ℕ, List, [], codes}
use Rattle.go_rules.specs.declared.Move.{Move}
use Rattle.go_rules.specs.Position.{BoardState}
use Rattle.go_rules.specs.Replay.{empty_board, replay_from}
use Rattle.run_notes.specs.declared.notes.Counts.{Counts}
use Rattle.run_notes.specs.declared.notes.Links.{Links}
use Rattle.go_options.specs.declared.options.Options.{Options}
use Rattle.read_rules.specs.declared.tree.Tree.{Tree}
use Rattle.read_cache.specs.Keeping.{first_keeping}
use Rattle.kept_connections.specs.Connections.{ConnectionsView}
use Rattle.match_engine.specs.ReadingDepths.{ReadingDepths}
use Rattle.match_engine.specs.Readings.{ReadingsView, first_readings}
use Rattle.helpers.specs.HelperStates.{SlotState}
use Rattle.machine_rules.specs.Machine.{Machine, first_size}

-- settings, the position from which the moves are played, the moves, the counts, and the readings and the connections
-- with their caches
pub record EngineView : Type 0 where
  pub base : BoardState
  pub moves : List Move
  pub komi : List ℕ
  pub depths : ReadingDepths
  pub counts : Counts
  pub readings : ReadingsView
  pub links : ConnectionsView

-- the machine of a session with these helpers
abbrev pub machine_with : List SlotState → EngineView → Machine
machine_with helpers kept = record {
  base = kept.base;
  moves = kept.moves;
  komi = kept.komi;
  depths = kept.depths;
  helpers = helpers;
}

-- the machine of a session, as if it had no helpers
abbrev pub machine_alone : EngineView → Machine
machine_alone kept = machine_with [] kept

-- the position of the game
abbrev pub board_of : EngineView → BoardState
board_of kept = replay_from kept.base kept.moves

-- the counts of connections before the first line
abbrev pub no_links : Links
no_links = record { connections = 0; fresh = 0 }

-- the counts before the first line
abbrev pub no_counts : Counts
no_counts = record { readings = 0; fresh = 0; trials = 0; refused = 0; links = no_links }

-- new connections of these plies, with room for `capacity` cached questions
abbrev pub first_links : ℕ → ℕ → ConnectionsView
first_links plies capacity = record { plies = plies; answers = first_keeping capacity }

-- the depths that the options set, in a tree
abbrev pub depths_in : Tree → Options → ReadingDepths
depths_in tree options = record { tree = tree; plies = options.depth; wide = options.branch }

-- what a session with readings of these depths keeps before the first line, with room for `capacity` cached questions
-- of readings, and as many about connections
abbrev pub first_kept : ReadingDepths → ℕ → EngineView
first_kept depths capacity = record {
  base = empty_board first_size;
  moves = [];
  komi = codes "0.0";
  depths = depths;
  counts = no_counts;
  readings = first_readings depths capacity;
  links = first_links depths.plies capacity;
}
