-- How contracts see the fields of a session.
use Rattle.session_core.specs.EngineView.{EngineView}
use Rattle.session_core.specs.declared.engine.Engine.TheInside.{Inside}

-- what a session with these fields keeps
abbrev pub seen : Inside → EngineView
seen s = record {
  base = s.history.base;
  moves = s.history.moves;
  komi = s.komi;
  depths = s.readings.depths;
  counts = record {
    readings = s.counts.readings;
    fresh = s.counts.fresh;
    trials = s.counts.trials;
    refused = s.readings.answers.refused;
    links = record { connections = s.connections; fresh = s.links.answers.fresh };
  };
  readings = s.readings;
  links = s.links;
}
