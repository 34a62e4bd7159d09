-- What a session asked of its connections for a line, and what it counted.
use Rattle.std.specs.Prelude.{◌≡◌, true, Option, Some, None}
use Rattle.go_rules.specs.Position.{IsPosition}
use Rattle.connect_rules.specs.declared.question.LinkQuestion.{LinkQuestion}
use Rattle.connect_rules.specs.declared.question.Linkage.{Linkage}
use Rattle.read_cache.specs.Kept.{HoldsOfEach}
use Rattle.kept_connections.specs.Connections.{HasAsked, Rests}
use Rattle.machine_rules.specs.Counting.{counted}
use Rattle.session_core.specs.EngineView.{EngineView, board_of}

-- the session counts as many fresh connections as its connections do
abbrev pub CountsFreshLinks : EngineView → Type 0
CountsFreshLinks session = session.counts.links.fresh ≡ session.links.answers.fresh

-- The connections were asked this question once, and the line is counted. The answer was cached, or it was fresh and is
-- cached first or refused; fresh answers are counted exactly if the connections say so. The board is a position, and
-- each cached answer rests on its facts.
pub record LinksOnce (question : LinkQuestion) (old new : EngineView) : Type 0 where
  pub answer : Linkage
  pub asked : HasAsked (record { question = question }) (board_of old) answer old.links.answers new.links.answers
  pub board : IsPosition (board_of old)
  pub rest : HoldsOfEach Rests new.links.answers.kept
  pub connections : new.counts.links.connections ≡ counted old.counts.links.connections true
  pub fresh_before : CountsFreshLinks old
  pub fresh : CountsFreshLinks new

-- nothing was asked of the connections: their cache and their counts stay
pub record LinksNothing (old new : EngineView) : Type 0 where
  pub counts : new.counts.links ≡ old.counts.links
  pub answers : new.links.answers ≡ old.links.answers

-- `new` is `old` after the question about a connection, if one was asked
abbrev pub LinksAs : Option LinkQuestion → EngineView → EngineView → Type 0
LinksAs None old new = LinksNothing old new
LinksAs (Some question) old new = LinksOnce question old new
