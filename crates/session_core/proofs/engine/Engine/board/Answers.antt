-- A game keeps the size of its board.
use Rattle.go_rules.proofs.CaptureLaws.{replay_size}
use Rattle.session_core.proofs.engine.Engine.board.Goals as goal

-- the board after the moves is as large as the base
pub returns-clause-size : goal.returns-clause-size
returns-clause-size c = replay_size c.args.self.now.base c.args.self.now.moves
