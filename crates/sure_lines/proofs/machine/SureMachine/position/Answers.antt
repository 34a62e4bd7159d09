-- A game keeps the size of its board.
use Rattle.go_rules.proofs.CaptureLaws.{replay_size}
use Rattle.sure_lines.proofs.machine.SureMachine.position.Goals as goal

-- playing the moves leaves a position of the size of the base
pub returns-clause-size : goal.returns-clause-size
returns-clause-size c = replay_size c.args.self.now.game.base c.args.self.now.game.moves
