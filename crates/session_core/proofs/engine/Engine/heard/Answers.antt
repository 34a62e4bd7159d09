-- What a line says is read at the size of the session's board.
use Rattle.std.proofs.Common.{arith}
use Rattle.session_core.proofs.engine.Engine.heard.Goals as goal

-- a line says what was parsed
pub returns-in-Line-clause-said : goal.returns-in-Line-clause-said
returns-in-Line-clause-said c = grind arith

-- the points that a line names are on the board
pub returns-in-Line-clause-within : goal.returns-in-Line-clause-within
returns-in-Line-clause-within c = grind arith
