use Rattle.go_rules.proofs.PlayLaws.{empty_is_position, play_keeps, free_keeps, pass_keeps, game_keeps}
use Rattle.go_rules.proofs.laws.games_keep_positions.Goals as goal

-- no stone has no liberty
pub returns-clause-empty : goal.returns-clause-empty
returns-clause-empty c = empty_is_position

-- a play leaves each string a liberty
pub returns-clause-play : goal.returns-clause-play
returns-clause-play c = play_keeps

-- and so without a ban
pub returns-clause-play_free : goal.returns-clause-play_free
returns-clause-play_free c = free_keeps

-- a pass moves no stone
pub returns-clause-pass : goal.returns-clause-pass
returns-clause-pass c = pass_keeps

-- move by move
pub returns-clause-game : goal.returns-clause-game
returns-clause-game c = game_keeps
