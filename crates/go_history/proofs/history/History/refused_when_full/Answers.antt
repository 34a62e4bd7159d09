use Rattle.std.proofs.Common.{IfSome, ◌*◌, ◌<◌, subst}
use Rattle.go_strings.specs.Games.{reached}
use Rattle.go_history.proofs.HeldGames.{point_shown}
use Rattle.go_history.proofs.history.History.refused_when_full.Goals as goal

-- the point is on the board
pub refusal-requires : goal.refusal-requires
refusal-requires c =
    subst (λ at. IfSome at (λ p. p < (reached c.self.inside.board).size * (reached c.self.inside.board).size))
    c.in-Some.is
    (point_shown c.self.inside c.args.self.now c.args.m c.self.invariant c.self.view_is c.requires)
