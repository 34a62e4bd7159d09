use Rattle.std.proofs.Common.{◌≡◌, ◌↔◌, Err, sym, subst}
use Rattle.go_rules.specs.Replay.{moved_to}
use Rattle.go_strings.specs.declared.board.PlayError.TheVariants.{Illegal as illegal}
use Rattle.go_strings.specs.Games.{reached}
use Rattle.go_strings.proofs.board.StringBoard.make.Goals as goal

-- the move is a play at its point
pub returns-in-Some-clause-illegal : goal.returns-in-Some-clause-illegal
returns-in-Some-clause-illegal c = λ e.
    subst (λ at. (c.play.result ≡ Err (illegal e)) ↔ (moved_to (reached c.args.self.now) c.args.m.colour at ≡ Err e))
    (sym c.in-Some.is) (c.play.ensures.illegal e)
