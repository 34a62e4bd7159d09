use Rattle.std.proofs.Common.{sym, ap, ◌∙◌}
use Rattle.std.specs.Prelude.{nat_le}
use Rattle.helper_example.specs.TwoLiberties.{keeps_two, has_two_liberties}
use Rattle.helper_example.proofs.two_liberties.has_two_liberties.Goals as goal

-- a legal play is judged by the liberties of its string in the position after it
pub returns-in-Ok : goal.returns-in-Ok
unfolding has_two_liberties
returns-in-Ok c =
    ap (λ n. nat_le 2 n) c.liberties.ensures
    ∙ ap (λ r. keeps_two r c.args.at) (sym c.in-Ok.is ∙ c.play.ensures.value)

-- an illegal play keeps no liberties
pub returns-in-Err : goal.returns-in-Err
unfolding has_two_liberties
returns-in-Err c = ap (λ r. keeps_two r c.args.at) (sym c.in-Err.is ∙ c.play.ensures.value)
