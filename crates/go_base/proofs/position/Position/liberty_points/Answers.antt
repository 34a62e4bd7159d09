use Rattle.std.proofs.Common.{ap, ◌∙◌}
use Rattle.go_rules.specs.Strings.{liberty_points}
use Rattle.go_base.proofs.HeldBoards.{whole_after}
use Rattle.go_base.proofs.position.Position.liberty_points.Goals as goal

-- a flood over the position's board finds the liberties of its string
pub returns : goal.returns
returns c =
    let b = c.board-board.ensures in
    c.liberties_of.ensures.over c.args.self.now (whole_after _ _ c.liberties_of.ensures.looks.asked b.whole)
    ∙ ap (λ t. liberty_points c.board-board.result.size t c.args.p) b.cells
    ∙ ap (λ n. liberty_points n c.args.self.now.cells c.args.p) b.size
