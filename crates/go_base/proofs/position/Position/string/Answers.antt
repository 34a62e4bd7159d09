use Rattle.std.proofs.Common.{ap, ◌∙◌}
use Rattle.go_rules.specs.Strings.{string_at}
use Rattle.go_base.proofs.HeldBoards.{whole_after}
use Rattle.go_base.proofs.position.Position.string.Goals as goal

-- a flood over the position's board finds the string
pub returns : goal.returns
returns c =
    let b = c.board-board.ensures in
    c.string_of.ensures.over c.args.self.now (whole_after _ _ c.string_of.ensures.looks.asked b.whole)
    ∙ ap (λ t. string_at c.board-board.result.size t c.args.p) b.cells
    ∙ ap (λ n. string_at n c.args.self.now.cells c.args.p) b.size
