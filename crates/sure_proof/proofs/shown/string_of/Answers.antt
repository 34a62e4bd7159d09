use Rattle.std.proofs.Common.{ap, ◌∙◌}
use Rattle.go_rules.specs.Strings.{liberty_points, string_at}
use Rattle.go_base.specs.Floods.{enemy_points}
use Rattle.go_base.proofs.HeldBoards.{whole_after}
use Rattle.sure_proof.proofs.shown.string_of.Goals as goal

-- a search over the position's board finds the stones of its string
pub returns-clause-stones : goal.returns-clause-stones
returns-clause-stones c =
    let b = c.board.ensures in
    c.flood.ensures.stones c.args.pos.now (whole_after _ _ c.flood.ensures.looks.asked b.whole)
    ∙ ap (λ t. string_at c.board.result.size t c.args.p) b.cells
    ∙ ap (λ n. string_at n c.args.pos.now.cells c.args.p) b.size

-- its liberties
pub returns-clause-liberties : goal.returns-clause-liberties
returns-clause-liberties c =
    let b = c.board.ensures in
    c.flood.ensures.liberties c.args.pos.now (whole_after _ _ c.flood.ensures.looks.asked b.whole)
    ∙ ap (λ t. liberty_points c.board.result.size t c.args.p) b.cells
    ∙ ap (λ n. liberty_points n c.args.pos.now.cells c.args.p) b.size

-- and the enemy stones next to it
pub returns-clause-enemies : goal.returns-clause-enemies
returns-clause-enemies c =
    let b = c.board.ensures in
    c.flood.ensures.enemies c.args.pos.now (whole_after _ _ c.flood.ensures.looks.asked b.whole)
    ∙ ap (λ t. enemy_points c.board.result.size t c.args.p) b.cells
    ∙ ap (λ n. enemy_points n c.args.pos.now.cells c.args.p) b.size
