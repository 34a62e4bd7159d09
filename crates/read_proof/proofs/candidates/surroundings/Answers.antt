use Rattle.std.proofs.Common.{ap, ◌∙◌}
use Rattle.go_rules.specs.Strings.{liberty_points}
use Rattle.go_base.specs.Surroundings.{is_last_liberty_of_enemy}
use Rattle.go_base.proofs.HeldBoards.{whole_after}
use Rattle.read_proof.proofs.candidates.surroundings.Goals as goal

-- a search over the position's board finds the liberties of its string
pub returns-clause-liberties : goal.returns-clause-liberties
returns-clause-liberties c =
    let b = c.board.ensures in
    c.surroundings_of.ensures.liberties c.args.pos.now (whole_after _ _ c.surroundings_of.ensures.looks.asked b.whole)
    ∙ ap (λ t. liberty_points c.board.result.size t c.args.target) b.cells
    ∙ ap (λ n. liberty_points n c.args.pos.now.cells c.args.target) b.size

-- and the last liberties of the enemy strings next to it
pub returns-clause-last_liberties : goal.returns-clause-last_liberties
returns-clause-last_liberties c = λ p.
    let b = c.board.ensures in
    c.surroundings_of.ensures.last_liberties c.args.pos.now
    (whole_after _ _ c.surroundings_of.ensures.looks.asked b.whole) p
    ∙ ap (λ t. is_last_liberty_of_enemy c.board.result.size t c.args.target p) b.cells
    ∙ ap (λ n. is_last_liberty_of_enemy n c.args.pos.now.cells c.args.target p) b.size
