-- The neighbours at which nothing stands are the empty ones.
use Rattle.std.proofs.Common.{ap, ◌||◌, ◌∙◌}
use Rattle.std.specs.FinSet as set
use Rattle.go_base.specs.Facts.{agrees_before}
use Rattle.trial_board.specs.Trials.{after}
use Rattle.trial_board.proofs.WalkLemmas.{on_agreed}
use Rattle.read_moves.proofs.SideLemmas.{empty_sides_are}
use Rattle.read_moves.proofs.moves.add_sides.Goals as goal

-- what came are the empty neighbours
pub returns-clause-over : goal.returns-clause-over
returns-clause-over g c = λ pos a p.
    let first = agrees_before c.add_sides.ensures.stays.grows a in
    c.add_sides.ensures.over pos a p
    ∙ ap (λ b. set.contains c.args.found.now p || b) (empty_sides_are pos.size (after pos c.args.board.now.moves).cells
    c.args.l p (on_agreed _ _ (g.met.L.Look.sized c.args.board.now.look) first c.requires))
