-- The points next to the set at which nothing stands are the empty ones, and they come where the set has at most two.
use Rattle.std.proofs.Common.{◌||◌, ◌&&◌, ap, sym, arith, ◌∙◌}
use Rattle.std.proofs.lemmas.Bool.{lt-ltb}
use Rattle.std.specs.FinSet as set
use Rattle.trial_board.specs.Trials.{after}
use Rattle.read_rules.specs.Candidates.{is_empty_beside}
use Rattle.read_moves.proofs.SideLemmas.{empty_beside_are}
use Rattle.read_moves.proofs.stages.add_beside_few.Goals as goal

-- they came
pub returns-then-count-lt3-clause-over : goal.returns-then-count-lt3-clause-over
returns-then-count-lt3-clause-over g c = λ pos a p.
    let points = c.args.points.now in
    let few = lt-ltb (set.len points) 3 (omega (arith, c.count.ensures.value, c.if-count-lt3.true)) in
    let cells = (after pos c.args.board.now.moves).cells in
    c.add_sides_of.ensures.over pos a p
    ∙ ap (λ b. set.contains c.args.found.now p || b) (empty_beside_are pos.size cells (set.contains points) p
    ∙ sym (ap (λ b. b && is_empty_beside pos.size cells (set.contains points) p) few))
