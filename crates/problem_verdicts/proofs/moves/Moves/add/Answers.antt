-- A point is added, or the pass.
use Rattle.std.proofs.Common.{ℕ, Option, ◌||◌, ap, sym, ◌∙◌}
use Rattle.std.specs.Ordering.{nat_cmp}
use Rattle.std.specs.FinSet as set
use Rattle.problem_verdicts.specs.MoveSets.{is_some_of}
use Rattle.problem_verdicts.proofs.MoveSetLemmas.{with_point}
use Rattle.problem_verdicts.proofs.moves.Moves.add.Goals as goal

-- the point is one more
pub returns-in-Some-clause-points : goal.returns-in-Some-clause-points
returns-in-Some-clause-points c p =
    ap (λ (s : set.FinSet nat_cmp). set.contains s p) c.add.ensures
    ∙ (with_point c.args.self.now.points c.in-Some.p p
    ∙ ap (λ (o : Option ℕ). set.contains c.args.self.now.points p || is_some_of o p) (sym c.in-Some.is))
