-- How many points are left.
use Rattle.std.proofs.Common.{ℕ, ap, ◌∙◌, ◌==◌}
use Rattle.std.specs.Ordering.{nat_cmp}
use Rattle.std.specs.FinSet as set
use Rattle.problem_verdicts.proofs.MoveSetLemmas.{subset_by_count}
use Rattle.problem_verdicts.proofs.moves.is_subset.Goals as goal

-- none is left exactly if all are in the set
pub returns : goal.returns
returns c =
    ap (λ (n : ℕ). n == 0) c.count.ensures.value
    ∙ (ap (λ (s : set.FinSet nat_cmp). set.len s == 0) c.difference.ensures
    ∙ subset_by_count c.args.few.now c.args.many.now)
