-- The recursion goes down the expression.
use Rattle.cons_eval.proofs.Parts.{nodes}
use Rattle.constraint_values.proofs.value.+put_none.Given as goal

-- how many numbers, calls, signs and operators the expression has
abbrev pub decreases-put_none : goal.decreases-put_none
decreases-put_none l = nodes l.expr.now
