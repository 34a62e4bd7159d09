-- The recursion goes down the expression.
use Rattle.cons_eval.proofs.Parts.{nodes}
use Rattle.constraint_values.proofs.value.+put_values.Given as goal

-- how many numbers, calls, signs and operators the expression has
abbrev pub decreases-put_values : goal.decreases-put_values
decreases-put_values g l = nodes l.expr.now
