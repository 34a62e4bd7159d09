-- The recursion goes down the expression.
use Rattle.cons_eval.proofs.Parts.{nodes}
use Rattle.cons_eval.proofs.value.+eval.Given as goal

-- how many numbers, calls, signs and operators the expression has
abbrev pub decreases-eval : goal.decreases-eval
decreases-eval g l = nodes l.expr.now
