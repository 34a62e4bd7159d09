-- The same answer, by the functions that compute the expression and the fault.
use Rattle.std.proofs.Common.{arith}
use Rattle.cons_parse.proofs.ReadingLemmas.{spells_tree, spells_fault, refuses_fault}
use Rattle.cons_parse.proofs.EvaluableConstraints.{kept}
use Rattle.cons_parse.proofs.parsing.parse.Goals as goal

-- the expression is the computed one
pub returns-clause-tree : goal.returns-clause-tree
returns-clause-tree c = grind (arith, spells_tree)

-- no fault is computed
pub returns-clause-faultless : goal.returns-clause-faultless
returns-clause-faultless c = grind (arith, spells_fault)

-- the error is the computed fault
pub returns-clause-fault : goal.returns-clause-fault
returns-clause-fault c = grind (arith, refuses_fault)

-- a pattern may keep the expression
pub returns-clause-kept : goal.returns-clause-kept
returns-clause-kept c = grind (arith, kept)
