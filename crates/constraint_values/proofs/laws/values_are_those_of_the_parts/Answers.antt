use Rattle.constraint_values.proofs.ValuedParts.{are_values}
use Rattle.constraint_values.proofs.laws.values_are_those_of_the_parts.Goals as goal

-- by the parts of the expression
pub returns : goal.returns
returns c m e = are_values m e
