-- The rows of functions that the code keeps.
use Rattle.std.specs.Prelude.{ℕ, List}
use Rattle.std.specs.Borrow.{Bor}
use Rattle.pat_types.specs.declared.expr.Function.{Function}
use Rattle.cons_parse.specs.FunctionNames.{FunctionRow}

-- a row of the code, as a row of the definition
abbrev pub row_seen : Bor (List ℕ) × Function → FunctionRow
row_seen r = record { name = r.0.now; function = r.1 }
