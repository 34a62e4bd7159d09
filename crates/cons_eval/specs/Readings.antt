-- The codes of readings, as an argument of the definitions that use them: these rest on the rules of Go alone.
use Rattle.std.specs.Prelude.{ℕ, if◌then◌else◌}
use Rattle.go_rules.specs.Position.{BoardState}
use Rattle.go_rules.specs.Strings.{cell_at, is_stone}
use Rattle.read_rules.specs.declared.question.Kind.{Kind}

-- the code that a reading of this kind gives, on a position, for the string at a point
abbrev pub Codes : Type 0
Codes = Kind → BoardState → ℕ → ℕ

-- the code of the reading at p; 0 if p is empty
abbrev pub code_at : Codes → Kind → BoardState → ℕ → ℕ
code_at code kind pos p = if is_stone (cell_at pos.cells p) then code kind pos p else 0
