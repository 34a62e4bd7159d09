-- The digits of a number that a question is hashed as.
use Rattle.std.specs.Prelude.{ℕ}

-- how many values the digit of a point may have in the number of a question
abbrev pub point_values : ℕ
point_values = 65536

-- how many values the digit of the plies may have in the number of a question
abbrev pub ply_values : ℕ
ply_values = 256
