-- The ranges of the depths of a reading.
use Rattle.std.specs.Prelude.{ℕ, ◌≤◌}

-- the least number of plies that a reading may have
abbrev pub least_plies : ℕ
least_plies = 1

-- the greatest number of plies that a reading may have
abbrev pub most_plies : ℕ
most_plies = 200

-- the greatest number of wide plies that a reading may have
abbrev pub most_wide : ℕ
most_wide = 12

-- a reading may have this many plies, and this many of them wide
abbrev pub AreDepths : ℕ → ℕ → Type 0
AreDepths plies wide = (least_plies ≤ plies) × (plies ≤ most_plies) × (wide ≤ most_wide)
