-- The cells before a play, from the cells after it and the stones that it took; and the ban that a play leaves.
use Rattle.std.specs.Prelude.{ℕ, ◌*◌, ◌==◌, List, map, Option, Result, Ok, Err, if◌then◌else◌}
use Rattle.std.specs.List.{range_with_len}
use Rattle.std.specs.Ordering.{nat_cmp}
use Rattle.std.specs.FinSet as set
use Rattle.go_rules.specs.declared.Cell.{Cell}
use Rattle.go_rules.specs.declared.Cell.TheVariants.{Empty}
use Rattle.go_rules.specs.declared.Colour.{Colour}
use Rattle.go_rules.specs.declared.Illegal.{Illegal}
use Rattle.go_rules.specs.Strings.{cell_at}
use Rattle.go_rules.specs.Position.{other, stone_of}
use Rattle.go_base.specs.declared.capture.Played.{Played}

-- the cells before c played at p and took these stones: the taken stones, which are the other colour's, stand again,
-- and p is empty
unfoldable pub before_play : ℕ → Colour → ℕ → set.FinSet nat_cmp → List Cell → List Cell
before_play s c p taken cells =
    map (λ q. if q == p then Empty else if set.contains taken q then stone_of (other c) else cell_at cells q)
    (range_with_len 0 (s * s))

-- the cells before c tried to play at p, from the cells after: a play that was done is taken back, and a refused play
-- changed nothing
abbrev pub cells_before : ℕ → Colour → ℕ → Result Played Illegal → List Cell → List Cell
cells_before s c p (Ok played) cells = before_play s c p played.taken cells
cells_before s c p (Err e) cells = cells

-- the ban that the play left, or the reason why it was refused
abbrev pub ban_or_refusal : Result Played Illegal → Result (Option (ℕ × Colour)) Illegal
ban_or_refusal (Ok played) = Ok played.ban
ban_or_refusal (Err e) = Err e
