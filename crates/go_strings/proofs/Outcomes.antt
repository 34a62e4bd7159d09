-- What is told of an empty point.
use Rattle.std.proofs.Common.{◌≡◌, true, List, ap, arith}
use Rattle.std.proofs.lemmas.Bool.{both_ways}
use Rattle.std.specs.Ordering.{nat_cmp}
use Rattle.std.specs.FinSet as sets
use Rattle.go_rules.specs.declared.Cell.{Cell}
use Rattle.go_rules.specs.declared.Cell.TheVariants.{Empty}
use Rattle.go_rules.specs.Strings.{cell_at, is_stone, string_at, liberty_points}
use Rattle.go_strings.proofs.GoSets.{same_sets, string_gives, liberty_gives}

-- nothing is in the empty set
in_none : (q : _) → sets.contains (sets.empty {R = nat_cmp}) q ≡ true → ⊥
in_none q t = both_ways (sets.contains (sets.empty {R = nat_cmp}) q) (sets.contains-empty nat_cmp q) t

-- an empty point has no string
pub string-none : (s : _) (cells : List Cell) (p : _) → cell_at cells p ≡ Empty → sets.empty ≡ string_at s cells p
string-none s cells p free = same_sets _ _ (λ q t. absurd (in_none q t))
    (λ q t. absurd (both_ways (is_stone (cell_at cells p)) (ap is_stone free) (string_gives s cells p q t).stone))

-- and no liberties
pub liberties-none : (s : _) (cells : List Cell) (p : _) → cell_at cells p ≡ Empty
    → sets.empty ≡ liberty_points s cells p
liberties-none s cells p free = grind (arith, same_sets, in_none, both_ways, liberty_gives)
