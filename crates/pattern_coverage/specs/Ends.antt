-- Where a try of a pattern ends: the number of the first part of the definition of a match that fails.
use Rattle.std.specs.Prelude.{◌≡◌, ℕ, ◌+◌, ◌-◌, ◌*◌, ◌<◌, ◌≤◌, ◌^◌, ◌==◌, ◌&&◌, not, Bool, List, map, length, Option}
use Rattle.std.specs.Prelude.{Some}
use Rattle.std.specs.Prelude.{None, count_by, min, slice_get, slice_index}
use Rattle.std.specs.List.{flat_map, range_with_len}
use Rattle.go_rules.specs.declared.Cell.TheVariants.{Empty}
use Rattle.go_rules.specs.declared.Colour.{Colour}
use Rattle.go_rules.specs.Position.{BoardState}
use Rattle.go_rules.specs.Play.{is_legal}
use Rattle.go_rules.specs.Strings.{cell_at, same_cell}
use Rattle.pat_types.specs.declared.pattern.Pattern.{Pattern}
use Rattle.pat_types.specs.Marks.{count_of}
use Rattle.read_rules.specs.declared.depths.Depths.{Depths}
use Rattle.match_rules.specs.declared.found.Match.{Match}
use Rattle.match_rules.specs.Conditions.{Advice}
use Rattle.match_reasons.specs.declared.reason.Reason.{Reason}
use Rattle.match_reasons.specs.declared.reason.Reason.TheVariants.{Misfit, Illegal, Unsafe, EnemyIllegal, EnemyUnsafe}
use Rattle.match_reasons.specs.declared.reason.Reason.TheVariants.{Constraint, Helper}
use Rattle.match_reasons.specs.Reasons.{first_reason}
use Rattle.pattern_coverage.specs.declared.counts.PartCounts.{PartCounts}
use Rattle.pattern_coverage.specs.declared.ends.End.{End}

-- the number of the part that a reason is about: 0 the diagram, 1 the move, 2 the stone, 3 class n, 4 the constraint, 5
-- the helpers
abbrev pub part_named : Reason → ℕ
part_named (Misfit z) = 0
part_named (Illegal why) = 1
part_named (Unsafe a) = 2
part_named (EnemyIllegal why) = 3
part_named (EnemyUnsafe a) = 3
part_named Constraint = 4
part_named (Helper field) = 5

-- the number of the part at which a try with this reason ends; 6 for a match, which has no reason
abbrev pub part_of : Option Reason → ℕ
part_of None = 6
part_of (Some r) = part_named r

-- the tries under the first n transformations at these points
abbrev pub tries_among : ℕ → List ℕ → List (ℕ × ℕ)
tries_among n points = flat_map (λ t. map (λ m. (t, m)) points) (range_with_len 0 n)

-- the tries of a pattern on a board of size s: each transformation of its mark, at each point
abbrev pub tries_of : Pattern → ℕ → List (ℕ × ℕ)
tries_of p s = tries_among (count_of p.mark) (range_with_len 0 (s * s))

-- the part at which the try of the pattern at m under t ends for the friend
unfoldable pub part_at : Depths → Advice → Pattern → BoardState → Colour → ℕ → ℕ → ℕ
part_at d advice p board friend t m = part_of (first_reason d advice p board friend t m)

-- the number of tries of the pattern on the board that end at this part for the friend
unfoldable pub ends_at : Depths → Advice → Pattern → BoardState → Colour → ℕ → ℕ
ends_at d advice p board friend part =
    count_by (λ try. part_at d advice p board friend try.0 try.1 == part) (tries_of p board.size)

-- the counts are right for the pattern: for each part, and for the matches, the number of its tries that end there
abbrev pub AreEnds : Depths → Advice → Pattern → BoardState → Colour → PartCounts → Type 0
AreEnds d advice p board friend c =
    (part : ℕ) → part < 7 → slice_index c.counts part ≡ ends_at d advice p board friend part

-- the list has the counts of each pattern, in the order of the patterns
pub record AreAllEnds (d : Depths) (advice : Advice) (patterns : List Pattern) (board : BoardState) (friend : Colour)
    (counts : List PartCounts) : Type 0 where
  pub same_length : length counts ≡ length patterns
  pub each : (n : ℕ) (p : Pattern) → slice_get patterns n ≡ Some p
      → (c : PartCounts) × (slice_get counts n ≡ Some c) × AreEnds d advice p board friend c

-- m is empty, and the friend may not play there
abbrev pub is_blocked : BoardState → Colour → ℕ → Bool
is_blocked board friend m = same_cell (cell_at board.cells m) Empty && not (is_legal board friend m)

-- the part at which the try at the place of the match z ends; 0 if there is no pattern
abbrev pub part_of_match : Depths → Advice → Option Pattern → BoardState → Colour → Match → ℕ
part_of_match d advice None board friend z = 0
part_of_match d advice (Some p) board friend z = part_at d advice p board friend z.transform z.at

-- the end of the try at the place of the match z, of the pattern with its number in the list
abbrev pub end_at : Depths → Advice → List Pattern → BoardState → Colour → Match → End
end_at d advice patterns board friend z = record {
  pattern = z.pattern;
  part = part_of_match d advice (slice_get patterns z.pattern) board friend z;
}

-- the list has the right ends of p, the pattern with this number: for each part after the move, as many as tries of p
-- end there
abbrev pub AreLaterEnds : Depths → Advice → Pattern → BoardState → Colour → ℕ → List End → Type 0
AreLaterEnds d advice p board friend place ends = (part : ℕ) → 2 ≤ part → part < 7
    → count_by (λ end. end.pattern == place && end.part == part) ends ≡ ends_at d advice p board friend part

-- the counts of the parts after the move are the numbers of tries of the pattern that end there, capped at the largest
-- u64
abbrev pub AreLaterCounts : Depths → Advice → Pattern → BoardState → Colour → PartCounts → Type 0
AreLaterCounts d advice p board friend c = (part : ℕ) → 2 ≤ part → part < 7
    → slice_index c.counts part ≡ min (ends_at d advice p board friend part) (2 ^ 64 - 1)
