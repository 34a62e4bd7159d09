-- The order of matches as one number.
use Rattle.std.specs.Prelude.{ℕ, ◌+◌, ◌*◌, ◌/◌, ◌%◌}
use Rattle.match_rules.specs.declared.found.Match.{Match}

-- the rank of a match among all matches of patterns: by the pattern's number, the transformation, and the point
abbrev pub rank_of : Match → ℕ
rank_of z = (z.pattern * 8 + z.transform) * 65536 + z.at

-- the match that has this rank
abbrev pub match_with : ℕ → Match
match_with rank = record {
  pattern = rank / 65536 / 8 % 65536;
  transform = rank / 65536 % 8;
  at = rank % 65536;
}
