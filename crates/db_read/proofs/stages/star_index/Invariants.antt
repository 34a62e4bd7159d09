use Rattle.std.proofs.Common.{◌≡◌, ◌+◌, drop}
use Rattle.std.specs.List.{position_or_len}
use Rattle.pat_types.specs.Diagrams.{is_star}
use Rattle.db_read.proofs.stages.star_index.Given as goal

-- no letter so far is a star: the first one from here on is the first of all
abbrev pub invariant-loop-i : goal.invariant-loop-i
invariant-loop-i l = position_or_len is_star (drop l.i l.letters) + l.i ≡ position_or_len is_star l.letters
