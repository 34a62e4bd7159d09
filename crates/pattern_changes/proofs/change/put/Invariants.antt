use Rattle.std.proofs.Common.{◌≡◌, ◌++◌, map, take}
use Rattle.pattern_changes.specs.Changes.{change_of}
use Rattle.pattern_changes.proofs.change.put.Given as goal

-- the matches so far were put behind the changes
abbrev pub invariant-matches : goal.invariant-matches
invariant-matches l =
    l.changes.items ≡ l.fn.changes.items ++ map (change_of l.moves l.friend l.way) (take l.z-index l.found)
