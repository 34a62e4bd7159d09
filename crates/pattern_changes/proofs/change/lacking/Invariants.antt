use Rattle.std.proofs.Common.{◌≡◌, not, filter, take}
use Rattle.std.specs.List.{list_any}
use Rattle.pattern_changes.specs.Changes.{is_same_match}
use Rattle.pattern_changes.proofs.change.lacking.Given as goal

-- of the matches so far those that the others do not have
abbrev pub invariant-matches : goal.invariant-matches
invariant-matches l =
    l.lacked.items ≡ filter (λ z. not (list_any (is_same_match l.patterns l.others z) l.theirs))
    (take l.z-index l.found)
