use Rattle.std.proofs.Common.{◌≡◌, drop}
use Rattle.match_rules.specs.Conditions.{label_with}
use Rattle.match_reasons.proofs.constraint.label_with.Given as goal

-- none of the labels so far has the letter
abbrev pub invariant-labels : goal.invariant-labels
invariant-labels l = label_with l.letter (drop l.label-index l.labels) ≡ label_with l.letter l.labels
