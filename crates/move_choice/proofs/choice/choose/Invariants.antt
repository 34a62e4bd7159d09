use Rattle.std.proofs.Common.{◌+◌, ◌<◌, take, length}
use Rattle.move_choice.specs.Choice.{worth_at}
use Rattle.move_choice.proofs.Choices.{IsFirst}
use Rattle.move_choice.proofs.choice.choose.Given as goal

-- the choice among the matches so far, which is one of a pattern
abbrev pub invariant-loop-z : goal.invariant-loop-z
invariant-loop-z l = record {
  named : l.choice.pattern < length l.patterns;
  is : IsFirst (worth_at l.patterns) (take (l.z-index + 1) l.found) l.choice;
}
