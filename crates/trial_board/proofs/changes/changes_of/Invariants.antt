use Rattle.std.proofs.Common.{◌≡◌}
use Rattle.trial_board.specs.Changed.{is_touched, TellsPut}
use Rattle.trial_board.proofs.changes.changes_of.Given as goal

-- the points that the moves before this one touched are told
abbrev pub invariant-loop-k : goal.invariant-loop-k
invariant-loop-k l = record {
  ban : l.changes.ban ≡ l.fn.ban;
  tells : TellsPut l.known (is_touched l.row l.kept l.k) l.changes;
}
