use Rattle.std.proofs.Common.{refl, arith}
use Rattle.db_rules.specs.Labels.{labels_under}
use Rattle.db_read.proofs.draft.lines.empty_marks.Goals as goal

-- a constraint diagram with nothing in it is that of no line
pub returns : goal.returns
unfolding labels_under
returns c = record { lines = refl; within = omega arith; rows = refl; labels = c.new.ensures }
