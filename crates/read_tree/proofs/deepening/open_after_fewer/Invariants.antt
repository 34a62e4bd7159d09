use Rattle.std.proofs.Common.{◌≡◌, ◌-◌, suc, true}
use Rattle.trial_board.specs.Trials.{KeepsTrial}
use Rattle.read_rules.specs.Candidates.{is_candidate}
use Rattle.read_tree.specs.Allowances.{has_some}
use Rattle.read_tree.specs.Deepening.{IsLeftOpen}
use Rattle.read_tree.specs.Table.{IsTrueTableAt}
use Rattle.read_tree.specs.Walk.{OnEachAgreeing, LooksNearWhere}
use Rattle.read_tree.proofs.deepening.open_after_fewer.Given as goal

-- what is left is open after the plies before, on any position that agrees
abbrev pub invariant-depths : goal.invariant-depths
invariant-depths g l = record {
  stays : KeepsTrial g.L.Look.shows g.L.Look.seen l.fn.board l.board;
  some : has_some l.left ≡ true;
  table : IsTrueTableAt (g.L.Look.seen l.board.look) l.turn l.memory.table.now;
  near : LooksNearWhere g.L.Look.seen l.fn.board l.board (suc l.plies) l.turn l.fn.asked
      (λ here. is_candidate l.turn here l.p ≡ true);
  left : OnEachAgreeing g.L.Look.seen l.fn.board l.board (λ here. IsLeftOpen l.plies l.turn here l.p l.fn.asked l.left);
}

-- how many plies the next reading lacks
abbrev pub decreases-depths : goal.decreases-depths
decreases-depths g l = l.plies - l.fewer
