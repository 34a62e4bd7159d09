use Rattle.std.proofs.Common.{◌≡◌, ℕ, Bool, ◌||◌}
use Rattle.std.specs.FinSet as set
use Rattle.trial_board.specs.Captured.{points_in}
use Rattle.trial_board.specs.Changed.{is_played_at, TellsPut}
use Rattle.trial_board.proofs.changes.Changes.note_move.Given as goal

-- the point of the move and those of the first stones that it took are told
abbrev pub invariant-loop-i : goal.invariant-loop-i
invariant-loop-i l = record {
  ban : l.self.ban ≡ l.fn.self.ban;
  tells : (touched : ℕ → Bool) → TellsPut l.known touched l.fn.self
      → TellsPut l.known
      (λ q. set.contains (points_in l.row l.first l.i) q || (is_played_at l.move_kept.made q || touched q)) l.self;
}
