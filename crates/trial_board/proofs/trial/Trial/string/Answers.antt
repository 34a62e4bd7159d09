use Rattle.trial_board.proofs.StandingLemmas.{IsStanding-looks}
use Rattle.trial_board.proofs.trial.Trial.string.Goals as goal

-- looks keep the trial moves
pub invariant_of-self : goal.invariant_of-self
invariant_of-self g c =
    IsStanding-looks c.self.invariant c.flood.ensures.looks.asked.grows c.flood.ensures.looks.same
