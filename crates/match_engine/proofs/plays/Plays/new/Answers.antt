use Rattle.match_engine.proofs.RememberedPlays.{Remembers-nothing}
use Rattle.match_engine.proofs.plays.Plays.new.Goals as goal

-- both sets are empty
pub returns : goal.returns
returns c = λ code board colour. Remembers-nothing code board colour c.new.result c.new-2.result c.new.ensures
    c.new-2.ensures
