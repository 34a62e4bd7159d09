use Rattle.std.proofs.Common.{◌∙◌, sym}
use Rattle.match_engine.specs.Readings.{codes_of}
use Rattle.match_engine.proofs.RememberedPlays.{Remembers-more}
use Rattle.match_engine.proofs.plays.Plays.is_safe.Goals as goal

-- one play more
pub returns-clause-remembers : goal.returns-clause-remembers
returns-clause-remembers c =
    Remembers-more (codes_of c.args.readings.now) c.args.position.now c.args.colour c.args.self.now c.note.new.self
    c.args.at c.is_safe_play-safe.result c.requires.remembers
    (sym c.has.ensures ∙ c.if-has.false) c.is_safe_play-safe.ensures.value c.note.ensures.asked c.note.ensures.safe
