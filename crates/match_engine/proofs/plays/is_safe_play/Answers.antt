use Rattle.std.proofs.Common.{◌∙◌, sym, arith}
use Rattle.match_engine.specs.Readings.{codes_of}
use Rattle.match_engine.proofs.RememberedPlays.{safe_after, safe_never}
use Rattle.match_engine.proofs.plays.is_safe_play.Goals as goal

-- by the code of an attack on the stone
pub returns-in-Ok-clause-value : goal.returns-in-Ok-clause-value
returns-in-Ok-clause-value c =
    safe_after (codes_of c.args.readings.now) c.args.position.now c.args.colour c.args.at c.attack_code.result
    c.in-Ok.next (sym c.play.ensures.value ∙ c.in-Ok.is) c.attack_code.ensures.value

-- the play is illegal
pub returns-in-Err-clause-value : goal.returns-in-Err-clause-value
returns-in-Err-clause-value c = grind (arith, safe_never)
