use Rattle.dfa_join.proofs.PatternJoins.{one_from}
use Rattle.dfa_join.proofs.compiler.alone.Goals as goal

-- what it accepts, its rows and their depths are those of the list of the one pattern
pub returns : goal.returns
returns c = one_from c.args.number c.args.p.now c.in_ok-one.one c.in_ok-one.ensures.accepts c.in_ok-one.ensures.rows
    c.in_ok-one.ensures.depths
