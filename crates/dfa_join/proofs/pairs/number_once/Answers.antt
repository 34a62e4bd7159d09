use Rattle.dfa_join.proofs.PairLists.{NumbersPair-known}
use Rattle.dfa_join.proofs.pairs.number_once.Goals as goal

-- a pair that is one of these was known
pub returns-in-Some-clause-ok : goal.returns-in-Some-clause-ok
returns-in-Some-clause-ok c =
    NumbersPair-known c.args.limit c.args.pairs.now c.args.pair c.in-Some.number
    (c.in-Some.ensures c.args.pairs.now c.requires.met)
