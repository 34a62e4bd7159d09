use Rattle.std.proofs.Common.{arith}
use Rattle.match_engine.proofs.Patterns.{same_by_automaton}
use Rattle.match_engine.proofs.laws.automaton_of_the_patterns_finds_their_matches.Goals as goal

-- its hits are where the patterns fit
pub returns : goal.returns
returns c = grind (arith, same_by_automaton)
