-- Matches by an automaton name the patterns and the points of the board.
use Rattle.std.proofs.Common.{List}
use Rattle.std.proofs.lemmas.Option.{slice_get_within}
use Rattle.go_rules.specs.declared.Colour.{Colour}
use Rattle.go_rules.specs.Position.{BoardState}
use Rattle.pat_types.specs.declared.pattern.Pattern.{Pattern}
use Rattle.dfa_core.specs.Automata.{Row}
use Rattle.match_engine.specs.AutomatonMatches.{automaton_matches, is_automaton_match}
use Rattle.match_rules.proofs.Orders.{by-has}
use Rattle.match_rules.specs.Conditions.{Advice}
use Rattle.cons_eval.specs.Readings.{Codes}
use Rattle.machine_rules.specs.MatchTexts.{AreAmong}

-- the matches by an automaton are among the patterns and on the board
pub AreAmong-found : (code : Codes) (advice : Advice) (rows : List Row) (patterns : List Pattern) (board : BoardState)
    (friend : Colour)
    → AreAmong patterns board.size (automaton_matches code advice rows patterns board friend)
unfolding automaton_matches
AreAmong-found code advice rows patterns board friend = λ z there.
    let by = by-has (is_automaton_match code advice rows board friend) patterns board.size z there in
    (slice_get_within patterns z.pattern by.pattern by.number, by.at)
