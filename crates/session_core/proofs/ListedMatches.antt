-- The matches that a matcher finds on a session's board.
use Rattle.std.proofs.Common.{◌≡◌, ℕ, List, arith}
use Rattle.go_rules.specs.declared.Colour.{Colour}
use Rattle.go_rules.specs.Position.{BoardState}
use Rattle.pat_types.specs.declared.pattern.Pattern.{Pattern}
use Rattle.dfa_core.specs.Automata.{Row}
use Rattle.match_rules.specs.declared.found.Match.{Match}
use Rattle.match_engine.specs.ReadingDepths.{ReadingDepths}
use Rattle.machine_rules.specs.Machine.{Machine, position_of}
use Rattle.machine_rules.specs.Matcher.{Matcher}
use Rattle.machine_rules.specs.MatchTexts.{matches_text}
use Rattle.machine_rules.specs.MatchingCommands.{matches_found, after_asking, matches_listed}
use Rattle.session_core.specs.CommandAnswers.{Succeeds}
use Rattle.session_core.specs.EngineView.{EngineView, board_of}
use Rattle.session_core.specs.MatcherView.{MatcherView}

-- what is so of these patterns, rows, board and depths is so of a matcher and a session whose they are
pub of_session : (matcher : MatcherView) (session : EngineView) (patterns : List Pattern) (rows : List Row)
    (board : BoardState) (depths : ReadingDepths) → patterns ≡ matcher.patterns → rows ≡ matcher.automaton
    → board ≡ board_of session → depths ≡ session.depths
    → (family : List Pattern → List Row → BoardState → ReadingDepths → Type 0) → family patterns rows board depths
    → family matcher.patterns matcher.automaton (board_of session) session.depths
of_session matcher session patterns rows board depths same_patterns same_rows same_board same_depths family is =
    grind arith

-- the matches that were found were listed, after the helpers were asked
pub listed-told : (matcher : Matcher) (old new : Machine) (friend : Colour) (patterns : List Pattern) (size : ℕ)
    (found : List Match) (text : List ℕ) → patterns ≡ matcher.patterns → size ≡ (position_of old).size
    → found ≡ matches_found matcher old friend → new ≡ after_asking matcher old friend
    → text ≡ matches_text patterns size found → Succeeds (matches_listed matcher old friend) text new
listed-told matcher old new friend patterns size found text same_patterns same_size same_found asked is = grind arith
