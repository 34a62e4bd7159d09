-- What the automaton finds on the position is what the matcher finds on the session's board.
use Rattle.std.proofs.Common.{refl, sym, ap, subst, ◌∙◌, arith}
use Rattle.go_rules.specs.Position.{BoardState}
use Rattle.session_core.specs.MatcherView.{NumbersPatterns}
use Rattle.session_core.proofs.ChosenMoves.{list-among, among-same}
use Rattle.session_core.proofs.ListedMatches.{of_session}
use Rattle.session_core.proofs.StoneAnswers.{depths-kept}
use Rattle.session_core.proofs.engine.Engine.find_matches.Goals as goal

-- each number that the automaton accepts is that of one of the patterns
pub matches-requires : goal.matches-requires
matches-requires g c = record {
  numbers = subst (λ ps. NumbersPatterns c.scanner.result.now ps) (sym c.patterns.ensures) c.scanner.ensures.numbers;
}

-- the matches of the patterns were found
pub returns-clause-found : goal.returns-clause-found
returns-clause-found g c = grind (arith, of_session)

-- they are among the patterns and on the board
pub returns-clause-among : goal.returns-clause-among
returns-clause-among g c =
    let size = ap (λ (b : BoardState). b.size) c.position-position.ensures.value ∙ c.position-position.ensures.size in
    among-same _ _ _ _ _ _ (sym c.patterns.ensures) (sym size) refl
    (list-among _ _ _ _ c.position-position.result c.args.friend c.in_ok-found.found.items
    c.in_ok-found.ensures.automaton)

-- the helpers were asked about them
pub returns-clause-asked : goal.returns-clause-asked
returns-clause-asked g c = grind (arith, depths-kept, of_session)
