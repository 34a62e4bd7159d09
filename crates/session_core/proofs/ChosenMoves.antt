-- The match that is chosen, and what is told of it.
use Rattle.std.proofs.Common.{◌≡◌, ℕ, List, Some, Contains, sym, subst}
use Rattle.go_rules.specs.declared.Colour.{Colour}
use Rattle.go_rules.specs.Position.{BoardState}
use Rattle.dfa_core.specs.Automata.{Row}
use Rattle.cons_eval.specs.Readings.{Codes}
use Rattle.match_rules.specs.Conditions.{Advice}
use Rattle.match_engine.specs.AutomatonMatches.{automaton_matches}
use Rattle.machine_rules.specs.MatchTexts.{AreAmong}
use Rattle.session_core.proofs.AmongMatches.{AreAmong-found}
use Rattle.match_rules.specs.declared.found.Match.{Match}
use Rattle.pat_types.specs.declared.pattern.Pattern.{Pattern}
use Rattle.move_choice.specs.Choice.{worth_at, choice_of}
use Rattle.move_choice.proofs.Choices.{choice-words}

-- the choice stands in the list
pub choice-there : (patterns : List Pattern) (zs : List Match) (z : Match) → choice_of patterns zs ≡ Some z
    → Contains zs z
unfolding choice_of
choice-there patterns zs z e = ((choice-words (worth_at patterns) zs z).0 e).there

-- a list of the matches by an automaton is among the patterns and on the board
pub list-among : (code : Codes) (advice : Advice) (rows : List Row) (patterns : List Pattern) (board : BoardState)
    (friend : Colour) (zs : List Match) → zs ≡ automaton_matches code advice rows patterns board friend
    → AreAmong patterns board.size zs
list-among code advice rows patterns board friend zs is =
    subst (λ l. AreAmong patterns board.size l) (sym is) (AreAmong-found code advice rows patterns board friend)

-- so is a list that equals it, of equal patterns and of a board of equal size
pub among-same : (patterns patterns' : List Pattern) (s s' : ℕ) (zs zs' : List Match) → patterns' ≡ patterns → s' ≡ s
    → zs' ≡ zs → AreAmong patterns s zs → AreAmong patterns' s' zs'
among-same patterns patterns' s s' zs zs' same_patterns same_size same_list among =
    subst (λ ps. AreAmong ps s' zs') (sym same_patterns)
    (subst (λ n. AreAmong patterns n zs') (sym same_size)
    (subst (λ l. AreAmong patterns s l) (sym same_list) among))
