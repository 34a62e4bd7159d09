-- Matches that an automaton finds without helpers.
use Rattle.std.proofs.Common.{◌≡◌, ◌∙◌, List, [], Result, Ok, Err, IfOk, sym, ap, subst}
use Rattle.go_rules.specs.declared.Colour.{Colour}
use Rattle.go_rules.specs.Position.{BoardState}
use Rattle.pat_types.specs.declared.pattern.Pattern.{Pattern}
use Rattle.dfa_core.specs.Automata.{Row}
use Rattle.dfa_core.specs.States.{IsAutomatonOf}
use Rattle.helpers.specs.HelperStates.{SlotState, says_yes}
use Rattle.match_engine.specs.ReadingDepths.{ReadingDepths}
use Rattle.match_engine.specs.Readings.{ReadingsView, codes_at, codes_of, with_depths}
use Rattle.match_rules.specs.declared.found.Match.{Match}
use Rattle.match_rules.specs.Match.{matches_of}

-- with the automaton of the patterns, readings of these depths and no helper, they are the matches
pub found_by : {V E : Type 0} (told : V → List Match) (r : Result V E) (ps list : List Pattern) (rows : List Row)
    (old now : ReadingsView) (d : ReadingDepths) (slots : List SlotState) (pos : BoardState) (friend : Colour)
    → ps ≡ list → now ≡ with_depths old d → slots ≡ [] → IsAutomatonOf list rows
    → IfOk r (λ v. IsAutomatonOf ps rows → told v ≡ matches_of (codes_of now) (says_yes slots) ps pos friend)
    → IfOk r (λ v. told v ≡ matches_of (codes_at d) (says_yes []) list pos friend)
found_by told (Ok v) ps list rows old now d slots pos friend same set none automaton h =
    h (subst (λ k. IsAutomatonOf k rows) (sym same) automaton)
    ∙ ap (λ k. matches_of (codes_of now) (says_yes slots) k pos friend) same
    ∙ ap (λ k. matches_of (codes_of k) (says_yes slots) list pos friend) set
    ∙ ap (λ k. matches_of (codes_at d) (says_yes k) list pos friend) none
found_by told (Err e) ps list rows old now d slots pos friend same set none automaton h = tt
