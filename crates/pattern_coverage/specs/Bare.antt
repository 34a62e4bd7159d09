-- Bare patterns: they have only the diagram of a pattern, and ask for nothing else but a legal move.
use Rattle.std.specs.Prelude.{◌≡◌, ℕ, ◌<◌, List, [], ◌∷◌, length, Some, None, Contains, slice_get}
use Rattle.pat_types.specs.declared.pattern.Pattern.{Pattern}
use Rattle.dfa_core.specs.Automata.{accepted}
use Rattle.dfa_core.specs.States.{IsAutomatonOf}
use Rattle.dfa_core.specs.Words.{Word}
use Rattle.match_rules.specs.Conditions.{unsafe_class}
use Rattle.pattern_coverage.specs.declared.bare.Diagrams.{Diagrams}

-- b has the diagram and the mark of p, class s, and neither helpers nor a constraint
pub record IsBare (p b : Pattern) : Type 0 where
  pub rows : b.rows ≡ p.rows
  pub cols : b.cols ≡ p.cols
  pub letters : b.letters ≡ p.letters
  pub top : b.top ≡ p.top
  pub bottom : b.bottom ≡ p.bottom
  pub left : b.left ≡ p.left
  pub right : b.right ≡ p.right
  pub star : b.star ≡ p.star
  pub mark : b.mark ≡ p.mark
  pub classes : b.classes ≡ unsafe_class ∷ []
  pub items : b.items ≡ []
  pub constraint : b.constraint ≡ None

-- the second list has the bare pattern of each pattern of the first list, in the same order
pub record AreBare (patterns bare : List Pattern) : Type 0 where
  pub same_length : length bare ≡ length patterns
  pub each : (n : ℕ) (p : Pattern) → slice_get patterns n ≡ Some p
      → (b : Pattern) × (slice_get bare n ≡ Some b) × IsBare p b

-- d has the bare patterns of the list, and their automaton, which accepts only their numbers
pub record AreDiagramsOf (patterns : List Pattern) (d : Diagrams) : Type 0 where
  pub bare : AreBare patterns d.bare.items
  pub automaton : IsAutomatonOf d.bare.items d.scanner
  pub numbers : (w : Word) (n : ℕ) → Contains (accepted d.scanner w) n → n < length d.bare.items
