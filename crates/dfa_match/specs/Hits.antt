-- The hits of an automaton: the words of a position that it accepts.
use Rattle.spiral.specs.Spiral.{offset_count}
use Rattle.std.specs.Prelude.{◌≡◌, ◌⊎◌, ℕ, ◌*◌, ◌<◌, ◌≤◌, List, map, Contains}
use Rattle.go_rules.specs.declared.Colour.{Colour}
use Rattle.go_rules.specs.Position.{BoardState}
use Rattle.go_rules.specs.Transform.{transformations}
use Rattle.dfa_core.specs.Automata.{Row, accepted, AreDistinct}
use Rattle.dfa_match.specs.declared.Hit.{Hit}
use Rattle.dfa_match.specs.SeenLetters.{word_at}

-- the hits of the patterns with these numbers, at the anchor m under t
abbrev pub hits_at : ℕ → ℕ → List ℕ → List Hit
hits_at t m numbers = map (λ n. record { pattern = n; transform = t; anchor = m }) numbers

-- the automaton accepts the hit's pattern after a word that is read from the hit's anchor under its transformation
pub record IsHit (automaton : List Row) (pos : BoardState) (friend : Colour) (hit : Hit) : Type 0 where
  pub transform : hit.transform < transformations
  pub anchor : hit.anchor < pos.size * pos.size
  pub letters : ℕ
  pub spiral : letters ≤ offset_count
  pub accepts : Contains (accepted automaton (word_at pos friend hit.transform hit.anchor letters)) hit.pattern

-- the list has exactly the hits, each once
pub record AreHits (automaton : List Row) (pos : BoardState) (friend : Colour) (hits : List Hit) : Type 0 where
  pub sound : (hit : Hit) → Contains hits hit → IsHit automaton pos friend hit
  pub complete : (hit : Hit) → IsHit automaton pos friend hit → Contains hits hit
  pub once : AreDistinct hits

-- a hit under a transformation before t, or one under t whose word has fewer letters than `below` says for its anchor
pub record IsHitBefore (automaton : List Row) (pos : BoardState) (friend : Colour) (t : ℕ) (below : ℕ → ℕ)
    (hit : Hit) : Type 0 where
  pub is : IsHit automaton pos friend hit
  pub before : (hit.transform < t) ⊎ ((hit.transform ≡ t) × (is.letters < below hit.anchor))

-- the list has exactly the hits before t, or under t with fewer letters than `below` says, each once
pub record AreHitsBefore (automaton : List Row) (pos : BoardState) (friend : Colour) (t : ℕ) (below : ℕ → ℕ)
    (hits : List Hit) : Type 0 where
  pub sound : (hit : Hit) → Contains hits hit → IsHitBefore automaton pos friend t below hit
  pub complete : (hit : Hit) → IsHitBefore automaton pos friend t below hit → Contains hits hit
  pub once : AreDistinct hits

-- the bound 0 for each anchor: no word has fewer letters
abbrev pub nothing_read : ℕ → ℕ
nothing_read m = 0
