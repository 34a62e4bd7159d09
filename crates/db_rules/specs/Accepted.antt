-- The diagrams of an entry without a fault, built up line by line.
use Rattle.std.specs.Prelude.{◌≡◌, ℕ, List, [], ◌∷◌, ◌++◌, None}
use Rattle.db_rules.specs.Diagram.{diagram_fault}
use Rattle.db_rules.specs.Labels.{constraint_fault}

-- the words are those of the lines of a main diagram, and no line has a fault
pub data IsDrawn : List (List ℕ) → Type 0 where
  no_line : IsDrawn []
  one_line_more : (words : List (List ℕ)) (word : List ℕ) → IsDrawn words → diagram_fault words word ≡ None
      → IsDrawn (words ++ word ∷ [])

-- the words are those of the lines of a constraint diagram under this main diagram, and no line has a fault
pub data IsLabelled (diagram : List (List ℕ)) : List (List ℕ) → Type 0 where
  no_line : IsLabelled diagram []
  one_line_more : (words : List (List ℕ)) (word : List ℕ) → IsLabelled diagram words
      → constraint_fault diagram words word ≡ None → IsLabelled diagram (words ++ word ∷ [])
