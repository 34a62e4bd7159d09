-- How deep readings go, and in which tree.
use Rattle.std.specs.Prelude.{ℕ, List, [], ◌∷◌}
use Rattle.go_rules.specs.Position.{BoardState}
use Rattle.read_rules.specs.declared.tree.Tree.{Tree}
use Rattle.read_rules.specs.declared.tree.Tree.TheVariants.{Stated, Wider}
use Rattle.read_rules.specs.declared.depths.Depths.{Depths}
use Rattle.read_rules.specs.declared.question.Kind.{Kind}
use Rattle.read_rules.specs.declared.question.ReadingQuestion.{ReadingQuestion}
use Rattle.read_rules.specs.Answer.{asked_in}

-- which tree is read, how many plies deep, and in how many of the first plies other candidates than the liberties of
-- the strings are tried
pub record ReadingDepths : Type 0 where
  pub tree : Tree
  pub plies : ℕ
  pub wide : ℕ

-- the depths of a call
abbrev pub depths_of : Depths → ReadingDepths
depths_of d = record { tree = d.tree; plies = d.plies; wide = d.wide }

-- the number of a tree
abbrev pub number_of_tree : Tree → ℕ
number_of_tree Stated = 0
number_of_tree Wider = 1

-- the numbers of depths, which determine them
abbrev pub numbers_of : ReadingDepths → List ℕ
numbers_of d = number_of_tree d.tree ∷ d.plies ∷ d.wide ∷ []

-- the question that a call asks at these depths on a position whose target holds a stone
abbrev pub asked_at : ReadingDepths → BoardState → Kind → ℕ → ReadingQuestion
asked_at d pos kind target = asked_in d.tree pos kind target d.plies d.wide
