-- The kinds of fault of a record, and of a node.
use Rattle.std.proofs.Common.{◌≡◌, ℕ, List, Option, Some, None, refl}
use Rattle.sgf_rules.specs.Trees.{Node, Tree, line_of_tree}
use Rattle.sgf_rules.specs.Written.{IsFirstTree}
use Rattle.sgf_rules.specs.MainLine.{main_line}
use Rattle.sgf_rules.proofs.FaultKinds.{game_with, game_without_line, line_no_grammar, size_fault, first_faulty_node}
use Rattle.sgf_rules.proofs.FaultKinds.{value_fault, liberty_fault}
use Rattle.sgf_rules.proofs.RefusedPlays.{play_fault}
use Rattle.sgf_rules.proofs.MainLines.{line_found, line_computed}
use Rattle.sgf_rules.proofs.laws.faults_are_by_kind.Goals as goal

-- a text without a first tree has no main line
no_line : (text : List ℕ) → ((t : Tree) → IsFirstTree text t → ⊥) → (line : Option (List Node))
    → main_line text ≡ line → main_line text ≡ None
no_line text none None e = e
no_line text none (Some nodes) e = let m = line_found text nodes e in absurd (none m.first m.is_first)

-- and a text with one has a main line
some_line : (text : List ℕ) (t : Tree) → IsFirstTree text t → main_line text ≡ Some (line_of_tree t)
some_line text t f = line_computed text (line_of_tree t) (record { first = t; is_first = f; line = refl })

-- the grammar
pub returns-clause-grammar : goal.returns-clause-grammar
returns-clause-grammar c text = (
  (λ e t f. line_no_grammar text (line_of_tree t) (some_line text t f) e),
  (λ none. game_without_line text (no_line text none (main_line text) refl)),
)

-- the size
pub returns-clause-size : goal.returns-clause-size
returns-clause-size c text nodes m = size_fault text nodes (line_computed text nodes m)

-- the nodes
pub returns-clause-nodes : goal.returns-clause-nodes
returns-clause-nodes c text nodes s m size = game_with text nodes s (line_computed text nodes m) size

-- the first that has a fault
pub returns-clause-first : goal.returns-clause-first
returns-clause-first c pos now earlier later n kind before fault =
    first_faulty_node pos now earlier later n kind before fault

-- its values
pub returns-clause-value : goal.returns-clause-value
returns-clause-value c pos uses = value_fault pos uses

-- its setup
pub returns-clause-liberty : goal.returns-clause-liberty
returns-clause-liberty c pos uses readable = liberty_fault pos uses readable

-- its plays
pub returns-clause-refused : goal.returns-clause-refused
returns-clause-refused c pos now uses readable stands = play_fault pos now uses readable stands
