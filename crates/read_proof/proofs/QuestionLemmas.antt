-- The question of a call, by its parts.
use Rattle.std.proofs.Common.{◌≡◌, ◌≢◌, ℕ, true, arith}
use Rattle.go_rules.specs.declared.Cell.{Cell}
use Rattle.go_rules.specs.declared.Cell.TheVariants.{Empty}
use Rattle.go_rules.specs.declared.Colour.{Colour}
use Rattle.go_rules.specs.Strings.{cell_at}
use Rattle.go_rules.specs.Position.{BoardState, colour_of}
use Rattle.read_rules.specs.declared.question.Kind.{Kind}
use Rattle.read_rules.specs.declared.question.ReadingQuestion.{ReadingQuestion}
use Rattle.read_rules.specs.declared.tree.Tree.{Tree}
use Rattle.read_rules.specs.Answer.{is_about, asked_in}
use Rattle.read_rules.proofs.AnswerLemmas.{stone-colour, about_from}

-- a question on a stone of a position is about the position
pub about_asked : (tree : Tree) (pos : BoardState) (kind : Kind) (t plies wide : ℕ) → cell_at pos.cells t ≢ Empty
    → is_about (asked_in tree pos kind t plies wide) pos ≡ true
about_asked tree pos kind t plies wide stone = grind (arith, about_from, stone-colour)

-- the question of a kind about a stone of this colour on a board of this size
abbrev stone_asked : Tree → Kind → ℕ → ℕ → ℕ → ℕ → Colour → ReadingQuestion
stone_asked tree kind t plies wide size colour = record {
  tree = tree;
  size = size;
  kind = kind;
  target = t;
  colour = colour;
  plies = plies;
  wide = wide;
}

-- the question that is asked, by its parts
pub question_is : (tree : Tree) (shown : BoardState) (size t plies wide : ℕ) (kind : Kind) (cell : Cell)
    (colour : Colour) → size ≡ shown.size → colour ≡ colour_of cell → cell ≡ cell_at shown.cells t
    → stone_asked tree kind t plies wide size colour ≡ asked_in tree shown kind t plies wide
question_is tree shown size t plies wide kind cell colour s o e = grind arith
