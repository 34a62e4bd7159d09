-- What the values of the rows depend on: three points, and codes that follow from the liberties.
use Rattle.std.specs.Prelude.{ℕ, ◌-◌, ◌==◌, min, Option, Some, None, if◌then◌else◌}
use Rattle.pat_types.specs.declared.expr.Arg.{Arg}
use Rattle.pat_types.specs.declared.expr.Arg.TheVariants.{Label, Star, Nowhere}
use Rattle.go_rules.specs.Position.{BoardState}
use Rattle.go_rules.specs.Strings.{liberties}
use Rattle.read_rules.specs.declared.question.Kind.{Kind}
use Rattle.read_rules.specs.declared.question.Kind.TheVariants.{Attack, Defend}

-- the point of an argument: of the star, or of the labels A and B
abbrev pub spot : ℕ → ℕ → ℕ → Arg → Option ℕ
spot star a b (Label letter) = if letter == 65 then Some a else if letter == 66 then Some b else None
spot star a b Star = Some star
spot star a b Nowhere = None

-- the number of liberties of the string at p, but at most three
abbrev pub liberties_to_three : BoardState → ℕ → ℕ
liberties_to_three pos p = min 3 (liberties pos.size pos.cells p)

-- with liberties counted up to three, the code of a defence is their number, and the code of an attack is 3 minus it
abbrev pub code_by_liberties : Kind → BoardState → ℕ → ℕ
code_by_liberties Attack pos p = 3 - liberties_to_three pos p
code_by_liberties Defend pos p = liberties_to_three pos p
