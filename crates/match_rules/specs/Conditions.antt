-- What a match needs beside its diagram and a legal move: the consent of its classes, its constraint and its helpers.
-- After "The Pattern Code" of the GNU Go Manual; the exact tests are this project's own. A class letter asks for the
-- code of a reading on the position after the play that it is about.
use Rattle.std.specs.Prelude.{◌≡◌, ℕ, ◌==◌, ◌&&◌, ◌||◌, not, Bool, true, List, [], ◌∷◌, Option, Some, None, Ok, pos}
use Rattle.std.specs.Prelude.{if◌then◌else◌}
use Rattle.std.specs.List.{list_all, list_any}
use Rattle.go_rules.specs.declared.Colour.{Colour}
use Rattle.go_rules.specs.Position.{BoardState, other}
use Rattle.go_rules.specs.Play.{play}
use Rattle.pat_types.specs.declared.pattern.Pattern.{Pattern}
use Rattle.pat_types.specs.declared.pattern.LabelAt.{LabelAt}
use Rattle.pat_types.specs.declared.expr.Arg.{Arg}
use Rattle.pat_types.specs.declared.expr.Arg.TheVariants.{Label, Star, Nowhere}
use Rattle.pat_types.specs.declared.expr.Expr.{Expr}
use Rattle.read_rules.specs.declared.question.Kind.TheVariants.{Attack}
use Rattle.cons_eval.specs.Readings.{Codes, code_at}
use Rattle.cons_eval.specs.Functions.{is_safe_move}
use Rattle.cons_eval.specs.Meanings.{Meanings}
use Rattle.cons_eval.specs.Values.{is_so, value_of}
use Rattle.match_rules.specs.Fits.{place_of_cell}
use Rattle.helpers.specs.Fields.{helper_names}

-- the class letter s: the stone that is played need not be safe
abbrev pub unsafe_class : ℕ
unsafe_class = 115

-- the class letter n: the enemy could play there too, and be safe
abbrev pub enemy_class : ℕ
enemy_class = 110

-- whether the letter is one of the pattern's class letters
abbrev pub has_class : Pattern → ℕ → Bool
has_class p letter = list_any (λ c. c == letter) p.classes

-- c's play at m is legal, and the attack code of the stone at m after it is 0
pub record IsSafePlay (code : Codes) (board : BoardState) (c : Colour) (m : ℕ) : Type 0 where
  pub next : BoardState
  pub legal : play board c m ≡ Ok next
  pub safe : code_at code Attack next m ≡ 0

-- whether the friend's stone at m is safe after the play, or class s says that it need not be
abbrev pub is_safe : Codes → Pattern → BoardState → Colour → ℕ → Bool
is_safe code p board friend m = has_class p unsafe_class || is_safe_move code board friend m

-- whether the enemy could play at m and be safe, or the pattern does not ask for it with class n
abbrev pub is_enemy_safe : Codes → Pattern → BoardState → Colour → ℕ → Bool
is_enemy_safe code p board friend m = not (has_class p enemy_class) || is_safe_move code board (other friend) m

-- the first label with the letter, or None
abbrev pub label_with : ℕ → List LabelAt → Option LabelAt
label_with letter [] = None
label_with letter (l ∷ labels) = if l.letter == letter then Some l else label_with letter labels

-- the point of a label of the pattern, with the star at m under t, on a board of size s
abbrev pub place_of_label : Pattern → ℕ → ℕ → ℕ → Option LabelAt → Option ℕ
place_of_label p s t m None = None
place_of_label p s t m (Some l) = place_of_cell p s t m (pos l.row) (pos l.col)

-- the point of an argument of the constraint, with the star at m under t, on a board of size s
abbrev pub place_of_argument : Pattern → ℕ → ℕ → ℕ → Arg → Option ℕ
place_of_argument p s t m (Label letter) = place_of_label p s t m (label_with letter p.labels)
place_of_argument p s t m Star = Some m
place_of_argument p s t m Nowhere = None

-- what the value of the pattern's constraint at m under t rests on: the position before the move, and the moved labels
abbrev pub meanings_at : Codes → Pattern → BoardState → Colour → ℕ → ℕ → Meanings
meanings_at code p board friend t m =
    record { position = board; friend = friend; point = place_of_argument p board.size t m; code = code }

-- whether the expression has a value other than 0; true if there is none
abbrev pub is_so_valued : Meanings → Option Expr → Bool
is_so_valued meanings None = true
is_so_valued meanings (Some e) = is_so (value_of meanings e)

-- whether the pattern has no constraint, or one with a value other than 0 at m under t
abbrev pub is_constraint_true : Codes → Pattern → BoardState → Colour → ℕ → ℕ → Bool
is_constraint_true code p board friend t m = is_so_valued (meanings_at code p board friend t m) p.constraint

-- whether the classes and the constraint of the pattern allow the friend's move at m under t
unfoldable pub is_allowed : Codes → Pattern → BoardState → Colour → ℕ → ℕ → Bool
is_allowed code p board friend t m =
    is_safe code p board friend m && (is_enemy_safe code p board friend m && is_constraint_true code p board friend t m)

-- what the helper of each name says about a position, a point and a colour; no, if no helper of this name is on
abbrev pub Advice : Type 0
Advice = List ℕ → BoardState → ℕ → Colour → Bool

-- the advice of helpers that say yes to everything
abbrev pub all_yes : Advice
all_yes name board m friend = true

-- whether every helper that the pattern names says yes to the friend's move at m
abbrev pub do_helpers_agree : Advice → Pattern → BoardState → Colour → ℕ → Bool
do_helpers_agree advice p board friend m = list_all (λ name. advice name board m friend) (helper_names p.items)

-- whether the classes, the constraint and the helpers of the pattern allow the friend's move at m under t
abbrev pub is_agreed : Codes → Advice → Pattern → BoardState → Colour → ℕ → ℕ → Bool
is_agreed code advice p board friend t m =
    is_allowed code p board friend t m && do_helpers_agree advice p board friend m
