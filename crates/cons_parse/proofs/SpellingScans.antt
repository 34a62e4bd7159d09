-- The scan of the items that spell an expression: it ends there, and tells how deep the leaves stand.
use Rattle.std.proofs.Common.{◌≡◌, ◌<◌, ◌≤◌, Bool, true, false, ◌||◌, List, [], ◌∷◌, ◌++◌, length, Some, refl, ap, sym}
use Rattle.std.proofs.Common.{◌∙◌, arith, append_assoc}
use Rattle.std.proofs.Math.Bool.{or_assoc}
use Rattle.std.proofs.lemmas.List.{append-nil}
use Rattle.pat_types.specs.declared.expr.Op.{Op}
use Rattle.pat_types.specs.declared.expr.Op.TheVariants.{Or, And, Eq, Ne, Lt, Le, Gt, Ge, Add, Sub}
use Rattle.cons_parse.specs.declared.calls.Item.{Item}
use Rattle.cons_parse.specs.declared.calls.Item.TheVariants as item
use Rattle.cons_parse.specs.declared.scan.Opener.{Opener}
use Rattle.cons_parse.specs.declared.scan.Opener.TheVariants.{Prefix, Parenthesis}
use Rattle.cons_parse.specs.Grammar.{Written, Num, Call, Parens, Not, Neg, Bin, level_of_op, level_of, IsWell, spelling}
use Rattle.cons_parse.specs.Faults.{is_too_deep}
use Rattle.cons_parse.specs.Scan.{Spot, settled, scanned_from, scanned}

-- a place where an operand is to come, and one behind an operand
abbrev pub to_come : List Opener → Bool → Spot
to_come ms d = record { openers = ms; after = false; deep = d }

-- the place behind an operand
abbrev pub come : List Opener → Bool → Spot
come ms d = record { openers = ms; after = true; deep = d }

-- operators bind less tightly than signs
pub op_level : (op : Op) → level_of_op op ≤ 4
op_level Or = omega arith
op_level And = omega arith
op_level Eq = omega arith
op_level Ne = omega arith
op_level Lt = omega arith
op_level Le = omega arith
op_level Gt = omega arith
op_level Ge = omega arith
op_level Add = omega arith
op_level Sub = omega arith

-- both sides of an operator are one operand, if each of them is one
sides : (op : Op) (a b : Written) (ms : List Opener) (d : Bool) (is : List Item) → settled ms ≡ ms
    → scanned_from (to_come ms d) (spelling a ++ item.Operator op ∷ (spelling b ++ is))
    ≡ scanned_from (come (settled ms) (d || is_too_deep (length ms) a)) (item.Operator op ∷ (spelling b ++ is))
    → scanned_from (to_come ms (d || is_too_deep (length ms) a)) (spelling b ++ is)
    ≡ scanned_from (come (settled ms) (d || is_too_deep (length ms) a || is_too_deep (length ms) b)) is
    → scanned_from (to_come ms d) (spelling (Bin op a b) ++ is)
    ≡ scanned_from (come (settled ms) (d || is_too_deep (length ms) (Bin op a b))) is
unfolding scanned_from
sides op a b ms d is s left right = grind (arith, append_assoc, or_assoc)

-- the items of an expression, in front of others
pub operand : (w : Written) (ms : List Opener) (d : Bool) (is : List Item) → IsWell w
    → (level_of w < 5 → settled ms ≡ ms)
    → scanned_from (to_come ms d) (spelling w ++ is)
    ≡ scanned_from (come (settled ms) (d || is_too_deep (length ms) w)) is
unfolding scanned_from
operand (Num n) ms d is v r = refl
operand (Call name args) ms d is v r = refl
operand (Parens e) ms d is v r = grind (arith, append_assoc, operand e (Parenthesis ∷ ms) d (item.Close ∷ is) v)
operand (Not e) ms d is v r = operand e (Prefix ∷ ms) d is v.1 (λ l. absurd (omega arith))
operand (Neg e) ms d is v r = operand e (Prefix ∷ ms) d is v.1 (λ l. absurd (omega arith))
operand (Bin op a b) ms d is v r = grind (arith, op_level, sides, operand a, operand b)

-- the items of a whole expression
pub scanned_spelling : (w : Written) → IsWell w → scanned (spelling w) ≡ Some (is_too_deep 0 w)
unfolding scanned_from
scanned_spelling w v = ap scanned (sym (append-nil (spelling w))) ∙ operand w [] false [] v (λ _. refl)
