-- The parts of an expression and the values of those that are needed.
use Rattle.std.specs.Prelude.{List, [], ◌∷◌, ◌++◌, map, Option, Some, None, ℤ, if◌then◌else◌}
use Rattle.pat_types.specs.declared.expr.Expr.{Expr, Num, Call, Not', Neg', Bin'}
use Rattle.cons_eval.specs.Meanings.{Meanings}
use Rattle.cons_eval.specs.Values.{value_of}
use Rattle.cons_eval.specs.Asking.{needs_right}

-- the parts of an expression: the parts below a part stand before it, those of its left side first, and the whole
-- expression is the last
unfoldable pub parts_of : Expr → List Expr
parts_of (Num n) = Num n ∷ []
parts_of (Call f args) = Call f args ∷ []
parts_of (Not' p e) = parts_of e ++ Not' p e ∷ []
parts_of (Neg' p e) = parts_of e ++ Neg' p e ∷ []
parts_of (Bin' op p a q b) = parts_of a ++ parts_of b ++ Bin' op p a q b ∷ []

-- the values of an expression of which no part is needed: none for each part
abbrev pub no_values : Expr → List (Option ℤ)
no_values e = map (λ part. None) (parts_of e)

-- the value of each part of an expression, in the order of the parts, or none for a part that is not needed; if the
-- left side of an operator decides, no part of the right side is needed
unfoldable pub values_in : Meanings → Expr → List (Option ℤ)
values_in m (Num n) = Some (value_of m (Num n)) ∷ []
values_in m (Call f args) = Some (value_of m (Call f args)) ∷ []
values_in m (Not' p e) = values_in m e ++ Some (value_of m (Not' p e)) ∷ []
values_in m (Neg' p e) = values_in m e ++ Some (value_of m (Neg' p e)) ∷ []
values_in m (Bin' op p a q b) =
    values_in m a ++ (if needs_right op (value_of m a) then values_in m b else no_values b)
    ++ Some (value_of m (Bin' op p a q b)) ∷ []

-- there is one place for each part, with the value of this part or with none
pub data AreValuesOf (m : Meanings) : List Expr → List (Option ℤ) → Type 0 where
  ended : AreValuesOf m [] []
  valued : (part : Expr) (parts : List Expr) (values : List (Option ℤ)) → AreValuesOf m parts values
      → AreValuesOf m (part ∷ parts) (Some (value_of m part) ∷ values)
  not_needed : (part : Expr) (parts : List Expr) (values : List (Option ℤ)) → AreValuesOf m parts values
      → AreValuesOf m (part ∷ parts) (None ∷ values)
