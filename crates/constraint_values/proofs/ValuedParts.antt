-- Each value of an expression stands at the place of its part.
use Rattle.std.proofs.Common.{Bool, true, false, cond, List, [], ◌∷◌, ◌++◌, map, Option, Some, None, ℤ}
use Rattle.pat_types.specs.declared.expr.Expr.{Expr, Num, Call, Not', Neg', Bin'}
use Rattle.cons_eval.specs.Meanings.{Meanings}
use Rattle.cons_eval.specs.Values.{value_of}
use Rattle.cons_eval.specs.Asking.{needs_right}
use Rattle.constraint_values.specs.Parts.{parts_of, no_values, values_in, AreValuesOf, ended, valued, not_needed}

module _ (m : Meanings) where
  -- places of more parts may follow
  and_then : (parts : List Expr) (values : List (Option ℤ)) (more : List Expr) (others : List (Option ℤ))
      → AreValuesOf m parts values → AreValuesOf m more others → AreValuesOf m (parts ++ more) (values ++ others)
  and_then [] [] more others ended k = k
  and_then [] (v ∷ vs) more others h k = elim h [ ]
  and_then (p ∷ ps) [] more others h k = elim h [ ]
  and_then (p ∷ ps) (v ∷ vs) more others (valued part parts values h) k =
      valued part (parts ++ more) (values ++ others) (and_then parts values more others h k)
  and_then (p ∷ ps) (v ∷ vs) more others (not_needed part parts values h) k =
      not_needed part (parts ++ more) (values ++ others) (and_then parts values more others h k)

  -- the value of one part
  its_value : (e : Expr) → AreValuesOf m (e ∷ []) (Some (value_of m e) ∷ [])
  its_value e = valued e [] [] ended

  -- no value for any of the parts
  none_for : (parts : List Expr) → AreValuesOf m parts (map (λ part. None) parts)
  none_for [] = ended
  none_for (p ∷ ps) = not_needed p ps (map (λ part. None) ps) (none_for ps)

  -- those of the right side, needed or not
  right_side : (e : Expr) (needed : Bool) → AreValuesOf m (parts_of e) (values_in m e)
      → AreValuesOf m (parts_of e) (cond needed (values_in m e) (no_values e))
  right_side e true h = h
  right_side e false h = none_for (parts_of e)

  -- the values of an expression stand at the places of its parts
  pub are_values : (e : Expr) → AreValuesOf m (parts_of e) (values_in m e)
  unfolding parts_of values_in
  are_values (Num n) = its_value (Num n)
  are_values (Call f args) = its_value (Call f args)
  are_values (Not' p e) =
      and_then (parts_of e) (values_in m e) _ _ (are_values e) (its_value (Not' p e))
  are_values (Neg' p e) =
      and_then (parts_of e) (values_in m e) _ _ (are_values e) (its_value (Neg' p e))
  are_values (Bin' op p a q b) =
      and_then (parts_of a ++ parts_of b) (values_in m a ++ cond (needs_right op (value_of m a)) (values_in m b)
      (no_values b)) _ _
      (and_then (parts_of a) (values_in m a) _ _ (are_values a)
      (right_side b (needs_right op (value_of m a)) (are_values b)))
      (its_value (Bin' op p a q b))
