-- What the place of a name says of the list of helpers. The helpers are elements of any type, each seen as a place of
-- the list.
use Rattle.std.proofs.Common.{◌≡◌, ℕ, [], ◌∷◌, List, map, set, get_or, remove, Option, Some, None, option_map, refl}
use Rattle.std.proofs.Common.{sym, ap, subst, ◌∙◌, arith}
use Rattle.std.specs.List.{position_from}
use Rattle.std.proofs.lemmas.List.{map-set}
use Rattle.std.proofs.Math.ListN.{get_or-map}
use Rattle.helpers.specs.HelperStates.{HelperState, SlotState, has_name, named, change_first, remove_first}
use Rattle.helpers.proofs.Firsts.{IsFirst, found, missed, find-first, find-none, change_first-first, change_first-none}
use Rattle.helpers.proofs.Firsts.{remove_first-first, remove_first-none, map-remove}

module _ {X : Type 0} (see : X → SlotState) (name : List ℕ) (xs : List X) where
  -- the first helper of the name stands at the place
  first_at : (i : ℕ) → position_from (has_name name) 0 (map see xs) ≡ Some i → IsFirst (has_name name) (map see xs) i
  first_at i placed =
      let first = found (has_name name) (map see xs) 0 i placed in
      let same : first.0 ≡ i = omega (arith, first.1) in
      subst (λ n. IsFirst (has_name name) (map see xs) n) same first.2

  -- it is the helper that the name means
  pub named-at : (i : ℕ) (x : X) → position_from (has_name name) 0 (map see xs) ≡ Some i → x ≡ get_or xs i x
      → named name (map see xs) ≡ Some (see x)
  named-at i x placed read = find-first (has_name name) (first_at i placed) (see x)
      ∙ ap Some (get_or-map see xs i x ∙ ap see (sym read))

  -- if there is no place, the name means none
  pub named-none : position_from (has_name name) 0 (map see xs) ≡ None → named name (map see xs) ≡ None
  named-none placed = find-none (has_name name) (missed (has_name name) (map see xs) 0 placed)

  -- a write at the place is a change of the helper that the name means
  pub changed-at : (change : SlotState → SlotState) (i : ℕ) (x y : X)
      → position_from (has_name name) 0 (map see xs) ≡ Some i → x ≡ get_or xs i x → see y ≡ change (see x)
      → map see (set xs i y) ≡ change_first (has_name name) change (map see xs)
  changed-at change i x y placed read changed =
      map-set see xs i y
      ∙ ap (λ s. set (map see xs) i s) (changed ∙ ap change (ap see read ∙ sym (get_or-map see xs i x)))
      ∙ sym (change_first-first (has_name name) change (first_at i placed) (see x))

  -- if there is no place, no helper is changed
  pub changed-none : (change : SlotState → SlotState) → position_from (has_name name) 0 (map see xs) ≡ None
      → map see xs ≡ change_first (has_name name) change (map see xs)
  changed-none change placed =
      sym (change_first-none (has_name name) change (missed (has_name name) (map see xs) 0 placed))

  -- without the element at the place, the helper that the name means is gone
  pub removed-at : (i : ℕ) (ys : List X) → position_from (has_name name) 0 (map see xs) ≡ Some i → ys ≡ remove xs i
      → map see ys ≡ remove_first (has_name name) (map see xs)
  removed-at i ys placed removed = ap (map see) removed ∙ map-remove see xs i
      ∙ sym (remove_first-first (has_name name) (first_at i placed))

  -- if there is no place, the list is as it was
  pub removed-none : position_from (has_name name) 0 (map see xs) ≡ None
      → map see xs ≡ remove_first (has_name name) (map see xs)
  removed-none placed = sym (remove_first-none (has_name name) (missed (has_name name) (map see xs) 0 placed))

  -- if there is no place, no helper is taken out
  pub taken-none : {B : Type 0} (state : B → HelperState) (out : Option B)
      → position_from (has_name name) 0 (map see xs) ≡ None → out ≡ None
      → option_map state out ≡ option_map (λ s. s.helper) (named name (map see xs))
  taken-none state out placed gone = ap (option_map state) gone
      ∙ sym (ap (option_map (λ s. s.helper)) (named-none placed))

-- a list of places that are made of other things, as each is seen
pub seen-made : {B X Y : Type 0} (see : X → Y) (make : B → X) (bs : List B) (xs : List X) → xs ≡ map make bs
    → map see xs ≡ map (λ b. see (make b)) bs
seen-made {B = B} see make bs xs made = ap (map see) made ∙ each bs
  where
    each : (bs : List B) → map see (map make bs) ≡ map (λ b. see (make b)) bs
    each [] = refl
    each (b ∷ bs) = ap (λ l. see (make b) ∷ l) (each bs)
