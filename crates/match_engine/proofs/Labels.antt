-- The labels of a pattern lie in its diagram.
use Rattle.std.proofs.Common.{◌≡◌, ℕ, ◌<◌, Bool, true, ltb, List, [], ◌∷◌, Some}
use Rattle.std.proofs.Common.{arith}
use Rattle.std.specs.List.{list_all}
use Rattle.std.proofs.lemmas.Bool.{cases_Bool, and_parts, ltb-true}
use Rattle.std.proofs.lemmas.Option.{none-some, same_Some}
use Rattle.pat_types.specs.declared.pattern.LabelAt.{LabelAt}
use Rattle.pat_types.specs.Labels.{are_labels}
use Rattle.match_rules.specs.Conditions.{label_with}

-- a label that is found passes what each label passes
found_in : (test : LabelAt → Bool) (letter : ℕ) (labels : List LabelAt) (l : LabelAt)
    → label_with letter labels ≡ Some l → list_all test labels ≡ true → test l ≡ true
found_in test letter [] l found all = absurd (none-some l found)
found_in test letter (k ∷ labels) l found all =
    grind (arith, and_parts, cases_Bool, same_Some, found_in test letter labels l)

module _ (rows cols letter : ℕ) (labels : List LabelAt) (l : LabelAt) (found : label_with letter labels ≡ Some l)
    (are : are_labels rows cols labels ≡ true) where
  -- it lies in one of the rows and in one of the columns
  inside : (ltb l.row rows ≡ true) × (ltb l.col cols ≡ true)
  inside = grind (arith, and_parts, found_in)

  -- the label lies in one of the rows
  pub label_row : l.row < rows
  label_row = ltb-true l.row rows inside.0

  -- the label lies in one of the columns
  pub label_column : l.col < cols
  label_column = ltb-true l.col cols inside.1
