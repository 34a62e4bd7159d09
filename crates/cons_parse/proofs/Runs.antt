-- A run over items, one item further.
use Rattle.std.proofs.Common.{◌≡◌, List, [], ◌∷◌, ◌++◌, refl}
use Rattle.cons_parse.specs.declared.calls.Item.{Item}
use Rattle.cons_parse.specs.Building.{Forms, State, run, stepped}

-- a run over one more item is a step more
pub run_more : {P : Type 0} (f : Forms P) (s : State P) (is : List Item) (i : Item)
    → run f s (is ++ i ∷ []) ≡ stepped f (run f s is) i
unfolding run
run_more f s [] i = refl
run_more f s (j ∷ is) i = run_more f (stepped f s j) is i
