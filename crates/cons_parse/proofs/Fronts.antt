-- What was read so far, in front of what is still to be read.
use Rattle.std.proofs.Common.{◌≡◌, ℕ, ◌+◌, List, [], ◌∷◌, ◌++◌, Option, Some, None, refl, ap, sym, append_assoc}
use Rattle.std.specs.Option.{option_map}
use Rattle.pat_types.specs.declared.expr.Arg.{Arg}

-- what was read, in front of the rest
abbrev pub with_front : {X : Type 0} → List X → Option (List X) → Option (List X)
with_front front rest = option_map (λ xs. front ++ xs) rest

-- arguments that were read, and the index behind them
abbrev pub with_args : List Arg → ℕ → Option (List Arg × ℕ) → Option (List Arg × ℕ)
with_args args at rest = option_map (λ m. (args ++ m.0, at + m.1)) rest

-- one more stands in front
pub front_more : {X : Type 0} (front : List X) (x : X) (rest : Option (List X))
    → with_front front (option_map (λ xs. x ∷ xs) rest) ≡ with_front (front ++ x ∷ []) rest
front_more front x None = refl
front_more front x (Some xs) = ap (λ ys. Some ys) (sym (append_assoc front (x ∷ []) xs))
