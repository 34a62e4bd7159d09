-- Calls change counts alone, and lower none.
use Rattle.std.proofs.Common.{ℕ, List, [], ◌∷◌, refl, arith}
use Rattle.cons_eval.specs.Meanings.{EnvView, NoneLower, KeepsMeanings}

-- counts that are as before are not lower
pub none_lower_same : (counts : List ℕ) → NoneLower counts counts
none_lower_same [] = tt
none_lower_same (n ∷ counts) = (omega arith, none_lower_same counts)

-- counts that rose twice are not lower
pub none_lower_on : (a b c : List ℕ) → NoneLower a b → NoneLower b c → NoneLower a c
none_lower_on [] [] [] h k = tt
none_lower_on [] [] (z ∷ c) h k = k
none_lower_on [] (y ∷ b) c h k = absurd h
none_lower_on (x ∷ a) [] c h k = absurd h
none_lower_on (x ∷ a) (y ∷ b) [] h k = k
none_lower_on (x ∷ a) (y ∷ b) (z ∷ c) h k = let p = h.0 in let q = k.0 in (omega arith, none_lower_on a b c h.1 k.1)

-- nothing need change
pub stays_same : (v : EnvView) → KeepsMeanings v v
stays_same v = record { meanings = refl; fixed = refl; counts = none_lower_same v.counts }

-- one call after another changes counts alone
pub stays_on : (a b c : EnvView) → KeepsMeanings a b → KeepsMeanings b c → KeepsMeanings a c
stays_on a b c h k = grind (arith, none_lower_on)
