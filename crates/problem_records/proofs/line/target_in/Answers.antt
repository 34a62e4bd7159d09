-- A line with fewer than two words says no point.
use Rattle.std.proofs.Common.{◌≡◌, ℕ, ◌<◌, List, [], ◌∷◌, length, map, Err, refl, arith}
use Rattle.problem_records.specs.Lines.{target_in}
use Rattle.problem_records.specs.declared.lack.Lack.TheVariants as lack
use Rattle.problem_records.proofs.line.target_in.Goals as goal

-- without a second word there is no point
too_few : {X : Type 0} (f : X → List ℕ) (s : ℕ) (words : List X) → length words < 2
    → Err lack.NoTarget ≡ target_in s (map f words)
too_few f s [] few = refl
too_few f s (w ∷ []) few = refl
too_few f s (w ∷ (v ∷ vs)) few = absurd (omega (arith, few))

-- the second word is missing
pub returns-in_default : goal.returns-in_default
returns-in_default c = too_few (λ w. w.now) c.args.size c.args.words.now c.in_default.len_below
