-- Where the star of a diagram with exactly one stands.
use Rattle.std.proofs.Common.{◌≡◌, ℕ, suc, ◌+◌, ◌<◌, false, cond, List, [], ◌∷◌, length, get_or, refl, ap, ◌∙◌, arith}
use Rattle.std.specs.Prelude.{◌==◌}
use Rattle.std.specs.List.{position_or_len}
use Rattle.std.proofs.Math.Dec.{eqb-suc-suc, eqb-suc-zero}
use Rattle.std.proofs.lemmas.Bool.{ne_eqb}
use Rattle.std.proofs.lemmas.List.Sums.{sum_by-cons}
use Rattle.pat_types.specs.declared.letter.Letter.{Letter}
use Rattle.pat_types.specs.declared.letter.Letter.TheVariants.{Friend}
use Rattle.pat_types.specs.Diagrams.{is_star}
use Rattle.db_rules.specs.Diagram.{star_count}

-- numbers are equal exactly if the next ones are
suc_suc : (a b : ℕ) → (suc a == 1 + b) ≡ (a == b)
suc_suc a b = let next : 1 + b ≡ suc b = omega arith in ap (λ n. suc a == n) next ∙ eqb-suc-suc a b

-- the first letter counts if it is the star
star_count-cons : (l : Letter) (letters : List Letter)
    → star_count (l ∷ letters) ≡ cond (is_star l) 1 0 + star_count letters
star_count-cons l letters = sum_by-cons (λ x. cond (is_star x) 1 0) l letters

-- if there is no star, no letter is one
no_star : (letters : List Letter) → star_count letters ≡ 0 → (j : ℕ) → is_star (get_or letters j Friend) ≡ false
no_star [] none j = refl
no_star (l ∷ letters) none j = grind (arith, star_count-cons, no_star letters)

-- the index of the star is one of a letter
pub star_within : (letters : List Letter) → star_count letters ≡ 1 → position_or_len is_star letters < length letters
star_within [] one = absurd (omega (arith, one))
star_within (l ∷ letters) one = grind (arith, star_count-cons, star_within letters)

-- the letter at an index is the star exactly if the index is that of the star
pub one_star_at : (letters : List Letter) → star_count letters ≡ 1 → (j : ℕ) → j < length letters
    → is_star (get_or letters j Friend) ≡ (j == position_or_len is_star letters)
one_star_at [] one j lt = absurd (omega (arith, one))
one_star_at (l ∷ letters) one j lt =
    grind (arith, star_count-cons, no_star, eqb-suc-zero, ne_eqb, suc_suc, one_star_at letters)
