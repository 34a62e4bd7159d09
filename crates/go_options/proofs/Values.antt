-- What a text that passed as a whole number reads as.
use Rattle.std.proofs.Common.{◌≡◌, ◌≤◌, cond, drop, ℕ, Bool, true, false, List, [], ◌∷◌, refl, arith}
use Rattle.std.specs.Prelude.{pos}
use Rattle.std.specs.Str.Parse.{IsNumeral, digits_value, starts_with_minus, without_leading_plus}
use Rattle.std.proofs.lemmas.Bool.{ne_eqb}
use Rattle.std.proofs.lemmas.Str.Parse.{digit_from_value}
use Rattle.clap.specs.Lexer.{without_minus}
use Rattle.clap.specs.Values.{IsSignedIn}
use Rattle.go_options.specs.Numbers.{IsWhole}

-- a minus is dropped if the text begins with one
without_minus-cond : (t : List ℕ) → without_minus t ≡ cond (starts_with_minus t) (drop 1 t) t
without_minus-cond [] = refl
without_minus-cond (x ∷ xs) = grind arith

-- digits have no plus before them
no_plus : (ds : List ℕ) → IsNumeral 10 ds → without_leading_plus ds ≡ ds
no_plus [] h = refl
no_plus (d ∷ ds) h = grind (arith, ne_eqb, digit_from_value)

-- digits that passed after a minus are a number from low to high too, since it can only be 0
whole_digits : (low high : ℕ) (ds : List ℕ) → IsNumeral 10 ds → low ≤ digits_value 10 ds → digits_value 10 ds ≤ high
    → IsWhole low high ds
whole_digits low high ds numeral least most = rw (no_plus ds numeral) (numeral, (least, most))

-- a text that passed as a number from low to high is one, without its minus
pub whole_read : (low high : ℕ) (t : List ℕ) → IsSignedIn (pos low) (pos high) t → IsWhole low high (without_minus t)
whole_read low high t passed = rw (without_minus-cond t) (go (starts_with_minus t) refl)
  where
    go : (b : Bool) → starts_with_minus t ≡ b → IsWhole low high (cond (starts_with_minus t) (drop 1 t) t)
    go true minus = grind (arith, whole_digits)
    go false minus = grind arith
