-- The length of a value behind a backslash and the byte that it takes.
use Rattle.std.proofs.Common.{◌≡◌, ℕ, suc, ◌+◌, ◌<◌, true, false, List, ◌∷◌, length, drop, get_or, ap, ◌∙◌, refl, arith}
use Rattle.std.proofs.lemmas.List.{drop_more}
use Rattle.sgf_rules.specs.Tokens.{ends_value, is_backslash, value_len}

-- a backslash counts itself and the byte that it takes
taken_step : (b c : ℕ) (bs : List ℕ) → ends_value b ≡ false → is_backslash b ≡ true
    → value_len false (b ∷ (c ∷ bs)) ≡ suc (suc (value_len false bs))
taken_step b c bs e f = rw (e, f) refl

-- what is left of a value behind these two bytes is shorter by two
pub taken_unit : (bytes : List ℕ) (at : ℕ) → at + 1 < length bytes → ends_value (get_or bytes at 0) ≡ false
    → is_backslash (get_or bytes at 0) ≡ true
    → value_len false (drop (at + 2) bytes) + 2 ≡ value_len false (drop at bytes)
taken_unit bytes at inside goes_on taken =
    let two : at + 1 + 1 ≡ at + 2 = omega arith in
    let there : value_len false (drop at bytes) ≡ suc (suc (value_len false (drop (at + 1 + 1) bytes))) =
    ap (value_len false) (drop_more bytes at 0 (omega arith))
    ∙ (ap (λ (bs : List ℕ). value_len false (get_or bytes at 0 ∷ bs)) (drop_more bytes (at + 1) 0 inside)
    ∙ taken_step (get_or bytes at 0) (get_or bytes (at + 1) 0) (drop (at + 1 + 1) bytes) goes_on taken) in
    omega (arith, there, ap (λ (n : ℕ). value_len false (drop n bytes)) two)
