-- What a word of digits writes when it is read from its front.
use Rattle.std.proofs.Common.{◌≡◌, ℕ, ◌+◌, ◌-◌, ◌*◌, ◌<◌, true, false, cond, List, [], ◌∷◌, ◌++◌}
use Rattle.std.proofs.Common.{length, take, drop, get_or, min, unwrap_or, Option, Some, None, refl}
use Rattle.std.proofs.Common.{ap, arith, take-append-drop}
use Rattle.std.specs.List.{list_all}
use Rattle.std.specs.Char.{is_ascii_digit, digit_value}
use Rattle.std.specs.Str.Parse.{digits_value, digits_value_after}
use Rattle.std.proofs.lemmas.Bool.Decides.{nat_tests}
use Rattle.std.proofs.lemmas.List.{drop_more}
use Rattle.std.proofs.lemmas.List.Elements.{filter-append, filter_more}
use Rattle.std.proofs.lemmas.List.Folds.{list_all-append}
use Rattle.vertices.specs.Words.{is_kept, kept, has_bytes, number_of}
use Rattle.vertices.specs.RawWords.{large, capped}

-- the number grows by its last digit
digits_value_after-push : (radix n : ℕ) (xs : List ℕ) (c : ℕ)
    → digits_value_after radix n (xs ++ c ∷ []) ≡ digits_value_after radix n xs * radix + digit_value c
digits_value_after-push radix n [] c = refl
digits_value_after-push radix n (x ∷ xs) c = digits_value_after-push radix (n * radix + digit_value x) xs c

-- a text with a byte at its end has a byte
has_bytes-push : (xs : List ℕ) (c : ℕ) → has_bytes (xs ++ c ∷ []) ≡ true
has_bytes-push [] c = refl
has_bytes-push (x ∷ xs) c = refl

-- what the digits so far write, and 0 before the first
value_so_far : (xs : List ℕ) → list_all is_ascii_digit xs ≡ true
    → unwrap_or (capped (number_of xs)) 0 ≡ min (digits_value 10 xs) large
value_so_far [] all = refl
value_so_far (x ∷ xs) all = ap (λ t. unwrap_or (capped (cond t (Some (digits_value 10 (x ∷ xs))) None)) 0) all

-- one more byte of a word, which is kept
kept-more : (word : List ℕ) (i : ℕ) → i < length word → is_kept (get_or word i 0) ≡ true
    → kept (take (i + 1) word) ≡ kept (take i word) ++ get_or word i 0 ∷ []
kept-more word i within here = grind (arith, filter_more is_kept word i 0 within)

-- a word whose bytes so far are digits goes on with one
pub digits_more : (word : List ℕ) (i : ℕ) → i < length word → is_kept (get_or word i 0) ≡ true
    → is_ascii_digit (get_or word i 0) ≡ true
    → list_all is_ascii_digit (kept (take i word)) ≡ true → list_all is_ascii_digit (kept (take (i + 1) word)) ≡ true
digits_more word i within here digit all = grind (arith, kept-more, list_all-append)

-- the number of a word whose bytes so far are digits goes on with the next digit
pub number_more : (word : List ℕ) (i : ℕ) (value : Option ℕ) → i < length word → is_kept (get_or word i 0) ≡ true
    → is_ascii_digit (get_or word i 0) ≡ true
    → list_all is_ascii_digit (kept (take i word)) ≡ true → value ≡ capped (number_of (kept (take i word)))
    → Some (min (10 * unwrap_or value 0 + (get_or word i 0 - 48)) large) ≡ capped (number_of (kept (take (i + 1) word)))
number_more word i value within here digit all is =
    grind (arith, value_so_far, has_bytes-push, list_all-append, digits_value_after-push, nat_tests, kept-more)

-- a word is cut at one of its bytes, which is kept
pub kept-cut : (word : List ℕ) (i : ℕ) → i < length word → is_kept (get_or word i 0) ≡ true
    → kept word ≡ kept (take i word) ++ get_or word i 0 ∷ kept (drop (i + 1) word)
kept-cut word i within here =
    grind (arith, take-append-drop i word, filter-append is_kept (take i word) (drop i word), drop_more word i 0 within)

-- a word with a byte that is no digit is no number
pub not_number : (word : List ℕ) (i : ℕ) → i < length word → is_kept (get_or word i 0) ≡ true
    → is_ascii_digit (get_or word i 0) ≡ false → None ≡ capped (number_of (kept word))
not_number word i within here other = grind (arith, kept-cut word i within here, list_all-append is_ascii_digit)
