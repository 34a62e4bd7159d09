-- The rows of functions: how they are searched, and that each is found by its name.
use Rattle.std.proofs.Common.{◌≡◌, ℕ, Bool, true, false, ◌&&◌, not, nat_lt, List, [], ◌∷◌, length, map, Some}
use Rattle.std.proofs.Common.{refl, All, arith}
use Rattle.std.specs.Option.{option_map}
use Rattle.std.specs.List.{find, list_all}
use Rattle.std.specs.Str.{bytes_eq}
use Rattle.std.proofs.lemmas.Bool.{and_parts, not-true}
use Rattle.std.proofs.lemmas.List.Elements.{All-nil, All-cons, All-head, All-tail}
use Rattle.std.proofs.lemmas.Slice.Eq.{bytes_eq-Decides}
use Rattle.cons_parse.specs.declared.token.Name.TheVariants.{Known}
use Rattle.cons_parse.specs.FunctionNames.{FunctionRow, functions, function_in, function_named}
use Rattle.cons_parse.specs.Tokens.{known_as, name_of}

-- rows that are kept in another form have the function that a name has among them
pub find-seen : {X : Type 0} (seen : X → FunctionRow) (is : List ℕ → Bool) (xs : List X)
    → option_map (λ x. (seen x).function) (find (λ x. is (seen x).name) xs)
    ≡ option_map (λ r. r.function) (find (λ r. is r.name) (map seen xs))
find-seen seen is [] = refl
find-seen seen is (x ∷ xs) = grind (arith, find-seen seen is xs)

-- the row is found by its name among these
abbrev IsFoundIn : List FunctionRow → FunctionRow → Type 0
IsFoundIn rows r = function_in rows r.name ≡ Some r.function

-- the row's name is that of its function
abbrev IsNamed : FunctionRow → Type 0
IsNamed r = name_of r.name ≡ Known r.function

-- the second row has another name than the first
abbrev differs : FunctionRow → FunctionRow → Bool
differs row other = not (bytes_eq other.name row.name)

-- no two of the rows have one name
abbrev pub are_apart : List FunctionRow → Bool
are_apart [] = true
are_apart (row ∷ rows) = list_all (differs row) rows && are_apart rows

-- rows with other names than a first one are found behind it
behind_first : (row : FunctionRow) (all rows : List FunctionRow) → list_all (differs row) rows ≡ true
    → All (IsFoundIn all) rows → All (IsFoundIn (row ∷ all)) rows
behind_first row all [] apart found = All-nil (IsFoundIn (row ∷ all))
behind_first row all (r ∷ rows) apart found =
    let parts = and_parts (differs row r) (list_all (differs row) rows) apart in
    let other : bytes_eq r.name row.name ≡ false = not-true (bytes_eq r.name row.name) parts.0 in
    let first : IsFoundIn (row ∷ all) r = rw other (All-head (IsFoundIn all) r rows found) in
    All-cons (IsFoundIn (row ∷ all)) r rows first
    (behind_first row all rows parts.1 (All-tail (IsFoundIn all) r rows found))

-- if no two rows have one name, each is found by its own
pub found_apart : (rows : List FunctionRow) → are_apart rows ≡ true → All (IsFoundIn rows) rows
found_apart [] apart = All-nil (IsFoundIn [])
found_apart (row ∷ rows) apart = grind (arith, and_parts, bytes_eq-Decides, behind_first, found_apart rows)

-- the row's name has two bytes or more, so it is not taken for a label
abbrev pub is_long : FunctionRow → Bool
is_long row = nat_lt 1 (length row.name)

-- a name of two bytes or more is that of its function
long_name : (name : List ℕ) → nat_lt 1 (length name) ≡ true → name_of name ≡ known_as (function_named name)
long_name [] long = absurd cc
long_name (b ∷ []) long = absurd cc
long_name (b ∷ c ∷ bs) long = refl

-- rows with long names that are found are named so
pub named_long : (rows : List FunctionRow) → list_all is_long rows ≡ true → All (IsFoundIn functions) rows
    → All IsNamed rows
named_long [] long found = All-nil IsNamed
named_long (r ∷ rows) long found = grind (arith, and_parts, long_name, named_long rows)
