-- What the tests of strings and neighbourhoods say in words.
use Rattle.std.proofs.Common.{◌≡◌, ◌↔◌, ℕ, ◌*◌, ◌<◌, Bool, true, List, inl, inr, arith}
use Rattle.std.proofs.lemmas.Bool.{lt-ltb, ltb-true, or_cases, or_left, or_right, and_parts, and_from}
use Rattle.go_rules.specs.declared.Cell.{Cell}
use Rattle.go_rules.specs.Strings.{cell_at, is_stone, IsInString, start}
use Rattle.go_rules.specs.Neighbourhood.{whole_strings_of, neighbourhood_of, InWholeStrings, member, of_string}
use Rattle.go_rules.specs.Neighbourhood.{InNeighbourhood, inside, next_to}
use Rattle.go_rules.proofs.Counts.{any_below_gives, any_below_from}
use Rattle.go_rules.proofs.Paths.{path_on_board, IsInString-from_test, is_is_in_string-from_fact}
use Rattle.go_rules.proofs.Links.{path_same, path_on, path_back}

-- a stone is of its own string
pub string_itself : (s : ℕ) (cells : List Cell) (p : ℕ) → is_stone (cell_at cells p) ≡ true → IsInString s cells p p
string_itself s cells p stone = record { stone = stone; path = start }

-- if q is of the string of p, p is of the string of q
pub string_back_in_words : (s : ℕ) (cells : List Cell) (p q : ℕ) → p < s * s → IsInString s cells p q
    → IsInString s cells q p
string_back_in_words s cells p q on h = grind (arith, path_same, path_back)

-- what is of the string of a stone of the string of p is of the string of p
pub string_onward : (s : ℕ) (cells : List Cell) (p q r : ℕ) → IsInString s cells p q → IsInString s cells q r
    → IsInString s cells p r
string_onward s cells p q r h k = record { stone = h.stone; path = path_on s cells p q h.path k.path }

-- the stones of a string are of one colour
pub string_of_one_colour : (s : ℕ) (cells : List Cell) (p q : ℕ) → IsInString s cells p q
    → cell_at cells q ≡ cell_at cells p
string_of_one_colour s cells p q h = path_same s cells p h.path

-- what passes the test of whole strings is a point of the board
pub whole_strings_of-on_board : (s : ℕ) (cells : List Cell) (S : ℕ → Bool) (q : ℕ) → whole_strings_of s cells S q ≡ true
    → q < s * s
unfolding whole_strings_of
whole_strings_of-on_board s cells S q h = ltb-true q (s * s) (and_parts _ _ h).0

-- what passes the test of the neighbourhood is a point of the board
pub neighbourhood_of-on_board : (s : ℕ) (cells : List Cell) (S : ℕ → Bool) (q : ℕ) → neighbourhood_of s cells S q ≡ true
    → q < s * s
unfolding neighbourhood_of
neighbourhood_of-on_board s cells S q h = ltb-true q (s * s) (and_parts _ _ h).0

-- what belongs to the whole strings of a set is a point of the board
whole_on_board : (s : ℕ) (cells : List Cell) (S : ℕ → Bool) (q : ℕ) → InWholeStrings s cells S q → q < s * s
whole_on_board s cells S q (member on i) = on
whole_on_board s cells S q (of_string x on i h) = path_on_board s cells x on h.path

-- what belongs to the neighbourhood of a set is a point of the board
pub in_neighbourhood_on_board : (s : ℕ) (cells : List Cell) (S : ℕ → Bool) (q : ℕ) → InNeighbourhood s cells S q
    → q < s * s
in_neighbourhood_on_board s cells S q (inside w) = whole_on_board s cells S q w
in_neighbourhood_on_board s cells S q (next_to y on w n) = on

-- the test of whole strings gives the fact
whole_to : (s : ℕ) (cells : List Cell) (S : ℕ → Bool) (q : ℕ) → whole_strings_of s cells S q ≡ true
    → InWholeStrings s cells S q
unfolding whole_strings_of
whole_to s cells S q h =
    let parts = and_parts _ _ h in
    elim (or_cases _ _ parts.1) [
      | inl i ↦ member (ltb-true q (s * s) parts.0) i
      | inr i ↦
          let found = any_below_gives (s * s) _ i in
          let both = and_parts _ _ found.2 in
          of_string found.0 found.1 both.0 (IsInString-from_test s cells found.0 q both.1)
    ]

-- the fact of whole strings gives the test
whole_from : (s : ℕ) (cells : List Cell) (S : ℕ → Bool) (q : ℕ) → InWholeStrings s cells S q
    → whole_strings_of s cells S q ≡ true
unfolding whole_strings_of
whole_from s cells S q (member on i) = and_from _ _ (lt-ltb q (s * s) on) (or_left _ _ i)
whole_from s cells S q (of_string x on i h) =
    and_from _ _ (lt-ltb q (s * s) (path_on_board s cells x on h.path))
    (or_right _ _ (any_below_from (s * s) _ x on (and_from _ _ i (is_is_in_string-from_fact s cells x q on h))))

-- the test of the neighbourhood gives the fact
neighbourhood_to : (s : ℕ) (cells : List Cell) (S : ℕ → Bool) (q : ℕ) → neighbourhood_of s cells S q ≡ true
    → InNeighbourhood s cells S q
unfolding neighbourhood_of
neighbourhood_to s cells S q h =
    let parts = and_parts _ _ h in
    elim (or_cases _ _ parts.1) [
      | inl w ↦ inside (whole_to s cells S q w)
      | inr n ↦
          let found = any_below_gives (s * s) _ n in
          let both = and_parts _ _ found.2 in
          next_to found.0 (ltb-true q (s * s) parts.0) (whole_to s cells S found.0 both.0) both.1
    ]

-- the fact of the neighbourhood gives the test
neighbourhood_from : (s : ℕ) (cells : List Cell) (S : ℕ → Bool) (q : ℕ) → InNeighbourhood s cells S q
    → neighbourhood_of s cells S q ≡ true
unfolding neighbourhood_of
neighbourhood_from s cells S q (inside w) =
    and_from _ _ (lt-ltb q (s * s) (whole_on_board s cells S q w)) (or_left _ _ (whole_from s cells S q w))
neighbourhood_from s cells S q (next_to y on w n) =
    and_from _ _ (lt-ltb q (s * s) on)
    (or_right _ _ (any_below_from (s * s) _ y (whole_on_board s cells S y w)
    (and_from _ _ (whole_from s cells S y w) n)))

-- the test of the neighbourhood is the fact
pub neighbourhood_of-is : (s : ℕ) (cells : List Cell) (S : ℕ → Bool) (q : ℕ)
    → (neighbourhood_of s cells S q ≡ true) ↔ InNeighbourhood s cells S q
neighbourhood_of-is s cells S q = (neighbourhood_to s cells S q, neighbourhood_from s cells S q)
