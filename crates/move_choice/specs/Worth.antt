-- The worth of a pattern, which its author gives by an item of the colon line, as `value(20)`.
use Rattle.std.specs.Prelude.{◌≡◌, ℕ, ◌<◌, ◌≤◌, Bool, ◌&&◌, nat_lt, nat_le, List, ◌∷◌, ◌++◌, length, Option, Some, None}
use Rattle.std.specs.Prelude.{codes, slice_get, unwrap_or, All, if◌then◌else◌}
use Rattle.std.specs.List.{list_all, filter_map, AllPass}
use Rattle.std.specs.Char.{is_ascii_digit}
use Rattle.std.specs.Str.{bytes_eq}
use Rattle.std.specs.Str.Parse.{digits_value}
use Rattle.pat_types.specs.declared.pattern.Item.{Item}
use Rattle.pat_types.specs.declared.pattern.Pattern.{Pattern}

-- the most digits that a worth may have
abbrev pub most_digits : ℕ
most_digits = 6

-- whether the text is one to six digits
abbrev pub is_short_number : List ℕ → Bool
is_short_number text = nat_lt 0 (length text) && (nat_le (length text) most_digits && list_all is_ascii_digit text)

-- the number that a name and a text in parentheses say, if the name is `value` and the text is one to six digits
abbrev pub number_said : List ℕ → Option (List ℕ) → Option ℕ
number_said name None = None
number_said name (Some text) =
    if bytes_eq name (codes "value") && is_short_number text then Some (digits_value 10 text) else None

-- the number that an item says, if it says one
abbrev pub worth_said : Item → Option ℕ
worth_said item = number_said item.name item.text

-- the worth of the pattern: the number of its first item that is named `value` and whose text is one to six digits, and
-- 0 if there is none
unfoldable pub worth_of : Pattern → ℕ
worth_of pattern = unwrap_or (slice_get (filter_map worth_said pattern.items) 0) 0

-- the item says the number n: it is named `value`, and in its parentheses stand one to six digits, which write n
pub record SaysWorth (item : Item) (n : ℕ) : Type 0 where
  pub name : item.name ≡ codes "value"
  pub text : List ℕ
  pub in_parentheses : item.text ≡ Some text
  pub not_empty : 0 < length text
  pub few : length text ≤ most_digits
  pub digits : AllPass is_ascii_digit text
  pub number : n ≡ digits_value 10 text

-- the item says no number
abbrev pub SaysNothing : Item → Type 0
SaysNothing item = (n : ℕ) → ¬ SaysWorth item n

-- n is the number of the first of the items that says a number, or 0 if no item does
pub data IsWorth (items : List Item) (n : ℕ) : Type 0 where
  said : (before : List Item) (item : Item) (after : List Item) → items ≡ before ++ item ∷ after
      → All SaysNothing before → SaysWorth item n → IsWorth items n
  unsaid : All SaysNothing items → n ≡ 0 → IsWorth items n
