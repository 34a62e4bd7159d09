-- The colon line: a mark, class letters, and further fields.
use Rattle.std.specs.Prelude.{ℕ, ◌+◌, ◌-◌, Bool, false, ◌&&◌, ◌||◌, not, ◌==◌, nat_lt, nat_le, List, [], ◌∷◌, length}
use Rattle.std.specs.Prelude.{take, drop, map, filter, slice_index, slice_get, Option, Some, None, is_none, unwrap_or}
use Rattle.std.specs.Prelude.{if◌then◌else◌, codes}
use Rattle.std.specs.List.{list_any, list_all, position_or_len}
use Rattle.std.specs.Str.{bytes_eq}
use Rattle.pat_types.specs.declared.mark.Mark.{Mark}
use Rattle.pat_types.specs.declared.mark.Mark.TheVariants.{Eight, Bar, Dash, Slash, Backslash, Plus, Ex, Oh}
use Rattle.pat_types.specs.declared.pattern.Item.{Item}
use Rattle.db_rules.specs.Diagram.{star_count}
use Rattle.db_lex.specs.Lines.{trimmed, with_front}
use Rattle.db_rules.specs.declared.kind.FaultKind.{FaultKind}
use Rattle.db_rules.specs.declared.kind.FaultKind.TheVariants.{NoDiagram, MoveCount, BadMark, BadClass, BadItem}
use Rattle.db_rules.specs.declared.kind.FaultKind.TheVariants.{UnknownHelper}
use Rattle.db_rules.specs.Kinds.{first_of}
use Rattle.db_rules.specs.Diagram.{has_row, letters_of}

-- the byte between two fields
abbrev pub comma : ℕ
comma = 44

-- the byte that opens the text of a further field
abbrev pub open_paren : ℕ
open_paren = 40

-- the byte that closes the text of a further field
abbrev pub close_paren : ℕ
close_paren = 41

-- the byte that stands for no class
abbrev pub dash : ℕ
dash = 45

-- the byte that a name may have besides letters and digits
abbrev pub underscore : ℕ
underscore = 95

-- the byte is a letter from `A` to `Z` or from `a` to `z`
abbrev pub is_ascii_letter : ℕ → Bool
is_ascii_letter b = nat_le 65 b && nat_le b 90 || nat_le 97 b && nat_le b 122

-- the byte is a digit
abbrev pub is_digit : ℕ → Bool
is_digit b = nat_le 48 b && nat_le b 57

-- the number of open parentheses after a byte; a closing one that closes nothing leaves 0
abbrev pub depth_after : ℕ → ℕ → ℕ
depth_after depth b = if b == open_paren then depth + 1 else if b == close_paren then depth - 1 else depth

-- the parts between the commas that stand outside parentheses, if depth parentheses are open at the front
unfoldable pub split_at_commas : ℕ → List ℕ → List (List ℕ)
split_at_commas depth [] = [] ∷ []
split_at_commas depth (b ∷ bs) =
    if b == comma
    && depth == 0 then [] ∷ split_at_commas 0 bs else with_front b (split_at_commas (depth_after depth b) bs)

-- the fields of a colon line: the parts of the text after `:`, without the blanks at their ends
abbrev pub fields_of : List ℕ → List (List ℕ)
fields_of line = map trimmed (split_at_commas 0 (drop 1 line))

-- the mark that this byte stands for: `8 | - / \ + X O`
abbrev pub mark_by_byte : ℕ → Option Mark
mark_by_byte b =
    if b == 56 then Some Eight else if b == 124 then Some Bar else if b == 45 then Some Dash else if b == 47 then Some
    Slash else if b == 92 then Some Backslash else if b == 43 then Some Plus else if b == 88 then Some Ex else if b ==
    79 then Some Oh else None

-- the mark in the first field, if that field is a mark
abbrev pub mark_of : List (List ℕ) → Option Mark
mark_of [] = None
mark_of ([] ∷ more) = None
mark_of ((b ∷ []) ∷ more) = mark_by_byte b
mark_of ((b ∷ c ∷ bs) ∷ more) = None

-- the second field, or nothing if it is missing
abbrev pub class_field : List (List ℕ) → List ℕ
class_field fields = unwrap_or (slice_get fields 1) []

-- the byte may stand in the second field
abbrev pub is_class_byte : ℕ → Bool
is_class_byte b = is_ascii_letter b || b == dash

-- the second field is at most 32 bytes of ASCII letters and `-`
abbrev pub are_classes : List ℕ → Bool
are_classes field = nat_le (length field) 32 && list_all is_class_byte field

-- the class letters of the second field, without `-`
abbrev pub class_letters : List ℕ → List ℕ
class_letters field = filter (λ b. not (b == dash)) field

-- the fields after the second
abbrev pub further : List (List ℕ) → List (List ℕ)
further fields = drop 2 fields

-- the byte may stand in a name behind its first byte
abbrev pub is_name_byte : ℕ → Bool
is_name_byte b = is_ascii_letter b || is_digit b || b == underscore

-- the field is a name: an ASCII letter and up to 63 letters, digits or `_`
abbrev pub is_name : List ℕ → Bool
is_name [] = false
is_name (b ∷ bs) = is_ascii_letter b && list_all is_name_byte bs && nat_le (length bs) 63

-- the front of a field up to its first opening parenthesis
abbrev pub name_part : List ℕ → List ℕ
name_part field = take (position_or_len (λ b. b == open_paren) field) field

-- what follows the first opening parenthesis, or nothing
abbrev pub after_open : List ℕ → List ℕ
after_open field = drop (position_or_len (λ b. b == open_paren) field + 1) field

-- the byte may stand in the text of a field
abbrev pub is_text_byte : ℕ → Bool
is_text_byte b = nat_lt b 128 && not (b == open_paren) && not (b == close_paren)

-- the rest of a field is a text without parentheses and then the closing parenthesis
abbrev pub is_closed_text : List ℕ → Bool
is_closed_text rest =
    slice_index rest (length rest - 1) == close_paren && list_all is_text_byte (take (length rest - 1) rest)

-- the field is an item: a name, or a name with a text in parentheses that ends the field
abbrev pub is_item : List ℕ → Bool
is_item field = is_name field || is_name (name_part field) && is_closed_text (after_open field)

-- the item that a field is: a name alone, or a name with a text
abbrev pub item_of : List ℕ → Item
item_of field =
    if is_name field then record { name = field; text = None } else record {
      name = name_part field;
      text =
          Some (take (length (after_open field) - 1) (after_open field));
    }

-- the name that stands for no helper and tests nothing
abbrev pub null : List ℕ
null = codes "NULL"

-- the field is a name, but neither `NULL` nor one of the names of the helpers
abbrev pub names_nothing : List (List ℕ) → List ℕ → Bool
names_nothing helpers field = is_name field && not (bytes_eq field null || list_any (bytes_eq field) helpers)

-- the first fault of a colon line with these fields that stands after this diagram
unfoldable pub fields_fault : List (List ℕ) → List (List ℕ) → List (List ℕ) → Option FaultKind
fields_fault helpers diagram fields = first_of (
    (not (has_row diagram), NoDiagram)
    ∷ (not (star_count (letters_of diagram) == 1), MoveCount)
    ∷ (is_none (mark_of fields), BadMark)
    ∷ (not (are_classes (class_field fields)), BadClass)
    ∷ (nat_lt 16 (length (further fields)) || not (list_all is_item (further fields)), BadItem)
    ∷ (list_any (names_nothing helpers) (further fields), UnknownHelper)
    ∷ [])

-- the first fault of a colon line that stands after this diagram
abbrev pub colon_fault : List (List ℕ) → List (List ℕ) → List ℕ → Option FaultKind
colon_fault helpers diagram line = fields_fault helpers diagram (fields_of line)
