-- The tokens of a game record as they are cut from its bytes: names are as long as possible, and blanks are ignored.
-- The law `main_lines_are_of_first_trees` says that this is how trees are written.
use Rattle.std.specs.Prelude.{ℕ, zero, suc, ◌+◌, Bool, true, false, ◌&&◌, ◌||◌, not, ◌==◌, nat_le, nat_lt, List}
use Rattle.std.specs.Prelude.{[], ◌∷◌, length, take, drop, if◌then◌else◌}
use Rattle.std.specs.List.{filter, list_any, prefix_len, position_or_len}
use Rattle.sgf_rules.specs.Bytes.{open_byte, close_byte, semicolon, capital_a, capital_z, left_bracket, backslash}
use Rattle.sgf_rules.specs.Bytes.{right_bracket, small_a, small_z}
use Rattle.sgf_rules.specs.declared.token.TokenKind.{TokenKind}
use Rattle.sgf_rules.specs.declared.token.TokenKind.TheVariants as kind

-- the byte is a blank: one of 9 to 13, or a space
abbrev pub is_blank : ℕ → Bool
is_blank b = nat_le 9 b && nat_le b 13 || b == 32

-- the byte is a capital letter
abbrev pub is_capital : ℕ → Bool
is_capital b = nat_le capital_a b && nat_le b capital_z

-- the byte is an ASCII letter
abbrev pub is_letter : ℕ → Bool
is_letter b = is_capital b || nat_le small_a b && nat_le b small_z

-- the byte is `(`
abbrev pub is_open_byte : ℕ → Bool
is_open_byte b = b == open_byte

-- the byte is `]`
abbrev pub ends_value : ℕ → Bool
ends_value b = b == right_bracket

-- the byte is a backslash
abbrev pub is_backslash : ℕ → Bool
is_backslash b = b == backslash

-- a token: a sign, a name as its capitals, a value as the bytes that it says, or a byte that belongs to no token
pub data Token : Type 0 where
  Open : Token
  Close : Token
  Semicolon : Token
  Name : List ℕ → Token
  Value : List ℕ → Token
  Stray : Token

-- the kind of a token
abbrev pub kind_of : Token → TokenKind
kind_of Open = kind.Open
kind_of Close = kind.Close
kind_of Semicolon = kind.Semicolon
kind_of (Name name) = kind.Name
kind_of (Value bytes) = kind.Value
kind_of Stray = kind.Stray

-- how many bytes stand before the `]` that ends a value, or all of them if no `]` does; a backslash takes the next byte
-- as it is, and taken says that one takes the first byte so
abbrev pub value_len : Bool → List ℕ → ℕ
value_len taken [] = 0
value_len taken (b ∷ bs) =
    if not taken && ends_value b then 0 else suc (value_len (not taken && is_backslash b) bs)

-- the bytes that a value says: all bytes but the backslashes that take the next byte as it is
abbrev pub said : Bool → List ℕ → List ℕ
said taken [] = []
said taken (b ∷ bs) = if not taken && is_backslash b then said true bs else b ∷ said false bs

-- the token of this kind with these bytes, which are without the brackets of a value
abbrev pub token_of : TokenKind → List ℕ → Token
token_of kind.Open bytes = Open
token_of kind.Close bytes = Close
token_of kind.Semicolon bytes = Semicolon
token_of kind.Name bytes = Name (filter is_capital bytes)
token_of kind.Value bytes = Value (said false bytes)
token_of kind.Stray bytes = Stray

-- the token that letters make: a name if one of them is a capital, else a stray token
abbrev pub letters_token : List ℕ → Token
letters_token letters = if list_any is_capital letters then Name (filter is_capital letters) else Stray

-- the token of the letter b and the letters at the front of bs, and the number of those letters of bs
abbrev pub letters_at : ℕ → List ℕ → Token × ℕ
letters_at b bs = (letters_token (b ∷ take (prefix_len is_letter bs) bs), prefix_len is_letter bs)

-- the value after a `[`, and how many bytes of bs belong to it; a stray token of all bytes if no `]` ends the value
abbrev pub value_at : List ℕ → Token × ℕ
value_at bs =
    if nat_lt (value_len false bs) (length bs)
    then (Value (said false (take (value_len false bs) bs)), value_len false bs + 1)
    else (Stray, length bs)

-- the token that begins with the byte b and goes on with bs, and how many bytes of bs belong to it
unfoldable pub token_at : ℕ → List ℕ → Token × ℕ
token_at b bs =
    if is_open_byte b then (Open, 0)
    else if b == close_byte then (Close, 0)
    else if b == semicolon then (Semicolon, 0)
    else if b == left_bracket then value_at bs
    else if is_letter b then letters_at b bs
    else (Stray, 0)

-- the tokens of these bytes, whose first n bytes belong to the token before
unfoldable pub tokens_after : ℕ → List ℕ → List Token
tokens_after n [] = []
tokens_after (suc n) (b ∷ bs) = tokens_after n bs
tokens_after zero (b ∷ bs) =
    if is_blank b then tokens_after 0 bs else (token_at b bs).0 ∷ tokens_after (token_at b bs).1 bs

-- the tokens of a text
abbrev pub tokens_of : List ℕ → List Token
tokens_of text = tokens_after 0 text

-- the tokens of a record: the tokens of the text from its first `(` on
abbrev pub record_tokens : List ℕ → List Token
record_tokens text = tokens_of (drop (position_or_len is_open_byte text) text)
