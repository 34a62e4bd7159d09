-- The tokens of an expression, each as long as possible, with blanks between them.
use Rattle.std.specs.Prelude.{ℕ, zero, suc, ◌+◌, ◌-◌, ◌*◌, Bool, ◌&&◌, ◌||◌, ◌==◌, nat_le, nat_lt, List, [], ◌∷◌, take}
use Rattle.std.specs.Prelude.{Option, Some, None, if◌then◌else◌}
use Rattle.std.specs.List.{prefix_len}
use Rattle.std.specs.Option.{option_map, option_and_then}
use Rattle.db_lex.specs.Lines.{is_blank}
use Rattle.pat_types.specs.declared.expr.Op.TheVariants.{Or, And, Eq, Ne, Lt, Le, Gt, Ge, Add, Sub}
use Rattle.pat_types.specs.declared.expr.Function.{Function}
use Rattle.cons_parse.specs.FunctionNames.{function_named}
use Rattle.cons_parse.specs.declared.token.Token.{Token}
use Rattle.cons_parse.specs.declared.token.Token.TheVariants.{Number, Called, Operator, Bang, Open, Close, Comma}
use Rattle.cons_parse.specs.declared.token.Token.TheVariants.{Asterisk, Question}
use Rattle.cons_parse.specs.declared.token.Name.{Name}
use Rattle.cons_parse.specs.declared.token.Name.TheVariants.{Letter, Known, Unknown}

-- the byte is an ASCII letter
abbrev pub is_letter : ℕ → Bool
is_letter b = nat_le 65 b && nat_le b 90 || nat_le 97 b && nat_le b 122

-- the byte is a digit
abbrev pub is_digit : ℕ → Bool
is_digit b = nat_le 48 b && nat_le b 57

-- the byte may stand in a name: a letter, a digit or `_`
abbrev pub is_name_byte : ℕ → Bool
is_name_byte b = is_letter b || is_digit b || b == 95

-- the number that is written by the digits of n and then these digits
abbrev pub value_after : ℕ → List ℕ → ℕ
value_after n [] = n
value_after n (d ∷ ds) = value_after (n * 10 + (d - 48)) ds

-- the number that digits write
abbrev pub value_of : List ℕ → ℕ
value_of digits = value_after 0 digits

-- the name of this function, or an unknown name if there is no function
abbrev pub known_as : Option Function → Name
known_as (Some f) = Known f
known_as None = Unknown

-- the name that these bytes spell
abbrev pub name_of : List ℕ → Name
name_of [] = Unknown
name_of (b ∷ []) = Letter b
name_of (b ∷ c ∷ bs) = known_as (function_named (b ∷ c ∷ bs))

-- the token that the two bytes b and c spell, if there is one
abbrev pub two_at : ℕ → ℕ → Option Token
two_at b c =
    if b == 124 && c == 124 then Some (Operator Or)
    else if b == 38 && c == 38 then Some (Operator And)
    else if b == 61 && c == 61 then Some (Operator Eq)
    else if b == 33 && c == 61 then Some (Operator Ne)
    else if b == 60 && c == 61 then Some (Operator Le)
    else if b == 62 && c == 61 then Some (Operator Ge)
    else None

-- the token that the byte b alone spells, if there is one
abbrev pub one_at : ℕ → Option Token
one_at b =
    if b == 60 then Some (Operator Lt)
    else if b == 62 then Some (Operator Gt)
    else if b == 43 then Some (Operator Add)
    else if b == 45 then Some (Operator Sub)
    else if b == 33 then Some Bang
    else if b == 40 then Some Open
    else if b == 41 then Some Close
    else if b == 44 then Some Comma
    else if b == 42 then Some Asterisk
    else if b == 63 then Some Question
    else None

-- a token, if there is one, and how many bytes follow its first
abbrev pub with_more : ℕ → Option Token → Option (Token × ℕ)
with_more n t = option_map (λ token. (token, n)) t

-- the longer of two tokens that may begin at a place, or the shorter one if there is no longer one
abbrev pub or_shorter : Option (Token × ℕ) → Option (Token × ℕ) → Option (Token × ℕ)
or_shorter (Some t) shorter = Some t
or_shorter None shorter = shorter

-- the token of two bytes that begins with b, or else the token of the byte b alone
abbrev pub sign_at : ℕ → List ℕ → Option (Token × ℕ)
sign_at b [] = with_more 0 (one_at b)
sign_at b (c ∷ bs) = or_shorter (with_more 1 (two_at b c)) (with_more 0 (one_at b))

-- the number of n + 1 digits that begins here; it has at most six
abbrev pub number_at : ℕ → List ℕ → Option (Token × ℕ)
number_at n bs = if nat_lt 5 n then None else Some (Number (value_of (take (n + 1) bs)), n)

-- the longest token that begins with the byte b and goes on with bs, and how many bytes of bs it takes
unfoldable pub token_at : ℕ → List ℕ → Option (Token × ℕ)
token_at b bs =
    if is_digit b then number_at (prefix_len is_digit bs) (b ∷ bs)
    else if is_letter b then Some
    (Called (name_of (take (prefix_len is_name_byte bs + 1) (b ∷ bs))), prefix_len is_name_byte bs)
    else sign_at b bs

-- a token in front of other tokens
abbrev pub and_more : Token → Option (List Token) → Option (List Token)
and_more t rest = option_map (λ ts. t ∷ ts) rest

-- the tokens of these bytes; the first n bytes belong to the token before them
unfoldable pub tokens_after : ℕ → List ℕ → Option (List Token)
tokens_after n [] = Some []
tokens_after (suc n) (b ∷ bs) = tokens_after n bs
tokens_after zero (b ∷ bs) =
    if is_blank b then tokens_after 0 bs else option_and_then (λ t. and_more t.0 (tokens_after t.1 bs)) (token_at b bs)

-- the tokens of a text, if it is made of tokens and blanks
abbrev pub tokens_of : List ℕ → Option (List Token)
tokens_of text = tokens_after 0 text

-- the longest sign at the front of these bytes
abbrev pub first_sign : List ℕ → Option (Token × ℕ)
first_sign [] = None
first_sign (b ∷ bs) = sign_at b bs

-- the longest token at the front of these bytes
abbrev pub first_token : List ℕ → Option (Token × ℕ)
first_token [] = None
first_token (b ∷ bs) = token_at b bs
