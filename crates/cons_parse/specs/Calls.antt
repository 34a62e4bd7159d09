-- The items of tokens: a call, with its parentheses and arguments, is one item.
use Rattle.std.specs.Prelude.{ℕ, zero, suc, ◌+◌, Bool, true, false, List, [], ◌∷◌, Option, Some, None, if◌then◌else◌}
use Rattle.std.specs.Option.{option_map, option_and_then}
use Rattle.pat_types.specs.declared.expr.Arg.{Arg}
use Rattle.pat_types.specs.declared.expr.Arg.TheVariants.{Label, Star, Nowhere}
use Rattle.cons_parse.specs.declared.token.Token.{Token}
use Rattle.cons_parse.specs.declared.token.Token.TheVariants as token
use Rattle.cons_parse.specs.declared.token.Name.TheVariants.{Letter}
use Rattle.cons_parse.specs.declared.calls.Item.{Item}
use Rattle.cons_parse.specs.declared.calls.Item.TheVariants.{Number, Call, Operator, Bang, Open, Close}
use Rattle.cons_parse.specs.Tokens.{tokens_of}

-- an argument is one letter, `*` or `?`
abbrev pub arg_of : Token → Option Arg
arg_of (token.Called (Letter letter)) = Some (Label letter)
arg_of token.Asterisk = Some Star
arg_of token.Question = Some Nowhere
arg_of _ = None

-- the token is an opening parenthesis
abbrev pub is_open : Token → Bool
is_open token.Open = true
is_open _ = false

-- the token is a closing parenthesis
abbrev pub is_close : Token → Bool
is_close token.Close = true
is_close _ = false

-- the token is a comma
abbrev pub is_comma : Token → Bool
is_comma token.Comma = true
is_comma _ = false

-- the arguments that begin with a; u is the token behind a: a parenthesis ends the arguments, a comma goes on to more
abbrev pub with_next : Arg → Token → Option (List Arg × ℕ) → Option (List Arg × ℕ)
with_next a u more =
    if is_close u then Some (a ∷ [], 2) else if is_comma u then option_map (λ m. (a ∷ m.0, 2 + m.1)) more else None

-- the arguments that begin with a, if a is an argument; u is the token behind it
abbrev pub arg_before : Option Arg → Token → Option (List Arg × ℕ) → Option (List Arg × ℕ)
arg_before a u more = option_and_then (λ x. with_next x u more) a

-- one or more arguments with commas between them and a closing parenthesis, and how many tokens they take
unfoldable pub listed_at : List Token → Option (List Arg × ℕ)
listed_at [] = None
listed_at (t ∷ []) = None
listed_at (t ∷ u ∷ ts) = arg_before (arg_of t) u (listed_at ts)

-- the arguments of a call in their parentheses, and how many tokens they take
unfoldable pub arguments_at : List Token → Option (List Arg × ℕ)
arguments_at [] = None
arguments_at (t ∷ []) = None
arguments_at (t ∷ u ∷ ts) =
    if is_open t then
    (if is_close u then Some ([], 2) else option_map (λ m. (m.0, 1 + m.1)) (listed_at (u ∷ ts))) else None

-- the item that begins with a token, and how many of the tokens after it belong to it
abbrev pub item_at : Token → List Token → Option (Item × ℕ)
item_at (token.Number n) ts = Some (Number n, 0)
item_at (token.Called name) ts = option_map (λ m. (Call name m.0, m.1)) (arguments_at ts)
item_at (token.Operator op) ts = Some (Operator op, 0)
item_at token.Bang ts = Some (Bang, 0)
item_at token.Open ts = Some (Open, 0)
item_at token.Close ts = Some (Close, 0)
item_at _ ts = None

-- an item in front of other items
abbrev pub and_more : Item → Option (List Item) → Option (List Item)
and_more i rest = option_map (λ is. i ∷ is) rest

-- the items of these tokens; the first n tokens belong to the item before them
unfoldable pub items_after : ℕ → List Token → Option (List Item)
items_after n [] = Some []
items_after (suc n) (t ∷ ts) = items_after n ts
items_after zero (t ∷ ts) = option_and_then (λ i. and_more i.0 (items_after i.1 ts)) (item_at t ts)

-- the items of tokens, if they are made of items
abbrev pub items_of : List Token → Option (List Item)
items_of ts = items_after 0 ts

-- the items of a text
abbrev pub items_in : List ℕ → Option (List Item)
items_in text = option_and_then items_of (tokens_of text)
