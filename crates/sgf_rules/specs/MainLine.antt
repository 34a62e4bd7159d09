-- The main line of a record as it is computed. Neighbouring tokens and the number of open trees show whether the tokens
-- begin with a tree; the main line is the nodes before the first `)`. The law `main_lines_are_of_first_trees` says that
-- this is what the grammar says.
use Rattle.std.specs.Prelude.{ℕ, zero, ◌+◌, ◌-◌, Bool, true, false, ◌&&◌, ◌||◌, List, [], ◌∷◌, Option, Some, None}
use Rattle.std.specs.Prelude.{if◌then◌else◌}
use Rattle.sgf_rules.specs.declared.token.TokenKind.{TokenKind}
use Rattle.sgf_rules.specs.declared.token.TokenKind.TheVariants as kind
use Rattle.sgf_rules.specs.Tokens.{Token, Open, Close, Semicolon, Name, Value, kind_of, record_tokens}
use Rattle.sgf_rules.specs.Trees.{Node}

-- in a tree a token of the second kind may follow a token of the first kind
abbrev pub may_follow : TokenKind → TokenKind → Bool
may_follow kind.Open kind.Semicolon = true
may_follow kind.Open _ = false
may_follow kind.Semicolon kind.Value = false
may_follow kind.Semicolon kind.Stray = false
may_follow kind.Semicolon _ = true
may_follow kind.Name kind.Value = true
may_follow kind.Name _ = false
may_follow kind.Value kind.Stray = false
may_follow kind.Value _ = true
may_follow kind.Close kind.Open = true
may_follow kind.Close kind.Close = true
may_follow kind.Close _ = false
may_follow kind.Stray _ = false

-- a token of this kind ends the first tree, if the token before it stands in n subtrees
abbrev pub ends_tree : TokenKind → ℕ → Bool
ends_tree kind.Close zero = true
ends_tree _ _ = false

-- in how many subtrees the next token stands
abbrev pub depth_after : TokenKind → ℕ → ℕ
depth_after kind.Open n = n + 1
depth_after kind.Close n = n - 1
depth_after _ n = n

-- the tokens after a token of this kind, which stands in n subtrees of a tree, go on to the end of that tree
unfoldable pub goes_to_end : TokenKind → ℕ → List Token → Bool
goes_to_end last n [] = false
goes_to_end last n (t ∷ ts) =
    may_follow last (kind_of t)
    && (ends_tree (kind_of t) n || goes_to_end (kind_of t) (depth_after (kind_of t) n) ts)

-- the tokens begin with a tree
abbrev pub begins_with_tree : List Token → Bool
begins_with_tree (Open ∷ ts) = goes_to_end kind.Open 0 ts
begins_with_tree _ = false

-- the values at the front of the tokens
abbrev pub values_in : List Token → List (List ℕ)
values_in (Value v ∷ ts) = v ∷ values_in ts
values_in _ = []

-- the properties at the front of the tokens; names without a value are left out
abbrev pub properties_in : List Token → Node
properties_in (Name name ∷ (Value v ∷ ts)) =
    record { name = name; value = v; more = values_in ts } ∷ properties_in ts
properties_in (Name name ∷ ts) = properties_in ts
properties_in (Value v ∷ ts) = properties_in ts
properties_in _ = []

-- the nodes before the first `)`
abbrev pub nodes_in : List Token → List Node
nodes_in [] = []
nodes_in (Close ∷ ts) = []
nodes_in (Semicolon ∷ ts) = properties_in ts ∷ nodes_in ts
nodes_in (_ ∷ ts) = nodes_in ts

-- the nodes of the main line, if the record begins with a tree
unfoldable pub main_line : List ℕ → Option (List Node)
main_line text = if begins_with_tree (record_tokens text) then Some (nodes_in (record_tokens text)) else None
