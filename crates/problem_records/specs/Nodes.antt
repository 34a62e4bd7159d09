-- The first node of a record, and its values with the names of their properties.
use Rattle.std.specs.Prelude.{ℕ, ◌+◌, Bool, false, List, [], ◌∷◌, ◌++◌, map, if◌then◌else◌, codes}
use Rattle.std.specs.List.{filter, flat_map}
use Rattle.std.specs.Str.{bytes_eq}
use Rattle.sgf_rules.specs.Tokens.{is_capital, said, record_tokens}
use Rattle.sgf_rules.specs.Trees.{Node}
use Rattle.sgf_rules.specs.MainLine.{nodes_in}
use Rattle.problem_records.specs.declared.node.NamedValue.{NamedValue}

-- the first of these nodes, or a node without properties if there is none
abbrev pub first_of : List Node → Node
first_of [] = []
first_of (n ∷ ns) = n

-- the first node of a record
abbrev pub first_node : List ℕ → Node
first_node text = first_of (nodes_in (record_tokens text))

-- the name of a property, and one of its values
abbrev pub Named : Type 0
Named = List ℕ × List ℕ

-- each of the values with the name of its property
abbrev pub under_name : List ℕ → List (List ℕ) → List Named
under_name name values = map (λ v. (name, v)) values

-- the values of a node in order, each with the name of its property
abbrev pub named_values : Node → List Named
named_values n = flat_map (λ p. under_name p.name (p.value ∷ p.more)) n

-- the value belongs to a property of this name
abbrev pub has_name : List ℕ → Named → Bool
has_name name v = bytes_eq v.0 name

-- the byte that ends a line
abbrev pub line_feed : ℕ
line_feed = 10

-- the comment of a node with these values: each value of C, with a line feed behind it
abbrev pub comment_of : List Named → List ℕ
comment_of [] = []
comment_of (v ∷ vs) = if has_name (codes "C") v then v.1 ++ (line_feed ∷ comment_of vs) else comment_of vs

-- a value as it was cut from a record: the capitals of its property's name, and the bytes that it says
abbrev pub shown : NamedValue → Named
shown v = (filter is_capital v.name.now, said false v.value.now)

-- values as they were cut from a record
abbrev pub all_shown : List NamedValue → List Named
all_shown vs = map shown vs
