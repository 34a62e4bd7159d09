-- The grammar of game records: trees of nodes, the tokens that spell them, and the main line of a tree.
use Rattle.std.specs.Prelude.{ℕ, List, [], ◌∷◌, ◌++◌, map}
use Rattle.std.specs.List.{flat_map}
use Rattle.sgf_rules.specs.Tokens.{Token, Open, Close, Semicolon, Name, Value}

-- a property: its name without small letters, and its values, of which there is at least one
pub record Property : Type 0 where
  pub name : List ℕ
  pub value : List ℕ
  pub more : List (List ℕ)

-- a node: its properties in order
abbrev pub Node : Type 0
Node = List Property

-- a game tree: its nodes, of which there is at least one, and then its subtrees
mutual
  pub data Tree : Type 0 where
    tree : Node → List Node → Trees → Tree

  pub data Trees : Type 0 where
    none : Trees
    before : Tree → Trees → Trees

-- the tokens of values
abbrev pub spelled_values : List (List ℕ) → List Token
spelled_values values = map (λ v. Value v) values

-- the tokens of a property
abbrev pub spelled_property : Property → List Token
spelled_property p = Name p.name ∷ Value p.value ∷ spelled_values p.more

-- the tokens of a node
abbrev pub spelled_node : Node → List Token
spelled_node n = Semicolon ∷ flat_map spelled_property n

-- the tokens of a tree, and of trees one after another
abbrev mutual
  pub spelled_tree : Tree → List Token
  spelled_tree (tree n ns ts) = Open ∷ (flat_map spelled_node (n ∷ ns) ++ (spelled_trees ts ++ Close ∷ []))

  pub spelled_trees : Trees → List Token
  spelled_trees none = []
  spelled_trees (before t ts) = spelled_tree t ++ spelled_trees ts

-- the main line of a tree: its nodes, and then the main line of its first subtree, if it has one
abbrev mutual
  pub line_of_tree : Tree → List Node
  line_of_tree (tree n ns ts) = (n ∷ ns) ++ line_of_first ts

  pub line_of_first : Trees → List Node
  line_of_first none = []
  line_of_first (before t ts) = line_of_tree t
