-- A tree is read back from the tokens that spell it, from the last to the first: so two trees are spelled alike only
-- where they are the same.
use Rattle.std.proofs.Common.{◌≡◌, ℕ, List, [], ◌∷◌, ◌++◌, refl, sym, ap, ◌∙◌, append_assoc, arith}
use Rattle.std.specs.List.{flat_map}
use Rattle.sgf_rules.specs.Tokens.{Token, Open, Close, Semicolon, Name, Value, Stray}
use Rattle.sgf_rules.specs.Trees.{Node, Tree, tree, Trees, none, before, spelled_values, spelled_property}
use Rattle.sgf_rules.specs.Trees.{spelled_node, spelled_tree, spelled_trees}
use Rattle.sgf_rules.proofs.SpelledWalks.{tree_apart}

-- what was read from the end so far: values, properties and nodes that wait for what stands before them, and the trees
-- that stand behind one another in each tree that is not opened yet, the innermost first
pub record Waiting : Type 0 where
  pub values : List (List ℕ)
  pub properties : Node
  pub nodes : List Node
  pub trees : List Trees

-- the trees that wait innermost
abbrev innermost : List Trees → Trees
innermost [] = none
innermost (us ∷ more) = us

-- those that wait around them
abbrev around : List Trees → List Trees
around [] = []
around (us ∷ more) = more

-- a name takes the values that wait
abbrev with_name : List ℕ → List (List ℕ) → Node → Node
with_name name [] ps = ps
with_name name (v ∷ vs) ps = record { name = name; value = v; more = vs } ∷ ps

-- `(` takes the nodes and the innermost trees
abbrev with_tree : List Node → List Trees → List Trees
with_tree [] trees = trees
with_tree (n ∷ ns) trees = before (tree n ns (innermost trees)) (innermost (around trees)) ∷ around (around trees)

-- what waits before a token
abbrev read_before : Token → Waiting → Waiting
read_before Open w = record { values = []; properties = []; nodes = []; trees = with_tree w.nodes w.trees }
read_before Close w = record { values = []; properties = []; nodes = []; trees = none ∷ w.trees }
read_before Semicolon w =
    record { values = []; properties = []; nodes = w.properties ∷ w.nodes; trees = w.trees }
read_before (Name name) w =
    record { values = []; properties = with_name name w.values w.properties; nodes = w.nodes; trees = w.trees }
read_before (Value v) w =
    record { values = v ∷ w.values; properties = w.properties; nodes = w.nodes; trees = w.trees }
read_before Stray w = w

-- what waits before all tokens
abbrev pub read_back : List Token → Waiting
read_back [] = record { values = []; properties = []; nodes = []; trees = [] }
read_back (t ∷ ts) = read_before t (read_back ts)

-- these wait
abbrev waiting : List (List ℕ) → Node → List Node → List Trees → Waiting
waiting values ps nodes trees = record { values = values; properties = ps; nodes = nodes; trees = trees }

-- values in front of others
back_values : (vs : List (List ℕ)) (rest : List Token) (ps : Node) (ns : List Node) (us : List Trees)
    → read_back rest ≡ waiting [] ps ns us → read_back (spelled_values vs ++ rest) ≡ waiting vs ps ns us
back_values [] rest ps ns us e = e
back_values (v ∷ vs) rest ps ns us e = ap (read_before (Value v)) (back_values vs rest ps ns us e)

-- properties
back_properties : (ps : Node) (rest : List Token) (ns : List Node) (us : List Trees)
    → read_back rest ≡ waiting [] [] ns us → read_back (flat_map spelled_property ps ++ rest) ≡ waiting [] ps ns us
back_properties [] rest ns us e = e
back_properties (p ∷ ps) rest ns us e =
    let more = flat_map spelled_property ps ++ rest in
    ap read_back (append_assoc (spelled_property p) (flat_map spelled_property ps) rest)
    ∙ ap (λ w. read_before (Name p.name) (read_before (Value p.value) w))
    (back_values p.more more ps ns us (back_properties ps rest ns us e))

-- nodes
back_nodes : (ns : List Node) (rest : List Token) (us : List Trees)
    → read_back rest ≡ waiting [] [] [] us → read_back (flat_map spelled_node ns ++ rest) ≡ waiting [] [] ns us
back_nodes [] rest us e = e
back_nodes (n ∷ ns) rest us e =
    grind (
      arith,
      append_assoc (spelled_node n) (flat_map spelled_node ns) rest,
      back_properties n (flat_map spelled_node ns ++ rest) ns us (back_nodes ns rest us e),
      back_nodes ns rest us e,
    )

mutual
  -- a tree waits in front of the trees behind it
  pub back_tree : (t : Tree) (rest : List Token) → read_back (spelled_tree t ++ rest)
      ≡ waiting [] [] [] (before t (innermost (read_back rest).trees) ∷ around (read_back rest).trees)
  back_tree (tree n ns us) rest =
      ap read_back (tree_apart n ns us rest)
      ∙ ap (read_before Open)
      (back_nodes (n ∷ ns) (spelled_trees us ++ Close ∷ rest) (us ∷ (read_back rest).trees) (back_trees us rest))

  -- trees in front of the `)` of the tree that they stand in
  back_trees : (us : Trees) (rest : List Token)
      → read_back (spelled_trees us ++ Close ∷ rest) ≡ waiting [] [] [] (us ∷ (read_back rest).trees)
  back_trees none rest = refl
  back_trees (before t us) rest =
      ap read_back (append_assoc (spelled_tree t) (spelled_trees us) (Close ∷ rest))
      ∙ (back_tree t (spelled_trees us ++ Close ∷ rest)
      ∙ ap (λ (w : Waiting). waiting [] [] [] (before t (innermost w.trees) ∷ around w.trees)) (back_trees us rest))

-- tokens begin with at most one tree
pub one_tree : (t u : Tree) (rest later : List Token) → spelled_tree t ++ rest ≡ spelled_tree u ++ later → t ≡ u
one_tree t u rest later e =
    let same = sym (back_tree t rest) ∙ (ap read_back e ∙ back_tree u later) in
    let trees = ap (λ (w : Waiting). w.trees) same in
    cc
