-- Steps over the values of a node and over nodes.
use Rattle.std.proofs.Common.{◌≡◌, ◌↔◌, ℕ, ◌*◌, true, false, List, [], ◌∷◌, ◌++◌, Option, Some, None}
use Rattle.std.proofs.Common.{Ok, Err, IsSome, IfSome, refl, sym, ap, ◌∙◌, arith, take}
use Rattle.std.specs.List.{list_all, list_any, flat_map}
use Rattle.go_rules.specs.declared.Cell.{Cell}
use Rattle.go_rules.specs.Board.{IsSize}
use Rattle.go_rules.specs.Position.{BoardState}
use Rattle.go_rules.specs.Replay.{empty_board}
use Rattle.go_base.specs.declared.view.Flat.{Flat}
use Rattle.go_base.specs.Positions.{Holds}
use Rattle.sgf_rules.specs.declared.kind.FaultKind.{FaultKind}
use Rattle.sgf_rules.specs.declared.kind.FaultKind.TheVariants.{Grammar, BadSize, BadValue}
use Rattle.sgf_rules.specs.declared.meaning.Meaning.{Meaning}
use Rattle.sgf_rules.specs.declared.meaning.Meaning.TheVariants.{Size, Setup, Play}
use Rattle.sgf_rules.specs.Tokens.{Token, Open, Close, Semicolon, Name, Value, Stray, record_tokens}
use Rattle.sgf_rules.specs.Trees.{Node}
use Rattle.sgf_rules.specs.MainLine.{values_in, properties_in, nodes_in, begins_with_tree, main_line}
use Rattle.sgf_rules.specs.Uses.{Use, meaning_of, uses_under, uses_in, uses_in_property}
use Rattle.sgf_rules.specs.Points.{size_of}
use Rattle.sgf_rules.specs.Game.{size_among, size_of_nodes, usual_size, is_readable, is_setup, cells_after_use}
use Rattle.sgf_rules.specs.Game.{cells_after_uses, position_with, after_setup, after_use, after_uses}
use Rattle.sgf_rules.specs.Game.{after_node, after_nodes, game_on, game_of}
use Rattle.sgf_rules.specs.FirstNode.{first_alone, first_position_of}
use Rattle.sgf_read.specs.Reads.{tokens_from, uses_from, uses_at, IsFirstNode}

-- no value, no use
under_none : (m : Option Meaning) → uses_under m [] ≡ []
under_none None = refl
under_none (Some m) = refl

-- a value in front of others
under_more : (m : Option Meaning) (v : List ℕ) (values : List (List ℕ)) (us rest : List Use)
    → us ≡ uses_under m values ++ rest → uses_under m (v ∷ []) ++ us ≡ uses_under m (v ∷ values) ++ rest
under_more None v values us rest e = e
under_more (Some m) v values us rest e = ap (λ us. (m, v) ∷ us) e

-- the values that are used from a place on are those at the front and those of the properties
uses_all : (m : Option Meaning) (ts : List Token)
    → uses_from m ts ≡ uses_under m (values_in ts) ++ flat_map uses_in_property (properties_in ts)
uses_all m [] = sym (ap (λ us. us ++ []) (under_none m))
uses_all m (Open ∷ ts) = sym (ap (λ us. us ++ []) (under_none m))
uses_all m (Close ∷ ts) = sym (ap (λ us. us ++ []) (under_none m))
uses_all m (Semicolon ∷ ts) = sym (ap (λ us. us ++ []) (under_none m))
uses_all m (Stray ∷ ts) = sym (ap (λ us. us ++ []) (under_none m))
uses_all m (Value v ∷ ts) = grind (arith, under_more, uses_all m ts)
uses_all m (Name name ∷ []) = sym (ap (λ us. us ++ []) (under_none m))
uses_all m (Name name ∷ (Value v ∷ ts)) = grind (arith, under_none, uses_all (meaning_of name) (Value v ∷ ts))
uses_all m (Name name ∷ (Name other ∷ ts)) = grind (arith, under_none, uses_all (meaning_of name) (Name other ∷ ts))
uses_all m (Name name ∷ (Open ∷ ts)) = sym (ap (λ us. us ++ []) (under_none m))
uses_all m (Name name ∷ (Close ∷ ts)) = sym (ap (λ us. us ++ []) (under_none m))
uses_all m (Name name ∷ (Semicolon ∷ ts)) = sym (ap (λ us. us ++ []) (under_none m))
uses_all m (Name name ∷ (Stray ∷ ts)) = sym (ap (λ us. us ++ []) (under_none m))

-- the values that are used in a node, read token by token
pub uses_of_node : (ts : List Token) → uses_from None ts ≡ uses_in (properties_in ts)
uses_of_node ts = uses_all None ts

-- the first SZ says the size
pub size_here : (us rest : List Use) (m : Meaning) (v : List ℕ) → us ≡ (m, v) ∷ rest → m ≡ Size
    → size_of v ≡ size_among us
unfolding size_among
size_here us rest m v e is = sym (ap size_among (e ∙ ap (λ m. (m, v) ∷ rest) is))

-- another value does not
size_past : (m : Meaning) (v : List ℕ) (rest : List Use) → (m ≡ Size → ⊥) → size_among ((m, v) ∷ rest) ≡ size_among rest
unfolding size_among
size_past Size v rest ne = absurd (ne refl)
size_past (Setup cell) v rest ne = refl
size_past (Play c) v rest ne = refl

-- a size behind it may
pub size_later : (us rest : List Use) (m : Meaning) (v : List ℕ) → us ≡ (m, v) ∷ rest → (m ≡ Size → ⊥)
    → size_among rest ≡ size_among us
size_later us rest m v e ne = sym (ap size_among e ∙ size_past m v rest ne)

-- a size that a board may have
some_size : (r : Option ℕ) (n : ℕ) → IsSome r → IfSome r (λ s. s ≡ n) → r ≡ Some n
some_size None n h e = absurd (cc)
some_size (Some s) n h e = ap (λ s. Some s) e

-- without SZ the size is the usual one
pub size_usual : (r : Option ℕ) → IsSome r ↔ IsSize usual_size → IfSome r (λ s. s ≡ usual_size) → r ≡ Some usual_size
size_usual r valid value = grind (arith, some_size)

-- so it is where no value is left
pub size_none : (us : List Use) → us ≡ [] → size_among us ≡ Some usual_size
unfolding size_among
size_none us e = ap size_among e

-- the first node says the size
pub size_at_first : (text : List ℕ) (at next : ℕ) → IsFirstNode text at next
    → size_among (uses_at text next) ≡ size_of_nodes (nodes_in (tokens_from text at))
size_at_first text at next h = grind (arith, uses_of_node)

-- one value more is set
pub set_step : (s : ℕ) (cells new : List Cell) (us rest : List Use) (u : Use) → us ≡ u ∷ rest
    → new ≡ cells_after_use s cells u → cells_after_uses s new rest ≡ cells_after_uses s cells us
unfolding cells_after_uses
set_step s cells new us rest u e is = grind arith

-- and none is left
pub set_end : (s : ℕ) (cells : List Cell) (us : List Use) → us ≡ [] → cells_after_uses s cells us ≡ cells
unfolding cells_after_uses
set_end s cells us e = ap (cells_after_uses s cells) e

-- a node with setup leads to the position with its cells
pub setup_made : (pos : BoardState) (us : List Use) (s points : ℕ) (board : Flat) (cells : List Cell)
    → list_any is_setup us ≡ true → s ≡ pos.size → points ≡ s * s → Holds pos board
    → cells ≡ cells_after_uses s (take points board.cells) us → position_with s cells ≡ after_setup pos us
setup_made pos us s points board cells some e p h is = grind arith

-- one move more is played
pub play_step : (pos next : BoardState) (us rest : List Use) (u : Use) → us ≡ u ∷ rest → after_use pos u ≡ Ok next
    → after_uses next rest ≡ after_uses pos us
unfolding after_uses
play_step pos next us rest u e is = grind arith

-- or refused
pub play_stops : (pos : BoardState) (us rest : List Use) (u : Use) (kind : FaultKind) → us ≡ u ∷ rest
    → after_use pos u ≡ Err kind → after_uses pos us ≡ Err kind
unfolding after_uses
play_stops pos us rest u kind e is = grind arith

-- no move is left
pub play_end : (pos : BoardState) (us : List Use) → us ≡ [] → after_uses pos us ≡ Ok pos
unfolding after_uses
play_end pos us e = ap (after_uses pos) e

-- a node without a value that is used leaves the position
pub node_idle : (pos : BoardState) (us : List Use) → us ≡ [] → after_node pos us ≡ Ok pos
unfolding after_node after_uses
node_idle pos us e = ap (after_node pos) e

-- a value of a node is not what it should be
pub node_unread : (pos : BoardState) (us : List Use) → list_all (is_readable pos.size) us ≡ false
    → after_node pos us ≡ Err BadValue
unfolding after_node
node_unread pos us e = rw e refl

-- a string has no liberty after the setup
pub node_dead : (pos : BoardState) (us : List Use) (kind : FaultKind) → list_all (is_readable pos.size) us ≡ true
    → after_setup pos us ≡ Err kind → after_node pos us ≡ Err kind
unfolding after_node
node_dead pos us kind e d = rw (e, d) refl

-- the moves are played after the setup
pub node_played : (pos next : BoardState) (us : List Use) → list_all (is_readable pos.size) us ≡ true
    → after_setup pos us ≡ Ok next → after_uses next us ≡ after_node pos us
unfolding after_node
node_played pos next us e d = rw (e, d) refl

-- one node more
pub nodes_step : (pos : BoardState) (nodes more : List Node) (n : Node) (us : List Use) (next : BoardState)
    → nodes ≡ n ∷ more → us ≡ uses_in n → after_node pos us ≡ Ok next → after_nodes next more ≡ after_nodes pos nodes
unfolding after_nodes
nodes_step pos nodes more n us next e uses is = grind arith

-- a node with a fault
pub nodes_stop : (pos : BoardState) (nodes more : List Node) (n : Node) (us : List Use) (kind : FaultKind)
    → nodes ≡ n ∷ more → us ≡ uses_in n → after_node pos us ≡ Err kind → Err kind ≡ after_nodes pos nodes
unfolding after_nodes
nodes_stop pos nodes more n us kind e uses is = grind arith

-- no node is left
pub nodes_end : (pos : BoardState) (nodes : List Node) → nodes ≡ [] → Ok pos ≡ after_nodes pos nodes
unfolding after_nodes
nodes_end pos nodes e = sym (ap (after_nodes pos) e)

-- a text that begins with no tree
pub game_none : (text : List ℕ) → begins_with_tree (record_tokens text) ≡ false → Err Grammar ≡ game_of text
unfolding game_of main_line
game_none text e = rw e refl

-- a text that begins with a tree
pub game_some : (text : List ℕ) → begins_with_tree (record_tokens text) ≡ true
    → game_of text ≡ game_on (size_of_nodes (nodes_in (record_tokens text))) (nodes_in (record_tokens text))
unfolding game_of main_line
game_some text e = rw e refl

-- a record whose size is none
pub game_unsized : (text : List ℕ) (ts : List Token) → ts ≡ record_tokens text → begins_with_tree ts ≡ true
    → None ≡ size_of_nodes (nodes_in ts) → Err BadSize ≡ game_of text
game_unsized text ts e tree none = grind (arith, game_some)

-- a record whose nodes are played from the empty board
pub game_played : (text : List ℕ) (ts : List Token) (s : ℕ) (pos : BoardState) → ts ≡ record_tokens text
    → begins_with_tree ts ≡ true → Some s ≡ size_of_nodes (nodes_in ts) → pos ≡ empty_board s
    → after_nodes pos (nodes_in ts) ≡ game_of text
game_played text ts s pos e tree some is = grind (arith, game_some)

-- of nodes the first alone is gone through
pub first_step : (pos : BoardState) (nodes more : List Node) (n : Node) (us : List Use) (next : BoardState)
    → nodes ≡ n ∷ more → us ≡ uses_in n → after_node pos us ≡ Ok next → Ok next ≡ after_nodes pos (first_alone nodes)
unfolding after_nodes
first_step pos nodes more n us next e uses is = grind arith

-- or it has a fault
pub first_stop : (pos : BoardState) (nodes more : List Node) (n : Node) (us : List Use) (kind : FaultKind)
    → nodes ≡ n ∷ more → us ≡ uses_in n → after_node pos us ≡ Err kind
    → Err kind ≡ after_nodes pos (first_alone nodes)
unfolding after_nodes
first_stop pos nodes more n us kind e uses is = grind arith

-- without a node nothing is done
pub first_none : (pos : BoardState) (nodes : List Node) → nodes ≡ [] → Ok pos ≡ after_nodes pos (first_alone nodes)
unfolding after_nodes
first_none pos nodes e = sym (ap (λ nodes. after_nodes pos (first_alone nodes)) e)

-- the size of nodes is that of the first alone
first_size : (nodes : List Node) → size_of_nodes (first_alone nodes) ≡ size_of_nodes nodes
first_size [] = refl
first_size (n ∷ ns) = refl

-- the first node of a text that begins with no tree
pub first_without_tree : (text : List ℕ) → begins_with_tree (record_tokens text) ≡ false
    → Err Grammar ≡ first_position_of text
unfolding first_position_of main_line
first_without_tree text e = rw e refl

-- the first node of a text that begins with a tree
first_some : (text : List ℕ) → begins_with_tree (record_tokens text) ≡ true
    → first_position_of text
    ≡ game_on (size_of_nodes (nodes_in (record_tokens text))) (first_alone (nodes_in (record_tokens text)))
unfolding first_position_of main_line
first_some text e = grind (arith, first_size)

-- the first node of a record whose size is none
pub first_unsized : (text : List ℕ) (ts : List Token) → ts ≡ record_tokens text → begins_with_tree ts ≡ true
    → None ≡ size_of_nodes (nodes_in ts) → Err BadSize ≡ first_position_of text
first_unsized text ts e tree none = grind (arith, first_some)

-- a first node that is gone through from the empty board
pub first_played : (text : List ℕ) (ts : List Token) (s : ℕ) (pos : BoardState) → ts ≡ record_tokens text
    → begins_with_tree ts ≡ true → Some s ≡ size_of_nodes (nodes_in ts) → pos ≡ empty_board s
    → after_nodes pos (first_alone (nodes_in ts)) ≡ first_position_of text
first_played text ts s pos e tree some is = grind (arith, first_some)
