-- The walk over the moves of a node: what a play and the pass tell of the first move that succeeds.
use Rattle.std.proofs.Common.{◌≡◌, ◌∙◌, ℕ, Bool, true, false, not, ◌&&◌, ap, sym, cond, Option, None, Some}
use Rattle.std.specs.Option.{option_map}
use mathlib.Core.Bool.{beq}
use Rattle.go_rules.specs.Position.{BoardState}
use Rattle.go_rules.specs.Play.{pass}
use Rattle.read_rules.specs.declared.node.Node.{Node}
use Rattle.read_rules.specs.declared.question.Spot.{Spot}
use Rattle.read_rules.specs.declared.question.Spot.TheVariants.{Pass}
use Rattle.read_rules.specs.GameTree.{child_of, next_node, allowance_of, at_point}
use Rattle.read_rules.specs.GoodMoves.{is_barred}
use Rattle.read_tree.specs.Steps.{has_way}
use Rattle.read_tree.specs.Nodes.{LeadsTo}
use Rattle.read_tree.proofs.NodeLemmas.{way_by}
use Rattle.sure_rules.specs.SureTree.{surely_wins}
use Rattle.sure_rules.specs.SureAnswer.{surely_suits, surely_succeeds, pass_holds, first_sure, first_sure_move, sure_move}

-- a child that is there suits its mover as its outcome does
suits_child : (n : ℕ) (attacker : Bool) (o : Option (Node × BoardState)) (next : Node) (new : BoardState)
    → o ≡ Some (next, new) → has_way attacker (surely_wins n next new) ≡ surely_suits n attacker o
suits_child n true o next new e = sym (ap (surely_suits n true) e)
suits_child n false o next new e = sym (ap (surely_suits n false) e)

-- a play that cannot be made suits no side
suits_none : (n : ℕ) (attacker : Bool) (o : Option (Node × BoardState)) → o ≡ None
    → surely_suits n attacker o ≡ false
suits_none n true o e = ap (surely_suits n true) e
suits_none n false o e = ap (surely_suits n false) e

-- The first move with n plies left after it.
module _ (n : ℕ) (node : Node) (here : BoardState) where
  -- a play that is made succeeds if its child's outcome is what the mover wants
  pub play_made : (p : ℕ) (next : Node) (new : BoardState) (child : Option Node) (won : Bool)
      → LeadsTo node here p child new → child ≡ Some next → won ≡ surely_wins n next new
      → beq won node.turn.attacker_to_play ≡ surely_succeeds n node here p
  play_made p next new child won leads is e =
      way_by node.turn.attacker_to_play won ∙ ap (has_way node.turn.attacker_to_play) e
      ∙ suits_child n node.turn.attacker_to_play (child_of node here p) next new
      (leads ∙ ap (option_map (λ (m : Node). (m, new))) is)

  -- one that cannot be made does not
  pub play_refused : (p : ℕ) (new : BoardState) (child : Option Node) → LeadsTo node here p child new → child ≡ None
      → false ≡ surely_succeeds n node here p
  play_refused p new child leads is =
      sym (suits_none n node.turn.attacker_to_play (child_of node here p)
      (leads ∙ ap (option_map (λ (m : Node). (m, new))) is))

  -- the attacker does not pass
  pub no_pass : node.turn.attacker_to_play ≡ true → false ≡ pass_holds n node here
  no_pass e = sym (ap (λ b. not b && not (surely_wins n (next_node node (allowance_of node)) (pass here))) e)

  -- the defender's pass holds if after it the target is not surely captured
  pub pass_made : (won : Bool) → node.turn.attacker_to_play ≡ false
      → won ≡ surely_wins n (next_node node (allowance_of node)) (pass here) → not won ≡ pass_holds n node here
  pass_made won e is =
      ap not is ∙ sym (ap (λ b. not b && not (surely_wins n (next_node node (allowance_of node)) (pass here))) e)

  -- the pass comes first
  pub first_pass : true ≡ pass_holds n node here → Some Pass ≡ first_sure_move n node here
  first_pass e = ap (λ b. cond b (Some Pass) (at_point (first_sure n node here))) e

  -- else the first move is the first point
  pub first_point : (found : Option ℕ) → false ≡ pass_holds n node here → found ≡ first_sure n node here
      → at_point found ≡ first_sure_move n node here
  first_point found e is = ap at_point is ∙ ap (λ b. cond b (Some Pass) (at_point (first_sure n node here))) e

  -- an attacker who is barred has no move
  pub move_barred : true ≡ is_barred node here → None ≡ sure_move n node here
  move_barred e = ap (λ b. cond b None (first_sure_move n node here)) e

  -- else the first move is his
  pub move_first : (found : Option Spot) → false ≡ is_barred node here → found ≡ first_sure_move n node here
      → found ≡ sure_move n node here
  move_first found e is = is ∙ ap (λ b. cond b None (first_sure_move n node here)) e
