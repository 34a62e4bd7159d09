-- Moves of a game about a node's target are plays at the node.
use Rattle.std.proofs.Common.{◌≡◌, ℕ, ◌-◌, ◌*◌, ◌<◌, Bool, true, false, not, cond, refl, sym, ap, subst, ◌∙◌, inl, inr}
use Rattle.std.proofs.Common.{arith}
use Rattle.go_rules.specs.declared.Colour.{Colour}
use Rattle.go_rules.specs.declared.Colour.TheVariants.{Black, White}
use Rattle.go_rules.specs.Position.{BoardState, other}
use Rattle.go_rules.specs.Play.{pass}
use Rattle.read_rules.specs.declared.node.Node.{Node}
use Rattle.read_rules.specs.declared.question.Spot.TheVariants.{At, Pass}
use Rattle.read_rules.specs.GameTree.{allowance_of, next_node}
use Rattle.read_rules.specs.Rules.{IsChild}
use Rattle.sure_rules.specs.Nodes.{defender_of, target_of}
use Rattle.sure_rules.specs.Defences.{Standing, turned, IsMove, passes, plays, ignores_the_ban, standing_at}

-- where two sides stand
abbrev stood : BoardState → Colour → ℕ → ℕ → Standing
stood board colour own others = record {
  board = board;
  to_play = colour;
  allowance = own;
  other_allowance = others;
}

-- the two sides after a move, by whose turn it was
sides : (attacker : Bool) (defender : Colour) (a d left : ℕ) (new : BoardState)
    → stood new (cond (not attacker) (other defender) defender)
    (cond (not attacker) (cond attacker left a) (cond attacker d left))
    (cond (not attacker) (cond attacker d left) (cond attacker left a))
    ≡ stood new (other (cond attacker (other defender) defender)) (cond attacker d a) left
sides true Black a d left new = refl
sides true White a d left new = refl
sides false Black a d left new = refl
sides false White a d left new = refl

-- where the two sides stand after a move is where they stand at the next node
pub stands_next : (node : Node) (pos new : BoardState) (left : ℕ)
    → standing_at (next_node node left) new ≡ turned (standing_at node pos) new left
stands_next node pos new left = grind (arith, sides)

-- a play that can be made at a node is a move from where the two sides stand
pub child_is_move : (node : Node) (pos : BoardState) (p : ℕ) (next : Node) (new : BoardState) → p < pos.size * pos.size
    → IsChild node pos p next new → IsMove (standing_at node pos) (At p) (standing_at next new)
child_is_move node pos p next new on (inl w) =
    subst (IsMove (standing_at node pos) (At p))
    (sym (ap (λ (m : Node). standing_at m new) w.next_is ∙ stands_next node pos new (allowance_of node)))
    (plays p new on w.legal)
child_is_move node pos p next new on (inr w) =
    subst (IsMove (standing_at node pos) (At p))
    (sym (ap (λ (m : Node). standing_at m new) w.next_is ∙ stands_next node pos new (allowance_of node - 1)))
    (ignores_the_ban p new on w.banned w.free w.some_left)

-- a child is about the same string of the same colour, in the same tree
pub child_target : (node : Node) (pos : BoardState) (p : ℕ) (next : Node) (new : BoardState) → IsChild node pos p next new
    → (target_of next ≡ target_of node) × (defender_of next ≡ defender_of node)
    × (next.turn.tree ≡ node.turn.tree)
child_target node pos p next new (inl w) = grind arith
child_target node pos p next new (inr w) = grind arith

-- no colour is its other
other_differs : (c : Colour) → other c ≡ c → ⊥
other_differs Black e = cc
other_differs White e = cc

-- whose turn it is, by the colour that is to play
pub attackers_by : (attacker : Bool) (d : Colour) → cond attacker (other d) d ≡ other d → attacker ≡ true
attackers_by true d e = refl
attackers_by false d e = absurd (other_differs d (sym e))

-- the same of the defender
pub defenders_by : (attacker : Bool) (d : Colour) → cond attacker (other d) d ≡ d → attacker ≡ false
defenders_by true d e = absurd (other_differs d e)
defenders_by false d e = refl

-- a play that may be made at a node leads to where the two sides stand at its child
pub moved_child : (node : Node) (pos : BoardState) (p : ℕ) (there : Standing) → IsMove (standing_at node pos) (At p) there
    → (next : Node) × (new : BoardState) × IsChild node pos p next new × (there ≡ standing_at next new)
    × (p < pos.size * pos.size)
moved_child node pos p there (plays q new on legal) = (
  next_node node (allowance_of node),
  new,
  inl (record { legal = legal; next_is = refl }),
  sym (stands_next node pos new (allowance_of node)),
  on,
)
moved_child node pos p there (ignores_the_ban q new on banned free some) = (
  next_node node (allowance_of node - 1),
  new,
  inr (record { banned = banned; free = free; some_left = some; next_is = refl }),
  sym (stands_next node pos new (allowance_of node - 1)),
  on,
)

-- a pass leads to where they stand at the next node
pub moved_pass : (node : Node) (pos : BoardState) (there : Standing) → IsMove (standing_at node pos) Pass there
    → there ≡ standing_at (next_node node (allowance_of node)) (pass pos)
moved_pass node pos there passes = sym (stands_next node pos (pass pos) (allowance_of node))
