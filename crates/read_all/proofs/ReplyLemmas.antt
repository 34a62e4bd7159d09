-- The reply at a node and after a play, by what the steps of the search for it tell.
use Rattle.std.proofs.Common.{◌≡◌, ◌≢◌, ◌∙◌, ℕ, zero, suc, ◌-◌, Option, None}
use Rattle.std.proofs.Common.{refl, sym, ap, arith}
use Rattle.std.specs.Option.{option_map}
use Rattle.go_rules.specs.Position.{BoardState}
use Rattle.read_rules.specs.declared.node.Node.{Node}
use Rattle.read_rules.specs.declared.question.Spot.{Spot}
use Rattle.read_rules.specs.GameTree.{first_move}
use Rattle.read_tree.specs.Nodes.{LeadsTo}
use Rattle.read_all.specs.Refutation.{first_reply, reply_at, reply_to}

-- without plies there is no reply
pub no_ply : (n : ℕ) (node : Node) (here : BoardState) → n ≡ 0 → None ≡ first_reply n node here
no_ply n node here e = rw e refl

-- with some the reply is the first move, with one ply less after it
pub some_plies : (n : ℕ) (node : Node) (here : BoardState) (reply : Option Spot) → n ≢ 0
    → reply ≡ first_move (n - 1) node here → reply ≡ first_reply n node here
some_plies zero node here reply some e = absurd (some refl)
some_plies (suc n) node here reply some e = grind arith

-- The mover's play at p, with n plies left after it.
module _ (n : ℕ) (node : Node) (here : BoardState) (p : ℕ) (new : BoardState) (child : Option Node)
    (leads : LeadsTo node here p child new) where
  -- it cannot be made
  pub reply_refused : child ≡ None → None ≡ reply_to n node here p
  reply_refused is =
      sym (ap (reply_at node.turn.attacker_to_play n) (leads ∙ ap (option_map (λ (m : Node). (m, new))) is))
