-- What zones tell of the first move that succeeds.
use Rattle.std.proofs.Common.{◌≡◌, ◌∙◌, ℕ, ◌*◌, ◌<◌, ◌≤◌, ◌&&◌, Bool, true, false, not, Option, Some, None, cond}
use Rattle.std.proofs.Common.{refl, ap, arith}
use Rattle.std.proofs.lemmas.Bool.{cases_Bool, both_ways}
use Rattle.go_rules.specs.Position.{BoardState}
use Rattle.read_rules.specs.declared.node.Node.{Node}
use Rattle.read_rules.specs.declared.question.Spot.{Spot}
use Rattle.read_rules.specs.GameTree.{child_of, each_child}
use Rattle.read_rules.proofs.WinLemmas.{none_before}
use Rattle.sure_rules.specs.Nodes.{is_attackers}
use Rattle.sure_rules.specs.SureTree.{is_tried, surely_wins}
use Rattle.sure_rules.specs.SureAnswer.{surely_suits, surely_succeeds, pass_holds, first_sure, first_sure_move}
use Rattle.sure_rules.proofs.SureLemmas.{tried_on}
use Rattle.sure_rules.proofs.SureMoves.{first_sure-found, first_sure-none}
use Rattle.read_zones.proofs.TreeLemmas.{none_left}

-- a reply that fails does not suit the defender
fails_suits : (n : ℕ) (o : Option (Node × BoardState)) → each_child (surely_wins n) o ≡ true
    → surely_suits n false o ≡ false
fails_suits n None h = refl
fails_suits n (Some child) h = ap not h

-- The first move with n plies left after it.
module _ (n : ℕ) (node : Node) (pos : BoardState) where
  -- a reply of the defender that fails does not succeed
  pub reply_lost : (p : ℕ) → is_attackers node ≡ false → each_child (surely_wins n) (child_of node pos p) ≡ true
      → surely_succeeds n node pos p ≡ false
  reply_lost p turn fails = ap (λ b. surely_suits n b (child_of node pos p)) turn ∙ fails_suits n (child_of node pos p) fails

  -- A set of points that are tried, such that no other point that is tried succeeds.
  module _ (points : ℕ → Bool) (others : (q : ℕ) → is_tried node pos q ≡ true → points q ≡ false
      → surely_succeeds n node pos q ≡ false) where
    -- a point that does not succeed as one of the set does not succeed as one that is tried
    not_tried : (q : ℕ) → (points q && surely_succeeds n node pos q) ≡ false
        → (is_tried node pos q && surely_succeeds n node pos q) ≡ false
    not_tried q none = grind (arith, cases_Bool)

    -- the first point of the set that succeeds is the first that is tried and succeeds
    pub first_found : (from p : ℕ) → ((q : ℕ) → q < from → (points q && surely_succeeds n node pos q) ≡ false)
        → ((q : ℕ) → from ≤ q → q < p → points q ≡ false) → is_tried node pos p ≡ true
        → true ≡ surely_succeeds n node pos p → Some p ≡ first_sure n node pos
    first_found from p before between tried succeeds =
        grind (
          arith,
          first_sure-found n node pos p p (is_tried node pos),
          none_before points (surely_succeeds n node pos) from p before between,
          not_tried,
        )

    -- no point that is tried succeeds if none of the set does
    pub none_found : (from : ℕ) → ((q : ℕ) → q < from → (points q && surely_succeeds n node pos q) ≡ false)
        → ((q : ℕ) → from ≤ q → points q ≡ false) → None ≡ first_sure n node pos
    none_found from before left =
        grind (
          arith,
          first_sure-none n node pos (pos.size * pos.size) (is_tried node pos),
          none_left points (surely_succeeds n node pos) from before left,
          tried_on node pos,
          not_tried,
          cases_Bool,
        )
