-- A lone stone that was just taken may be taken back: when it is lone, and when it is surely captured.
use Rattle.std.proofs.Common.{◌≡◌, ◌≢◌, ◌∙◌, ◌⊎◌, ℕ, zero, suc, ◌-◌, Bool, true, false, not, Option, Some, None}
use Rattle.std.proofs.Common.{is_some, refl, sym, ap, arith, inl, inr}
use Rattle.std.proofs.lemmas.Bool.{and_parts, not-true}
use Rattle.go_rules.specs.Position.{BoardState, other}
use Rattle.read_rules.specs.declared.node.Node.{Node}
use Rattle.read_rules.specs.GameTree.{is_walled_in, has_lost_one_stone, child_of, can_play, each_child}
use Rattle.read_rules.proofs.WinLemmas.{some_or_none}
use Rattle.read_tree.proofs.TakingLemmas.{back_none, back_is}
use Rattle.sure_rules.specs.Nodes.{is_attackers, is_gone, target_of}
use Rattle.sure_rules.specs.SureTree.{surely_wins}
use Rattle.sure_rules.specs.SureAnswer.{surely_suits, surely_succeeds}
use Rattle.sure_rules.proofs.SureLemmas.{sure-captured, sure-none_left, sure-taken_back}

-- no stone was lost where the target stands
pub lost_standing : (node : Node) (pos : BoardState) → is_gone node pos ≡ false → has_lost_one_stone node pos ≡ false
lost_standing node pos e = grind arith

-- a target that is taken is surely captured, if the defender has not just lost a lone stone
pub sure_for_good : (n : ℕ) (node : Node) (pos : BoardState) → is_gone node pos ≡ true
    → has_lost_one_stone node pos ≡ false → surely_wins n node pos ≡ true
sure_for_good n node pos gone e = sure-captured n node pos gone (back_none node pos e)

-- The defender has just lost a lone stone.
module _ (node : Node) (pos : BoardState) (lone : has_lost_one_stone node pos ≡ true) where
  -- its point is empty
  pub lone_gone : is_gone node pos ≡ true
  lone_gone = (and_parts _ _ (and_parts _ _ lone).0).1

  -- each neighbour of the point holds a stone of the attacker
  pub lone_walled : is_walled_in pos.size pos.cells (target_of node) (other node.turn.defender) ≡ true
  lone_walled = (and_parts _ _ lone).1

  -- it is his turn
  pub lone_turn : is_attackers node ≡ false
  lone_turn = not-true _ (and_parts _ _ (and_parts _ _ (and_parts _ _ lone).0).0).1

  -- with no ply left the target is surely captured if he cannot take back
  pub sure_left : (n : ℕ) → n ≡ 0 → surely_wins n node pos ≡ not (can_play node pos (target_of node))
  sure_left n e = ap (λ m. surely_wins m node pos) e ∙ by (some_or_none (child_of node pos (target_of node)))
    where
      by : ((child_of node pos (target_of node) ≡ None)
          ⊎ ((child : Node × BoardState) × (child_of node pos (target_of node) ≡ Some child)))
          → surely_wins 0 node pos ≡ not (can_play node pos (target_of node))
      by (inl none) = sure-captured 0 node pos lone_gone (back_is node pos lone ∙ none)
          ∙ sym (ap (λ o. not (is_some o)) none)
      by (inr some) = sure-none_left node pos some.0 (back_is node pos lone ∙ some.1)
          ∙ sym (ap (λ o. not (is_some o)) some.1)

  -- with a ply left, if it is surely captured where he takes back, or he cannot
  pub sure_back : (n : ℕ) → n ≢ 0
      → surely_wins n node pos ≡ each_child (surely_wins (n - 1)) (child_of node pos (target_of node))
  sure_back zero ne = absurd (ne refl)
  sure_back (suc n) ne =
      let less : suc n - 1 ≡ n = omega arith in
      by (some_or_none (child_of node pos (target_of node)))
      ∙ sym (ap (λ m. each_child (surely_wins m) (child_of node pos (target_of node))) less)
    where
      by : ((child_of node pos (target_of node) ≡ None)
          ⊎ ((child : Node × BoardState) × (child_of node pos (target_of node) ≡ Some child)))
          → surely_wins (suc n) node pos ≡ each_child (surely_wins n) (child_of node pos (target_of node))
      by (inl none) = sure-captured (suc n) node pos lone_gone (back_is node pos lone ∙ none)
          ∙ sym (ap (each_child (surely_wins n)) none)
      by (inr some) = sure-taken_back n node pos some.0 lone_gone (back_is node pos lone ∙ some.1)
          ∙ sym (ap (each_child (surely_wins n)) some.1)

  -- that is, if the play that takes back does not succeed
  pub sure_read : (n : ℕ) → n ≢ 0 → not (surely_succeeds (n - 1) node pos (target_of node)) ≡ surely_wins n node pos
  sure_read n ne =
      ap (λ b. not (surely_suits (n - 1) b (child_of node pos (target_of node)))) lone_turn
      ∙ by (child_of node pos (target_of node)) ∙ sym (sure_back n ne)
    where
      twice : (b : Bool) → not (not b) ≡ b
      twice true = refl
      twice false = refl

      by : (o : Option (Node × BoardState)) → not (surely_suits (n - 1) false o) ≡ each_child (surely_wins (n - 1)) o
      by None = refl
      by (Some child) = twice (surely_wins (n - 1) child.0 child.1)
