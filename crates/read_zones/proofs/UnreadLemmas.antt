-- The replies of the defender that the zone of his pass does not ask for: each fails as the pass does.
use Rattle.std.proofs.Common.{◌≡◌, ◌≢◌, ◌∙◌, ℕ, ◌-◌, ◌*◌, ◌<◌, ◌≤◌, Bool, true, false, not, Option, Some, None, Ok}
use Rattle.std.proofs.Common.{refl, sym, ap, subst, arith, inl, inr, set, ◌&&◌, eqb}
use Rattle.std.proofs.lemmas.Bool.{both_ways, cases_Bool, and_parts, eqb-true}
use Rattle.go_rules.specs.declared.Cell.TheVariants.{Empty}
use Rattle.go_rules.specs.declared.Colour.{Colour}
use Rattle.go_rules.specs.Position.{BoardState, IsPosition, stone_of, is_banned, same_colour}
use Rattle.go_rules.specs.Play.{play_free, pass}
use Rattle.go_rules.specs.Rules.{IsCaptured}
use Rattle.go_rules.proofs.BanLaws.{ban_means, ban_parts}
use Rattle.go_rules.proofs.PlayLaws.{done_state, free_keeps, others_stay, play_done}
use Rattle.go_rules.proofs.Plays.{at_put_other}
use Rattle.read_rules.specs.ActiveArea.{AgreeOn}
use Rattle.read_rules.specs.declared.node.Node.{Node}
use Rattle.read_rules.specs.GameTree.{allowance_of, next_node, child_of, each_child}
use Rattle.read_rules.specs.Turns.{mover_of}
use Rattle.read_rules.specs.Rules.{IsChild}
use Rattle.read_rules.proofs.LibertyLemmas.{play_size}
use Rattle.read_rules.proofs.RuleLemmas.{child_gives}
use Rattle.sure_rules.specs.Nodes.{is_attackers}
use Rattle.sure_rules.specs.SureTree.{surely_wins}
use Rattle.sure_rules.specs.Zones.{points_of, IsZone}
use Rattle.sure_rules.proofs.StayLemmas.{stays_sure, no_harder-refl}
use Rattle.sure_rules.proofs.ZoneLemmas.{captured_at_last}
use Rattle.sure_proof.specs.Alike.{IsGuarded}

-- a ban that lies elsewhere forbids nothing here
not_banned : (ban : Option (ℕ × Colour)) (c : Colour) (q : ℕ) → ((r : ℕ) (k : Colour) → ban ≡ Some (r, k) → r ≢ q)
    → is_banned ban c q ≡ false
not_banned None c q elsewhere = refl
not_banned (Some b) c q elsewhere = elim (cases_Bool (eqb b.0 q && same_colour b.1 c)) [
  | inl t ↦ absurd (elsewhere b.0 b.1 refl (eqb-true b.0 q (and_parts (eqb b.0 q) (same_colour b.1 c) t).0))
  | inr f ↦ f
]

-- A reply that is not read, where the zone of the pass and the replies that it asks for are known.
module _ (n : ℕ) (node : Node) (pos : BoardState) (passed replies : ℕ → Bool) (sound : IsPosition pos)
    (turn : is_attackers node ≡ false) (zone : IsZone n (next_node node (allowance_of node)) (pass pos) passed)
    (on_board : (q : ℕ) → passed q ≡ true → q < pos.size * pos.size) (guarded : IsGuarded node passed pos replies)
    (p : ℕ) (on : p < pos.size * pos.size) (unread : replies p ≡ false) where
  -- The position after it.
  module _ (new : BoardState) (played : play_free pos (mover_of node.turn) p ≡ Ok new) where
    -- it is not played at a point of the zone
    elsewhere : (q : ℕ) → passed q ≡ true → q ≢ p
    elsewhere q inside e = grind (arith, done_state, both_ways)

    -- it captures no stone of the zone
    takes_none : (q : ℕ) → passed q ≡ true
        → IsCaptured pos.size (set pos.cells p (stone_of (mover_of node.turn))) (mover_of node.turn) q → ⊥
    takes_none q inside captured =
        both_ways (replies p) unread (guarded.last_liberties q p inside
        (sym (at_put_other pos.cells p q (stone_of (mover_of node.turn)) (elsewhere q inside)) ∙ captured.enemy)
        (captured_at_last pos (mover_of node.turn) p new sound on played q (on_board q inside) captured))

    -- so it leads to a position that agrees on the zone with that after the pass
    after_reply : AgreeOn (points_of passed) (pass pos) new
    after_reply = record {
      sizes = sym (play_size pos (mover_of node.turn) p new played);
      cells = grind (arith, others_stay pos (mover_of node.turn) p new, elsewhere, takes_none);
      bans = λ q c inside. sym (not_banned new.ban c q (λ r k ban e.
          takes_none q inside (subst (IsCaptured pos.size (set pos.cells p (stone_of (mover_of node.turn))) (mover_of node.turn))
          e (ban_means pos (mover_of node.turn) p new on played r
          (ban ∙ ap (λ (x : Colour). Some (r, x)) (ban_parts pos (mover_of node.turn) p new on played r k ban).0)).taken)));
    }

    -- and it fails as the pass does
    fails : (left : ℕ) → left ≤ allowance_of node → surely_wins n (next_node node left) new ≡ true
    fails left less = grind (arith, stays_sure, no_harder-refl, both_ways, free_keeps, after_reply)

  -- the child of the reply is surely captured
  child_fails : (next : Node) (new : BoardState) → IsChild node pos p next new → surely_wins n next new ≡ true
  child_fails next new child = elim child [
    | inl legal ↦ ap (λ (m : Node). surely_wins n m new) legal.next_is
        ∙ fails new (play_done pos (mover_of node.turn) p new legal.legal) (allowance_of node) (omega arith)
    | inr allowed ↦ ap (λ (m : Node). surely_wins n m new) allowed.next_is
        ∙ fails new allowed.free (allowance_of node - 1) (omega arith)
  ]

  -- the reply fails
  pub unread_fails : each_child (surely_wins n) (child_of node pos p) ≡ true
  unread_fails = by (child_of node pos p) refl
    where
      by : (o : Option (Node × BoardState)) → child_of node pos p ≡ o → each_child (surely_wins n) o ≡ true
      by None is = refl
      by (Some child) is = child_fails child.0 child.1 (child_gives node pos p child.0 child.1 is)
