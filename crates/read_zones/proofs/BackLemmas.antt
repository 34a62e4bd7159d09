-- The zones of a target that is taken, by what shows whether a lone stone is taken back.
use Rattle.std.proofs.Common.{◌≡◌, ◌≢◌, ◌∙◌, ℕ, ◌-◌, Bool, true, false, not, Option, Some, None, ap, arith}
use Rattle.std.specs.Prelude.{MatchOption, IsTrue}
use Rattle.std.specs.FinSet as sets
use Rattle.std.specs.Ordering.{nat_cmp}
use Rattle.go_rules.specs.Position.{BoardState}
use Rattle.read_rules.specs.declared.node.Node.{Node}
use Rattle.read_rules.specs.GameTree.{has_lost_one_stone, child_of, can_play, each_child}
use Rattle.sure_rules.specs.Nodes.{is_gone, target_of}
use Rattle.sure_rules.specs.SureTree.{surely_wins}
use Rattle.sure_rules.specs.Zones.{WhereverAgrees, IsZone}
use Rattle.read_sure.proofs.LossLemmas.{sure_for_good, sure_left, sure_back}
use Rattle.sure_proof.specs.Alike.{AreAlikeChildren}
use Rattle.read_zones.proofs.TreeLemmas.{agree_less}

-- a play that cannot be made cannot be made wherever it looks the same
pub refused_shown : (node : Node) (p : ℕ) (pos : BoardState) (after Z : ℕ → Bool) → child_of node pos p ≡ None
    → WhereverAgrees pos Z (λ here. AreAlikeChildren after (child_of node pos p) (child_of node here p))
    → WhereverAgrees pos Z (λ here. can_play node here p ≡ false)
refused_shown node p pos after Z is shown = grind arith

-- an answer that tells this tells what follows from it
answer_gives : (A B : Type 0) (P Q : sets.FinSet nat_cmp → Type 0) (o : Option (sets.FinSet nat_cmp)) → (A → B)
    → ((zone : sets.FinSet nat_cmp) → P zone → Q zone) → MatchOption o A P → MatchOption o B Q
answer_gives A B P Q None none some a = none a
answer_gives A B P Q (Some zone) none some p = some zone p

-- on every position that agrees on Z, a lone stone that the defender has just lost is surely captured
abbrev LossIsSure : ℕ → Node → BoardState → (ℕ → Bool) → Type 0
LossIsSure n node pos Z =
    WhereverAgrees pos Z (λ here. has_lost_one_stone node here ≡ true → surely_wins n node here ≡ true)

-- The defender has just lost a lone stone.
module _ (n : ℕ) (node : Node) (pos : BoardState) (lone : has_lost_one_stone node pos ≡ true)
    (o : Option (sets.FinSet nat_cmp)) where
  -- with no ply left it is surely captured by what shows that he cannot play there
  pub back_refused : n ≡ 0 → MatchOption o (can_play node pos (target_of node) ≡ true)
      (λ zone. WhereverAgrees pos (sets.contains zone) (λ here. can_play node here (target_of node) ≡ false))
      → MatchOption o (surely_wins n node pos ≡ false) (λ zone. LossIsSure n node pos (sets.contains zone))
  back_refused e told = answer_gives (can_play node pos (target_of node) ≡ true) (surely_wins n node pos ≡ false)
      (λ zone. WhereverAgrees pos (sets.contains zone) (λ here. can_play node here (target_of node) ≡ false))
      (λ zone. LossIsSure n node pos (sets.contains zone)) o
      (λ can. sure_left node pos lone n e ∙ ap not can)
      (λ zone shown here sound same there. sure_left node here there n e ∙ ap not (shown here sound same)) told

  -- with a ply left by what shows that his play there fails
  pub back_fails : n ≢ 0 → MatchOption o (each_child (surely_wins (n - 1)) (child_of node pos (target_of node)) ≡ false)
      (λ zone. WhereverAgrees pos (sets.contains zone) (λ here.
      IsTrue (each_child (surely_wins (n - 1)) (child_of node here (target_of node)))))
      → MatchOption o (surely_wins n node pos ≡ false) (λ zone. LossIsSure n node pos (sets.contains zone))
  back_fails ne told = answer_gives (each_child (surely_wins (n - 1)) (child_of node pos (target_of node)) ≡ false)
      (surely_wins n node pos ≡ false)
      (λ zone. WhereverAgrees pos (sets.contains zone) (λ here.
      IsTrue (each_child (surely_wins (n - 1)) (child_of node here (target_of node)))))
      (λ zone. LossIsSure n node pos (sets.contains zone)) o
      (λ fails. sure_back node pos lone n ne ∙ fails)
      (λ zone shown here sound same there. sure_back node here there n ne ∙ shown here sound same) told

-- What shows, on Y, whether a lone stone was lost where the target is taken.
module _ (n : ℕ) (node : Node) (pos : BoardState) (is_lone : Bool) (Y : ℕ → Bool)
    (shown : WhereverAgrees pos Y (λ here. (is_gone node here ≡ true) × (has_lost_one_stone node here ≡ is_lone))) where
  -- if none was, Y is a zone
  pub zone_for_good : is_lone ≡ false → IsZone n node pos Y
  zone_for_good e = λ here sound same.
      sure_for_good n node here (shown here sound same).0 ((shown here sound same).1 ∙ e)

  -- if one was, what shows that it is surely captured makes a zone with Y
  pub zone_of_loss : (W Z : ℕ → Bool) → is_lone ≡ true → LossIsSure n node pos W
      → ((q : ℕ) → W q ≡ true → Z q ≡ true) → ((q : ℕ) → Y q ≡ true → Z q ≡ true) → IsZone n node pos Z
  zone_of_loss W Z e sure w_in y_in = λ here sound same.
      sure here sound (agree_less w_in same) ((shown here sound (agree_less y_in same)).1 ∙ e)
