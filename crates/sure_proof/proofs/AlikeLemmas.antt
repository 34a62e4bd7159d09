-- On positions that agree on what a play rests on, the play leads to positions that are alike. On positions that agree
-- on a zone and on what guards it, the same replies have to be read.
use Rattle.std.proofs.Common.{◌≡◌, ◌∙◌, ℕ, ◌*◌, ◌<◌, ◌&&◌, true, Option, Some, None, refl, sym, ap, subst, ltb, arith}
use Rattle.std.proofs.lemmas.Bool.{and_from, lt-ltb}
use Rattle.std.specs.FinSet as sets
use Rattle.go_rules.specs.Position.{BoardState, IsPosition, other}
use Rattle.go_rules.proofs.PlayLaws.{done_state}
use Rattle.read_rules.specs.ActiveArea.{AgreeOn}
use Rattle.read_rules.specs.declared.node.Node.{Node}
use Rattle.read_rules.specs.GameTree.{child_of}
use Rattle.read_rules.specs.Turns.{mover_of}
use Rattle.read_rules.proofs.LibertyLemmas.{child_free}
use Rattle.read_rules.proofs.RuleLemmas.{child_gives, child_from}
use Rattle.sure_rules.specs.Zones.{points_of}
use Rattle.sure_proof.specs.Alike.{AreAlike, AreAlikeChildren, IsGuarded}
use Rattle.sure_proof.specs.Gathered.{IsWithin}
use Rattle.sure_proof.specs.Rests.{Points, play_rests_on, guard_of, asked_of}
use Rattle.sure_proof.proofs.SoundLemmas.{has, child_there, child_here}
use Rattle.sure_proof.proofs.GuardLemmas.{asks_empty, last_is_asked}

-- Two positions that agree on what the mover's play at p rests on, and on the points Y of the board.
module _ (node : Node) (pos here : BoardState) (Y : Points) (p : ℕ) (Z : Points) (good : IsPosition pos)
    (sound : IsPosition here) (on : p < pos.size * pos.size) (same : AgreeOn (points_of (has Z)) pos here)
    (rests : IsWithin (play_rests_on pos.size pos.cells (mover_of node.turn) Y p) Z) (within : IsWithin Y Z)
    (on_board : (q : ℕ) → has Y q ≡ true → q < pos.size * pos.size) where
  -- the play can be made on both or on neither, and then leads to positions that are alike on Y
  pub play_alike : AreAlikeChildren (has Y) (child_of node pos p) (child_of node here p)
  play_alike = by (child_of node pos p) (child_of node here p) refl refl
    where
      by : (first second : Option (Node × BoardState)) → child_of node pos p ≡ first → child_of node here p ≡ second
          → AreAlikeChildren (has Y) first second
      by None None e f = tt
      by None (Some b) e f = absurd (
          let w = child_here node pos here Y p Z good sound on same rests b.0 b.1 (child_gives node here p b.0 b.1 f) in
          let wrong = sym e ∙ child_from node pos p b.0 w.0 w.1 in cc)
      by (Some a) None e f = absurd (
          let w = child_there node pos here Y p Z good sound on same rests Y within a.0 a.1
          (child_gives node pos p a.0 a.1 e) in
          let wrong = sym f ∙ child_from node here p a.0 w.0 w.1 in cc)
      by (Some a) (Some b) e f =
          let child = child_gives node pos p a.0 a.1 e in
          let w = child_there node pos here Y p Z good sound on same rests Y within a.0 a.1 child in
          let one : Some (a.0, w.0) ≡ Some b = sym (child_from node here p a.0 w.0 w.1) ∙ f in
          let pair : (a.0, w.0) ≡ b = (let k = one in cc) in
          let size : a.1.size ≡ pos.size = ap (λ (v : BoardState). v.size)
          (done_state pos (mover_of node.turn) p a.1 (child_free node pos p a.0 a.1 child).1).1 in
          let low : (q : ℕ) → has Y q ≡ true → (has Y q && ltb q (a.1.size * a.1.size)) ≡ true = λ q inside.
          and_from (has Y q) (ltb q (a.1.size * a.1.size)) inside
          (lt-ltb q (a.1.size * a.1.size) (subst (λ s. q < s * s) (sym size) (on_board q inside))) in
          let alike : AreAlike (has Y) a.1 w.0 = record {
            cells = λ q inside. w.2.cells q (low q inside);
            bans = λ q c inside. w.2.bans q c (low q inside);
          } in
          subst (λ (v : Node × BoardState). AreAlikeChildren (has Y) (Some a) (Some v)) pair (refl, w.2.sizes, alike)

-- on a position that agrees on the zone P and on what guards it, the replies that P asks for are those to be read
pub zone_is_guarded : (node : Node) (pos here : BoardState) (P Z : Points) → AgreeOn (points_of (has Z)) pos here
    → IsWithin P Z → IsWithin (guard_of pos.size pos.cells (other (mover_of node.turn)) P) Z
    → ((q : ℕ) → has P q ≡ true → q < pos.size * pos.size)
    → IsGuarded node (has P) here (has (asked_of pos.size pos.cells (other (mover_of node.turn)) P))
zone_is_guarded node pos here P Z same within guarded on_board = grind (arith, asks_empty, last_is_asked)
