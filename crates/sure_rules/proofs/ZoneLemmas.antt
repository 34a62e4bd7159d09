-- The rules of zones.
use Rattle.std.proofs.Common.{◌≡◌, ◌≢◌, ℕ, suc, ◌-◌, ◌*◌, ◌<◌, Bool, true, false, Option, Some, None, Ok}
use Rattle.std.proofs.Common.{refl, sym, ap, subst, ◌∙◌, arith, inl, inr, eqb, ◌&&◌, set}
use Rattle.std.proofs.lemmas.Bool.{cases_Bool, cases_eq, both_ways, and_parts, eqb-true}
use Rattle.go_rules.specs.declared.Colour.{Colour}
use Rattle.go_rules.specs.Strings.{cell_at, IsLiberty}
use Rattle.go_rules.specs.Position.{BoardState, IsPosition, other, stone_of, is_banned, same_colour}
use Rattle.go_rules.specs.Play.{play_free, pass}
use Rattle.go_rules.specs.Rules.{IsCaptured, IsOnlyLiberty}
use Rattle.go_rules.proofs.BanLaws.{ban_means, ban_parts}
use Rattle.go_rules.proofs.OnlyLiberties.{stone_not_empty}
use Rattle.go_rules.proofs.PlayLaws.{done_state, free_keeps, others_stay, pass_keeps, play_done, position_in_words}
use Rattle.go_rules.proofs.Plays.{at_put_same, at_put_other, enemy_differs}
use Rattle.read_rules.proofs.AfterPlays.{put_liberty}
use Rattle.read_rules.proofs.CandidateLaws.{candidate_on}
use Rattle.read_rules.proofs.LibertyLemmas.{child_free, play_size}
use Rattle.read_rules.specs.ActiveArea.{AgreeOn}
use Rattle.read_rules.specs.declared.node.Node.{Node}
use Rattle.read_rules.specs.Turns.{mover_of}
use Rattle.read_rules.specs.Rules.{IsChild, TakesBack}
use Rattle.sure_rules.specs.Nodes.{is_attackers, is_gone, target_of}
use Rattle.sure_rules.specs.SureTree.{surely_wins}
use Rattle.sure_rules.specs.Zones.{points_of, IsZone, IsTakenZone, IsTakingBackZone, IsPlayZone, IsReplyZone}
use Rattle.sure_rules.proofs.SureLemmas.{sure-captured, none_at_attackers, sure_by_rules, sure_if_back_fails}
use Rattle.sure_rules.proofs.SureLemmas.{sure_attacker_from, sure_defender_from}
use Rattle.sure_rules.proofs.TakenLemmas.{child_on_board}
use Rattle.sure_rules.proofs.StayLemmas.{stays_sure, no_harder-refl}

-- What a play captures.
module _ (pos : BoardState) (c : Colour) (p : ℕ) (new : BoardState) (sound : IsPosition pos)
    (on : p < pos.size * pos.size) (played : play_free pos c p ≡ Ok new) where
  -- a captured stone is not the one that was played
  captured_apart : (q : ℕ) → IsCaptured pos.size (set pos.cells p (stone_of c)) c q → q ≢ p
  captured_apart q captured e = grind (arith, at_put_same, enemy_differs)

  -- the string of a captured stone had one liberty before the play, and this was its point
  pub captured_at_last : (q : ℕ) → q < pos.size * pos.size
      → IsCaptured pos.size (set pos.cells p (stone_of c)) c q → IsOnlyLiberty pos.size pos.cells q p
  captured_at_last q q_on captured =
      let was_empty = (done_state pos c p new played).0 in
      let only : (k : ℕ) → IsLiberty pos.size pos.cells q k → k ≡ p = λ k lib. elim (cases_eq k p) [
        | inl e ↦ e
        | inr ne ↦ absurd (captured.dead k (put_liberty pos.size pos.cells c p was_empty q q_on k lib ne))
      ] in
      let stone : cell_at pos.cells q ≡ stone_of (other c) =
      sym (at_put_other pos.cells p q (stone_of c) (captured_apart q captured)) ∙ captured.enemy in
      let some = (position_in_words pos sound).alive q q_on (λ e. stone_not_empty (other c) (sym stone ∙ e)) in
      record {
        its = subst (IsLiberty pos.size pos.cells q) (only some.0 some.1) some.1;
        only = only;
      }

-- a target that is taken is taken on every position that agrees on its point
gone_there : (node : Node) (pos here : BoardState) (Z : ℕ → Bool) → is_gone node pos ≡ true → Z (target_of node) ≡ true
    → AgreeOn (points_of Z) pos here → is_gone node here ≡ true
gone_there node pos here Z gone inside agrees = grind arith

-- what shows that a taken target is not taken back is a zone
pub zone_captured : (n : ℕ) (node : Node) (pos : BoardState) (Z : ℕ → Bool) → is_gone node pos ≡ true
    → IsTakenZone node pos Z → IsZone n node pos Z
zone_captured n node pos Z gone w = λ here sound agrees.
    sure_by_rules n node here (gone_there node pos here Z gone w.point agrees) (w.kept here sound agrees)

-- and so is, with a ply more, what shows that to take back does not save it
pub zone_taken_back : (n : ℕ) (node : Node) (pos : BoardState) (Z : ℕ → Bool) → is_gone node pos ≡ true
    → IsTakingBackZone n node pos Z → IsZone (suc n) node pos Z
zone_taken_back n node pos Z gone w = grind (arith, sure_if_back_fails, gone_there)

-- a play of the attacker that captures on every position that agrees shows a zone
pub zone_attacker : (n : ℕ) (node : Node) (pos : BoardState) (Z : ℕ → Bool) → is_attackers node ≡ true
    → IsPlayZone n node pos Z → IsZone (suc n) node pos Z
zone_attacker n node pos Z turn w = λ here sound agrees. elim (cases_Bool (is_gone node here)) [
  | inl gone ↦ sure-captured (suc n) node here gone (none_at_attackers node here turn)
  | inr stands ↦
      let made = w.leads here sound agrees in
      let candidate = w.candidate here sound agrees in
      let free = child_free node here w.point w.next made.0 made.1 in
      sure_attacker_from n node here stands turn (
        w.few here sound agrees,
        record {
          point = w.point;
          next = w.next;
          new = made.0;
          candidate = candidate;
          child = made.1;
          wins = w.zone made.0
              (free_keeps here (mover_of node.turn) w.point made.0 sound (candidate_on node.turn here w.point candidate)
              free.1) made.2;
        },
      )
]

-- a ban that lies elsewhere forbids nothing here
not_banned : (ban : Option (ℕ × Colour)) (c : Colour) (q : ℕ) → ((r : ℕ) (k : Colour) → ban ≡ Some (r, k) → r ≢ q)
    → is_banned ban c q ≡ false
not_banned None c q elsewhere = refl
not_banned (Some b) c q elsewhere = elim (cases_Bool (eqb b.0 q && same_colour b.1 c)) [
  | inl t ↦ absurd (elsewhere b.0 b.1 refl (eqb-true b.0 q (and_parts (eqb b.0 q) (same_colour b.1 c) t).0))
  | inr f ↦ f
]

-- A node at the defender's turn at which no reply holds, and a position that agrees.
module _ (n : ℕ) (node : Node) (pos : BoardState) (Z : ℕ → Bool) (turn : is_attackers node ≡ false)
    (w : IsReplyZone n node pos Z) (here : BoardState) (sound : IsPosition here) (agrees : AgreeOn (points_of Z) pos here) where
  -- A reply that is not read.
  module _ (p : ℕ) (new : BoardState) (on : p < here.size * here.size)
      (played : play_free here (mover_of node.turn) p ≡ Ok new) (unread : w.is_read p ≡ false) where
    -- a point of the zone is on the board
    inside_on : (q : ℕ) → w.passed q ≡ true → q < here.size * here.size
    inside_on q inside = subst (λ s. q < s * s) agrees.sizes (w.on_board q inside)

    -- it is not played at a point of the zone
    elsewhere : (q : ℕ) → w.passed q ≡ true → q ≢ p
    elsewhere q inside e = grind (arith, done_state, both_ways)

    -- it captures no stone of the zone
    takes_none : (q : ℕ) → w.passed q ≡ true
        → IsCaptured here.size (set here.cells p (stone_of (mover_of node.turn))) (mover_of node.turn) q → ⊥
    takes_none q inside captured = grind (arith, both_ways, at_put_other, elsewhere, captured_at_last, inside_on)

    -- so it leads to a position that agrees on the zone with that after the pass
    after_reply : AgreeOn (points_of w.passed) (pass pos) new
    after_reply = record {
      sizes = agrees.sizes ∙ sym (play_size here (mover_of node.turn) p new played);
      cells = λ q inside. elim (others_stay here (mover_of node.turn) p new q played (inside_on q inside)
          (elsewhere q inside)) [
            | inl stays ↦ agrees.cells q (w.within q inside) ∙ sym stays
            | inr taken ↦ absurd (takes_none q inside taken.2)
          ];
      bans = λ q c inside. sym (not_banned new.ban c q (λ r k ban e.
          takes_none q inside (subst (IsCaptured here.size (set here.cells p (stone_of (mover_of node.turn))) (mover_of node.turn))
          e (ban_means here (mover_of node.turn) p new on played r
          (ban ∙ ap (λ (x : Colour). Some (r, x)) (ban_parts here (mover_of node.turn) p new on played r k ban).0)).taken)));
    }

  -- every reply fails
  reply_fails : (p : ℕ) (next : Node) (new : BoardState) → p < here.size * here.size → IsChild node here p next new
      → surely_wins n next new ≡ true
  reply_fails p next new on child =
      grind (arith, cases_Bool, stays_sure, no_harder-refl, both_ways, free_keeps, after_reply, play_done)

  -- and so does to take back
  back_fails : (next : Node) (new : BoardState) → TakesBack node here next new → surely_wins n next new ≡ true
  back_fails next new back =
      reply_fails (target_of node) next new (child_on_board node here (target_of node) next new back.child) back.child

-- a node at which no reply holds on every position that agrees has that zone
pub zone_defender : (n : ℕ) (node : Node) (pos : BoardState) (Z : ℕ → Bool) → is_attackers node ≡ false
    → IsReplyZone n node pos Z → IsZone (suc n) node pos Z
zone_defender n node pos Z turn w =
    grind (
      arith,
      cases_Bool,
      sure_if_back_fails n node,
      back_fails n node pos Z turn w,
      sure_defender_from n node,
      pass_keeps,
      reply_fails n node pos Z turn w,
    )
