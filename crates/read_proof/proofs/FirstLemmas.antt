-- The first proof of a claim that is so proves it.
use Rattle.std.proofs.Common.{◌≡◌, ◌∙◌, ℕ, zero, suc, ◌+◌, ◌-◌, ◌*◌, ◌/◌, ◌<◌, Bool, true, false, not, ◌&&◌}
use Rattle.std.proofs.Common.{◌||◌, cond, ltb, eqb, List, [], ◌∷◌, ◌++◌, Option, Some, None, is_some, is_none}
use Rattle.std.proofs.Common.{refl, sym, ap, subst, inl, inr, arith, add-one, append_assoc, codes}
use Rattle.std.specs.List.{filter_map, filter, range_with_len, AllByRecursion}
use Rattle.std.specs.Option.{option_and_then}
use Rattle.std.proofs.lemmas.Bool.{cases_Bool, and_parts, and_from, or_parts, or_left, or_right, both_ways, not-true}
use Rattle.std.proofs.lemmas.Bool.{not_from_false, eq-eqb, ne_eqb}
use Rattle.go_rules.specs.Board.{IsSize}
use Rattle.go_rules.specs.Position.{BoardState}
use Rattle.go_rules.specs.Strings.{liberties}
use Rattle.read_rules.proofs.CandidateLaws.{candidate_on}
use Rattle.read_rules.specs.Turns.{mover_of}
use Rattle.read_rules.specs.Candidates.{is_candidate}
use Rattle.read_rules.specs.declared.node.Node.{Node}
use Rattle.read_rules.specs.declared.question.Spot.{Spot}
use Rattle.read_rules.specs.declared.question.Spot.TheVariants.{At, Pass}
use Rattle.read_rules.specs.GameTree.{is_captured, has_many_liberties, attacker_wins, child_of, first_move, taking_back}
use Rattle.read_rules.specs.GoodMoves.{is_barred, good_move, IsOnBoard}
use Rattle.read_rules.specs.Rules.{IsFirstMove}
use Rattle.read_rules.proofs.RuleLemmas.{attacker_from, defender_gives, child_gives, child_from, first_move_gives}
use Rattle.read_rules.proofs.RuleLemmas.{taking_back_gives}
use Rattle.read_rules.proofs.WinLemmas.{wins-captured, wins-attacker_move, wins-defender_move, wins-taken_back}
use Rattle.read_rules.proofs.WinLemmas.{some_or_none}
use Rattle.read_rules.proofs.LibertyLemmas.{child_free, play_size}
use Rattle.read_proof.specs.declared.token.Token.TheVariants.{Each}
use Rattle.read_proof.specs.Tokens.{Word}
use Rattle.read_proof.specs.Proves.{has_too_many, is_settled, is_wanted, move_may_prove, each_may_prove, passed}
use Rattle.read_proof.specs.Proves.{can_take_back, child_after, child_behind}
use Rattle.read_proof.specs.Proves.{children_of, at_child, at_each, proves}
use Rattle.read_proof.specs.FirstProof.{move_word, write_child, write_each, write_move, write_back, first_words}
use Rattle.read_proof.specs.FirstProof.{BeginsWithFirstMove}
use Rattle.read_proof.proofs.SoundLemmas.{made_by, passed_by, behind_standing, IsSo}
use Rattle.read_proof.proofs.ChildLemmas.{after_candidate, after_pass}
use Rattle.read_proof.proofs.StepLemmas.{by_word, settled_word, move_decides}
use Rattle.read_proof.proofs.PrintLemmas.{said_settled, said_each, said_move, is_word, move_is_word}

-- what holds of each child that a chosen play gives holds of each child after the chosen plays
chosen_from : (f : ℕ → Option (Node × BoardState)) (g : ℕ → Bool) (P : Node × BoardState → Type 0)
    → ((p : ℕ) (child : Node × BoardState) → g p ≡ true → f p ≡ Some child → P child)
    → (n a : ℕ) → AllByRecursion P (filter_map f (filter g (range_with_len a n)))
chosen_from f g P h zero a = tt
chosen_from f g P h (suc n) a = grind (arith, chosen_from f g P h n (a + 1))

-- what is so of each word of two rows is so of each word of both
pub both_lists : (xs ys : List Word) → AllByRecursion (λ w. is_word w ≡ true) xs
    → AllByRecursion (λ w. is_word w ≡ true) ys → AllByRecursion (λ w. is_word w ≡ true) (xs ++ ys)
both_lists [] ys first second = second
both_lists (x ∷ xs) ys first second = (first.0, both_lists xs ys first.1 second)

-- what is so of the child after the pass and of each after a candidate is so of each child
each_child_is : (P : Node × BoardState → Type 0) (node : Node) (pos : BoardState)
    → (node.turn.attacker_to_play ≡ false → P (passed node pos))
    → ((p : ℕ) (child : Node × BoardState) → is_candidate node.turn pos p ≡ true
    → child_of node pos p ≡ Some child → P child)
    → AllByRecursion P (children_of node pos)
unfolding children_of
each_child_is P node pos by_pass by_play =
    grind (arith, chosen_from (child_of node pos) (is_candidate node.turn pos) P by_play (pos.size * pos.size) 0)

-- The board has s rows.
module _ (s : ℕ) where
  -- the node's position is on this board, and its target too
  abbrev pub IsAt : Node × BoardState → Type 0
  IsAt child = (child.1.size ≡ s) × (child.0.turn.target < s * s)

  -- a play stays on the board
  play_at : (node : Node) (pos : BoardState) (p : ℕ) (child : Node × BoardState) → IsAt (node, pos)
      → child_of node pos p ≡ Some child
      → IsAt child
  play_at node pos p child here e =
      let w = child_free node pos p child.0 child.1 (child_gives node pos p child.0 child.1 e) in
      let target : node.turn.target ≡ child.0.turn.target = sym (ap (λ (m : Node). m.turn.target) w.2) in
      (play_size pos (mover_of node.turn) p child.1 w.1 ∙ here.0, subst (λ t. t < s * s) target here.1)

  -- a move too
  move_at : (node : Node) (pos : BoardState) (spot : Spot) (child : Node × BoardState) → IsAt (node, pos)
      → child_after node pos spot ≡ Some child → IsAt child
  unfolding child_after
  move_at node pos (At p) child here e =
      play_at node pos p child here (made_by (is_candidate node.turn pos p) (child_of node pos p) child e).1
  move_at node pos Pass child here e =
      subst IsAt (passed_by node.turn.attacker_to_play (passed node pos) child e).1 here

  -- and each move
  each_at : (node : Node) (pos : BoardState) → IsAt (node, pos) → AllByRecursion IsAt (children_of node pos)
  each_at node pos here = each_child_is IsAt node pos (λ turn. here) (λ p child is e. play_at node pos p child here e)

-- with no ply left a claim that is so is settled
settled_at_end : (won : Bool) (node : Node) (pos : BoardState) → attacker_wins zero node pos ≡ won
    → is_settled zero won node pos ≡ true
unfolding attacker_wins is_settled
settled_at_end v0 node pos so = grind arith

-- the side to play wants a claim where it is the attacker and he wins, or the defender and he does not
wanted_turn : (won turn : Bool) → cond turn won (not won) ≡ true → turn ≡ won
wanted_turn true true e = refl
wanted_turn true false e = e
wanted_turn false true e = absurd (let w = e in cc)
wanted_turn false false e = refl

-- a target that the defender takes back is taken
pub back_taken : (node : Node) (pos : BoardState) (child : Node × BoardState) → taking_back node pos ≡ Some child
    → is_captured pos node.turn.target ≡ true
back_taken node pos child back = (and_parts _ _ (and_parts _ _ (taking_back_gives node pos child back).0).0).1

-- The claim is so at a node with some plies left, it is not settled, and the defender does not take back.
module _ (n : ℕ) (won : Bool) (node : Node) (pos : BoardState) (so : attacker_wins (suc n) node pos ≡ won)
    (hidden : is_settled (suc n) won node pos ≡ false) (none : taking_back node pos ≡ None) where
  -- the target stands
  target_stands : is_captured pos node.turn.target ≡ false
  unfolding is_settled
  target_stands = by won so hidden
    where
      alone : (taken : Bool) → (taken && true) ≡ false → taken ≡ false
      alone true e = e
      alone false e = refl

      by : (won : Bool) → attacker_wins (suc n) node pos ≡ won → is_settled (suc n) won node pos ≡ false
          → is_captured pos node.turn.target ≡ false
      by true so hidden = alone (is_captured pos node.turn.target)
          (sym (ap (λ o. is_captured pos node.turn.target && not (is_some o)) none) ∙ hidden)
      by false so hidden = elim (cases_Bool (is_captured pos node.turn.target)) [
        | inr stands ↦ stands
        | inl captured ↦ absurd (both_ways (attacker_wins (suc n) node pos) so
            (wins-captured (suc n) node pos captured none))
      ]

  -- at the attacker's turn it has not too many liberties
  few_liberties : won ≡ false → node.turn.attacker_to_play ≡ true → has_many_liberties node.turn pos
      ≡ false
  unfolding is_settled has_too_many
  few_liberties lost turn =
      let l = liberties pos.size pos.cells node.turn.target in
      let taken = is_captured pos node.turn.target in
      let back = eqb (suc n) 0 && can_take_back node pos in
      let over = eqb (suc n) 0 || has_too_many (suc n) node pos in
      let not_over : over ≡ false =
      sym (ap (λ b. cond b back over) target_stands)
      ∙ sym (ap (λ w. cond w (taken && not (can_take_back node pos)) (cond taken back over)) lost)
      ∙ hidden in
      let not_many = (or_parts (eqb (suc n) 0) (has_too_many (suc n) node pos) not_over).1 in
      (or_parts (ltb ((suc n + 1) / 2) l) (has_many_liberties node.turn pos)
      (sym (ap (λ b. cond b (ltb ((suc n + 1) / 2) l || has_many_liberties node.turn pos)
      (ltb (suc n / 2) l)) turn) ∙ not_many)).1

  -- where it is not what the side to play wants, it is so at each child
  each_so : is_wanted won node ≡ false → AllByRecursion (IsSo n won) (children_of node pos)
  each_so wanted = by won refl so wanted
    where
      turn_of : (won turn : Bool) → cond turn won (not won) ≡ false → turn ≡ not won
      turn_of true true e = e
      turn_of true false e = refl
      turn_of false true e = refl
      turn_of false false e = absurd (let w = e in cc)

      by : (w : Bool) → won ≡ w → attacker_wins (suc n) node pos ≡ w → is_wanted w node ≡ false
          → AllByRecursion (IsSo n w) (children_of node pos)
      by true is so wanted =
          let all = defender_gives n node pos target_stands (turn_of true node.turn.attacker_to_play wanted)
          (ap (λ m. attacker_wins m node pos) (add-one n) ∙ so) in
          each_child_is (IsSo n true) node pos (λ turn. all.passed)
          (λ p child chosen e. all.played p child.0 child.1 chosen (child_gives node pos p child.0 child.1 e))
      by false is so wanted =
          let turn = turn_of false node.turn.attacker_to_play wanted in
          each_child_is (IsSo n false) node pos (λ other. absurd (both_ways node.turn.attacker_to_play other turn))
          (λ p child chosen e. elim (cases_Bool (attacker_wins n child.0 child.1)) [
            | inr lost ↦ lost
            | inl wins ↦ absurd (both_ways (attacker_wins (suc n) node pos) so
                (sym (ap (λ m. attacker_wins m node pos) (add-one n)) ∙ attacker_from n node pos target_stands turn (
                  few_liberties is turn,
                  record {
                    point = p;
                    next = child.0;
                    new = child.1;
                    candidate = chosen;
                    child = child_gives node pos p child.0 child.1 e;
                    wins = wins;
                  },
                )))
          ])

  -- the first move of the side to play, and the child to which it leads
  record First : Type 0 where
    spot : Spot
    child : Node × BoardState
    is_first : first_move n node pos ≡ Some spot
    few : (node.turn.attacker_to_play && has_many_liberties node.turn pos) ≡ false
    leads : child_after node pos spot ≡ Some child
    claim : IsSo n won child

  -- a good move is the first, of a side that is not barred
  good_parts : (o : Option Spot) (barred : Bool) → is_some (cond barred None o) ≡ true
      → (barred ≡ false) × (spot : Spot) × (o ≡ Some spot)
  good_parts None true e = absurd (let w = e in cc)
  good_parts None false e = absurd (let w = e in cc)
  good_parts (Some spot) true e = absurd (let w = e in cc)
  good_parts (Some spot) false e = (refl, spot, refl)

  -- where it is what the side to play wants, that side has a good move
  has_good : is_wanted won node ≡ true → is_some (good_move n node pos) ≡ true
  has_good wanted = by won so wanted
    where
      ply : n ≡ suc n - 1
      ply = omega arith

      some_not : (o : Option Spot) → is_none o ≡ false → is_some o ≡ true
      some_not None e = absurd (let w = e in cc)
      some_not (Some spot) e = refl

      by : (w : Bool) → attacker_wins (suc n) node pos ≡ w → is_wanted w node ≡ true
          → is_some (good_move n node pos) ≡ true
      by true so wanted = ap (λ m. is_some (good_move m node pos)) ply
          ∙ sym (wins-attacker_move (suc n) node pos target_stands (λ e. cc)
          (wanted_turn true node.turn.attacker_to_play wanted)) ∙ so
      by false so wanted = some_not (good_move n node pos) (ap (λ m. is_none (good_move m node pos)) ply
          ∙ sym (wins-defender_move (suc n) node pos target_stands (λ e. cc)
          (wanted_turn false node.turn.attacker_to_play wanted)) ∙ so)

  -- the move of a side that wants the claim leads to a child with the claim
  first_leads : is_wanted won node ≡ true → First
  first_leads wanted =
      let good = good_parts (first_move n node pos) (is_barred node pos) (has_good wanted) in
      let found = leads_to good.1 (first_move_gives n node pos good.1 good.2) in
      record {
        spot = good.1;
        child = found.0;
        is_first = good.2;
        few = good.0;
        leads = found.1;
        claim = found.2;
      }
    where
      leads_to : (spot : Spot) → IsFirstMove n node pos spot
          → (child : Node × BoardState) × (child_after node pos spot ≡ Some child) × IsSo n won child
      leads_to (At p) move =
          let it = move.succeeds in (
            (it.next, it.new),
            sym (after_candidate node pos p (Some (it.next, it.new)) it.candidate
                (sym (child_from node pos p it.next it.new it.child))),
            it.outcome ∙ wanted_turn won node.turn.attacker_to_play wanted,
          )
      leads_to Pass move =
          let parts = and_parts _ _ move in
          let turn = not-true node.turn.attacker_to_play parts.0 in (
            passed node pos,
            sym (after_pass node pos turn),
            not-true _ parts.1 ∙ sym turn ∙ wanted_turn won node.turn.attacker_to_play wanted,
          )

-- The words of the first proof, by what it begins with.
module _ (n : ℕ) (won : Bool) (node : Node) (pos : BoardState) where
  -- the words of the moves: the first one, if the side to play wants the claim, and else `*`
  abbrev pub moves_words : Bool → List Word
  moves_words wanted = cond wanted (write_move (first_words n won) node pos (first_move n node pos))
      (codes "*" ∷ write_each (first_words n won) (children_of node pos))

  -- `.` where the claim is settled, and else what taking back or the moves give
  words_by : (settled : Bool) (back : Option (Node × BoardState)) → is_settled (suc n) won node pos ≡ settled
      → taking_back node pos ≡ back → first_words (suc n) won node pos ≡ cond settled (codes "." ∷ [])
      (write_back (first_words n won) node pos back (moves_words (is_wanted won node)))
  unfolding first_words
  words_by settled back is taken =
      ap (λ b. cond b (codes "." ∷ []) (write_back (first_words n won) node pos (taking_back node pos)
      (moves_words (is_wanted won node)))) is
      ∙ ap (λ o. cond settled (codes "." ∷ []) (write_back (first_words n won) node pos o
      (moves_words (is_wanted won node)))) taken

  -- `.` where the claim is settled
  pub words-settled : is_settled (suc n) won node pos ≡ true → first_words (suc n) won node pos ≡ codes "." ∷ []
  words-settled is = words_by true (taking_back node pos) is refl

  -- where it is not, and the defender does not take back, those of the moves
  pub words-moves : (wanted : Bool) → is_settled (suc n) won node pos ≡ false → taking_back node pos ≡ None
      → is_wanted won node ≡ wanted → first_words (suc n) won node pos ≡ moves_words wanted
  words-moves wanted is none wants = words_by false None is none ∙ ap moves_words wants

  -- no claim is settled where the defender takes back with a ply left for it
  pub open_back : (child : Node × BoardState) → taking_back node pos ≡ Some child
      → is_settled (suc n) won node pos ≡ false
  unfolding is_settled
  open_back child back = by won (back_taken node pos child back) (ne_eqb (suc n) 0 (λ e. cc))
    where
      no_more : (b : Bool) → (b && false) ≡ false
      no_more true = refl
      no_more false = refl

      by : (won : Bool) → is_captured pos node.turn.target ≡ true → eqb (suc n) 0 ≡ false
          → is_settled (suc n) won node pos ≡ false
      by true taken some = ap (λ o. is_captured pos node.turn.target && not (is_some o)) back
          ∙ no_more (is_captured pos node.turn.target)
      by false taken some =
          ap (λ b. cond b (eqb (suc n) 0 && can_take_back node pos) (eqb (suc n) 0 || has_too_many (suc n) node pos))
          taken
          ∙ ap (λ b. b && can_take_back node pos) some

  -- where he does, the word of his play, and those at the child to which it leads
  pub words-back : (child : Node × BoardState) → taking_back node pos ≡ Some child
      → first_words (suc n) won node pos
      ≡ move_word pos.size (At node.turn.target) ∷ first_words n won child.0 child.1
  words-back child back = words_by false (Some child) (open_back child back) back

  -- the move's word, and those at the child to which it leads
  words-move : (spot : Spot) (child : Node × BoardState) → is_settled (suc n) won node pos ≡ false
      → taking_back node pos ≡ None
      → is_wanted won node ≡ true → first_move n node pos ≡ Some spot → child_after node pos spot ≡ Some child
      → first_words (suc n) won node pos ≡ move_word pos.size spot ∷ first_words n won child.0 child.1
  words-move spot child is none wanted first leads =
      words-moves true is none wanted
      ∙ ap (write_move (first_words n won) node pos) first
      ∙ ap (λ o. move_word pos.size spot ∷ write_child (first_words n won) o) leads

-- where the claim is so, not settled, and what the side to play wants, and the defender does not take back, its first
-- words begin with the first move
pub begins_with_first : (n : ℕ) (won : Bool) (node : Node) (pos : BoardState) → attacker_wins (suc n) node pos ≡ won
    → taking_back node pos ≡ None → is_settled (suc n) won node pos ≡ false → is_wanted won node ≡ true
    → BeginsWithFirstMove n won node pos
begins_with_first n won node pos so none hidden wanted =
    let found = first_leads n won node pos so hidden none wanted in
    record {
      spot = found.spot;
      child = found.child;
      first = first_move_gives n node pos found.spot found.is_first;
      leads = found.leads;
      words = words-move n won node pos found.spot found.child hidden none wanted found.is_first found.leads;
    }

-- a move may prove what the side to play wants where the attacker may play at the target
move_may : (won : Bool) (node : Node) (pos : BoardState) → is_wanted won node ≡ true
    → (node.turn.attacker_to_play && has_many_liberties node.turn pos) ≡ false
    → move_may_prove won node pos ≡ true
unfolding move_may_prove
move_may won node pos wanted few = or_right (is_captured pos node.turn.target) _
    (and_from _ _ wanted (not_from_false _ few))

-- a move may prove a claim where the target is taken
back_may : (won : Bool) (node : Node) (pos : BoardState) → is_captured pos node.turn.target ≡ true
    → move_may_prove won node pos ≡ true
unfolding move_may_prove
back_may won node pos taken = or_left _ _ taken

-- the defender takes back by the play at the target's point
behind_target : (node : Node) (pos : BoardState) → is_captured pos node.turn.target ≡ true
    → child_behind node pos (At node.turn.target) ≡ taking_back node pos
unfolding child_behind
behind_target node pos taken = grind (arith, eq-eqb)

-- all moves may prove what it does not want where the target stands
each_may : (won : Bool) (node : Node) (pos : BoardState) → is_wanted won node ≡ false
    → is_captured pos node.turn.target ≡ false → each_may_prove won node pos ≡ true
unfolding each_may_prove
each_may won node pos wanted stands = and_from _ _ (not_from_false _ wanted) (not_from_false _ stands)

-- the next number less one
less : (n : ℕ) → suc n - 1 ≡ n
less n = omega arith

-- On a board of s rows.
module _ (s : ℕ) (size : IsSize s) where
  -- a move that leads to a child is on the board
  spot_on : (node : Node) (pos : BoardState) (spot : Spot) (child : Node × BoardState) → IsAt s (node, pos)
      → child_after node pos spot ≡ Some child → IsOnBoard s spot
  unfolding child_after
  spot_on node pos (At p) child here e =
      subst (λ r. p < r * r) here.0 (candidate_on node.turn pos p
      (made_by (is_candidate node.turn pos p) (child_of node pos p) child e).0)
  spot_on node pos Pass child here e = tt

  -- the first proofs with n plies left prove what is so, whatever stands behind them
  abbrev pub IsComplete : ℕ → Bool → Type 0
  IsComplete n won = (node : Node) (pos : BoardState) (rest : List Word) → IsAt s (node, pos)
      → attacker_wins n node pos ≡ won → proves n won node pos (first_words n won node pos ++ rest) ≡ Some rest

  -- so they do at each of these children, one after another
  each_complete : (n : ℕ) (won : Bool) → IsComplete n won → (children : List (Node × BoardState)) (rest : List Word)
      → AllByRecursion (IsAt s) children → AllByRecursion (IsSo n won) children
      → at_each (proves n won) children (write_each (first_words n won) children ++ rest) ≡ Some rest
  each_complete n won complete [] rest here so = refl
  each_complete n won complete (child ∷ more) rest here so =
      ap (λ words. option_and_then (at_each (proves n won) more) (proves n won child.0 child.1 words))
      (append_assoc (first_words n won child.0 child.1) (write_each (first_words n won) more) rest)
      ∙ ap (option_and_then (at_each (proves n won) more))
      (complete child.0 child.1 (write_each (first_words n won) more ++ rest) here.0 so.0)
      ∙ each_complete n won complete more rest here.1 so.1

  -- the first proof proves what is so
  pub first_complete : (n : ℕ) (won : Bool) → IsComplete n won
  unfolding first_words
  first_complete zero won node pos rest here so =
      settled_word won node pos (codes "." ∷ rest) (codes ".") rest refl zero true (said_settled pos.size)
      (settled_at_end won node pos so)
  first_complete (suc n) won node pos rest here so = elim (cases_Bool (is_settled (suc n) won node pos)) [
    | inl settled ↦
        ap (λ words. proves (suc n) won node pos (words ++ rest)) (words-settled n won node pos settled)
        ∙ settled_word won node pos (codes "." ∷ rest) (codes ".") rest refl (suc n) true (said_settled pos.size)
        settled
    | inr hidden ↦ elim (some_or_none (taking_back node pos)) [
      | inl none ↦ elim (cases_Bool (is_wanted won node)) [
        | inl wanted ↦
            let first = first_leads n won node pos so hidden none wanted in
            let stands = target_stands n won node pos so hidden none in
            let words = first_words n won first.child.0 first.child.1 ++ rest in
            ap (λ ws. proves (suc n) won node pos (ws ++ rest))
            (words-move n won node pos first.spot first.child hidden none wanted first.is_first first.leads)
            ∙ move_decides won node pos (move_word pos.size first.spot ∷ words) (move_word pos.size first.spot) words
            refl (suc n) first.spot true (said_move s pos.size size first.spot here.0
            (spot_on node pos first.spot first.child here first.leads)) (λ e. cc)
            (move_may won node pos wanted first.few)
            ∙ ap (λ m. at_child (proves m won) (child_behind node pos first.spot) words) (less n)
            ∙ ap (λ o. at_child (proves n won) o words) (behind_standing node pos first.spot stands ∙ first.leads)
            ∙ first_complete n won first.child.0 first.child.1 rest
            (move_at s node pos first.spot first.child here first.leads)
            first.claim
        | inr wanted ↦
            let words = write_each (first_words n won) (children_of node pos) ++ rest in
            ap (λ ws. proves (suc n) won node pos (ws ++ rest)) (words-moves n won node pos false hidden none wanted)
            ∙ by_word won node pos (codes "*" ∷ words) (codes "*") words refl (suc n) (Some Each) (said_each pos.size)
            ∙ ap (λ b. cond b (at_each (proves n won) (children_of node pos) words) None)
            (each_may won node pos wanted (target_stands n won node pos so hidden none))
            ∙ each_complete n won (first_complete n won) (children_of node pos) rest (each_at s node pos here)
            (each_so n won node pos so hidden none wanted)
      ]
      | inr back ↦
          let taken = back_taken node pos back.0 back.1 in
          let target : Spot = At node.turn.target in
          let words = first_words n won back.0.0 back.0.1 ++ rest in
          ap (λ ws. proves (suc n) won node pos (ws ++ rest)) (words-back n won node pos back.0 back.1)
          ∙ move_decides won node pos (move_word pos.size target ∷ words) (move_word pos.size target) words refl
          (suc n) target true (said_move s pos.size size target here.0 here.1) (λ e. cc) (back_may won node pos taken)
          ∙ ap (λ m. at_child (proves m won) (child_behind node pos target) words) (less n)
          ∙ ap (λ o. at_child (proves n won) o words) (behind_target node pos taken ∙ back.1)
          ∙ first_complete n won back.0.0 back.0.1 rest
          (play_at s node pos node.turn.target back.0 here (taking_back_gives node pos back.0 back.1).1)
          (sym (wins-taken_back n node pos back.0 taken back.1) ∙ so)
    ]
  ]

  -- the words of these proofs are words
  each_is_word : (n : ℕ) (won : Bool)
      → ((node : Node) (pos : BoardState) → IsAt s (node, pos)
      → AllByRecursion (λ w. is_word w ≡ true) (first_words n won node pos))
      → (children : List (Node × BoardState)) → AllByRecursion (IsAt s) children
      → AllByRecursion (λ w. is_word w ≡ true) (write_each (first_words n won) children)
  each_is_word n won words [] here = tt
  each_is_word n won words (child ∷ more) here =
      both_lists (first_words n won child.0 child.1) (write_each (first_words n won) more)
      (words child.0 child.1 here.0) (each_is_word n won words more here.1)

  -- the first move is on the board
  pub first_on : (n : ℕ) (node : Node) (pos : BoardState) (spot : Spot) → IsAt s (node, pos)
      → IsFirstMove n node pos spot → IsOnBoard s spot
  first_on n node pos (At p) here move =
      subst (λ r. p < r * r) here.0 (candidate_on node.turn pos p move.succeeds.candidate)
  first_on n node pos Pass here move = tt

  -- the word of the first move and those of the proof behind it are words
  move_is_words : (n : ℕ) (won : Bool)
      → ((node : Node) (pos : BoardState) → IsAt s (node, pos)
      → AllByRecursion (λ w. is_word w ≡ true) (first_words n won node pos))
      → (node : Node) (pos : BoardState) → IsAt s (node, pos) → (o : Option Spot) → first_move n node pos ≡ o
      → AllByRecursion (λ w. is_word w ≡ true) (write_move (first_words n won) node pos o)
  move_is_words n won words node pos here None first = tt
  move_is_words n won words node pos here (Some spot) first = (
    move_is_word s pos.size size spot here.0 (first_on n node pos spot here (first_move_gives n node pos spot first)),
    behind (child_after node pos spot) refl,
  )
    where
      behind : (o : Option (Node × BoardState)) → child_after node pos spot ≡ o
          → AllByRecursion (λ w. is_word w ≡ true) (write_child (first_words n won) o)
      behind None e = tt
      behind (Some child) e = words child.0 child.1 (move_at s node pos spot child here e)

  -- the word of the play that takes back and those of the proof behind it are words
  back_is_words : (n : ℕ) (won : Bool)
      → ((node : Node) (pos : BoardState) → IsAt s (node, pos)
      → AllByRecursion (λ w. is_word w ≡ true) (first_words n won node pos))
      → (node : Node) (pos : BoardState) → IsAt s (node, pos) → (o : Option (Node × BoardState))
      → taking_back node pos ≡ o → (others : List Word) → AllByRecursion (λ w. is_word w ≡ true) others
      → AllByRecursion (λ w. is_word w ≡ true) (write_back (first_words n won) node pos o others)
  back_is_words n won words node pos here None e others all = all
  back_is_words n won words node pos here (Some child) e others all = (
    move_is_word s pos.size size (At node.turn.target) here.0 here.1,
    words child.0 child.1
        (play_at s node pos node.turn.target child here (taking_back_gives node pos child e).1),
  )

  -- the words of the moves are words
  moves_are_words : (n : ℕ) (won : Bool) (node : Node) (pos : BoardState) (wanted : Bool)
      → AllByRecursion (λ w. is_word w ≡ true) (write_move (first_words n won) node pos (first_move n node pos))
      → AllByRecursion (λ w. is_word w ≡ true) (write_each (first_words n won) (children_of node pos))
      → AllByRecursion (λ w. is_word w ≡ true) (moves_words n won node pos wanted)
  moves_are_words n won node pos true move each = move
  moves_are_words n won node pos false move each = (refl, each)

  -- the words of a first proof are words
  pub first_are_words : (n : ℕ) (won : Bool) (node : Node) (pos : BoardState) → IsAt s (node, pos)
      → AllByRecursion (λ w. is_word w ≡ true) (first_words n won node pos)
  unfolding first_words
  first_are_words zero won node pos here = (refl, tt)
  first_are_words (suc n) won node pos here =
      by (is_settled (suc n) won node pos)
      (back_is_words n won (first_are_words n won) node pos here (taking_back node pos) refl
      (moves_words n won node pos (is_wanted won node)) (moves_are_words n won node pos (is_wanted won node)
      (move_is_words n won (first_are_words n won) node pos here (first_move n node pos) refl)
      (each_is_word n won (first_are_words n won) (children_of node pos) (each_at s node pos here))))
    where
      by : (settled : Bool) → AllByRecursion (λ w. is_word w ≡ true)
          (write_back (first_words n won) node pos (taking_back node pos)
          (moves_words n won node pos (is_wanted won node)))
          → AllByRecursion (λ w. is_word w ≡ true) (cond settled (codes "." ∷ [])
          (write_back (first_words n won) node pos (taking_back node pos)
          (moves_words n won node pos (is_wanted won node))))
      by true others = (refl, tt)
      by false others = others
