-- What is proved at a node is so: by the word, by the children, and by induction on the plies.
use Rattle.std.proofs.Common.{◌≡◌, ◌∙◌, ℕ, zero, suc, ◌+◌, ◌*◌, ◌<◌, ◌≤◌, Bool, true, false, ◌&&◌, cond}
use Rattle.std.proofs.Common.{List, [], ◌∷◌, ◌++◌, Option, Some, None, is_some, not, refl, sym, ap}
use Rattle.std.proofs.Common.{arith, add-one}
use Rattle.std.specs.List.{filter_map, cons_option, filter, range_with_len, AllByRecursion}
use Rattle.std.proofs.lemmas.Option.{option_and_then_some}
use Rattle.std.proofs.lemmas.Bool.{cases_Bool, and_parts, or_cases, both_ways, ltb-true, not-true}
use Rattle.go_rules.specs.Position.{BoardState}
use Rattle.go_rules.specs.Strings.{liberties}
use Rattle.read_rules.proofs.CandidateLaws.{candidate_on}
use Rattle.read_rules.specs.Turns.{mover_of}
use Rattle.read_rules.specs.Candidates.{is_candidate}
use Rattle.read_rules.specs.declared.node.Node.{Node}
use Rattle.read_rules.specs.declared.question.Spot.{Spot}
use Rattle.read_rules.specs.declared.question.Spot.TheVariants.{At, Pass}
use Rattle.read_rules.specs.GameTree.{is_captured, has_many_liberties, attacker_wins, child_of, taking_back}
use Rattle.read_rules.specs.Rules.{IsChild, EachChildWins}
use Rattle.read_rules.proofs.RuleLemmas.{attacker_gives, attacker_from, defender_gives, defender_from, child_gives}
use Rattle.read_rules.proofs.RuleLemmas.{child_from, many_gives, taking_back_gives}
use Rattle.read_rules.proofs.WinLemmas.{wins-captured, wins-no_plies, wins-none_left, wins-taken_back}
use Rattle.read_rules.specs.Bound.{outlasts_at}
use Rattle.read_rules.proofs.LibertyLemmas.{bounded, to_attacker, to_defender, many_outlast, child_free, play_size}
use Rattle.read_proof.specs.declared.token.Token.{Token}
use Rattle.read_proof.specs.declared.token.Token.TheVariants.{Settled, Move, Each}
use Rattle.read_proof.specs.Tokens.{Word, token_of}
use Rattle.read_proof.specs.Proves.{has_too_many, is_settled, is_wanted, move_may_prove, each_may_prove, passed}
use Rattle.read_proof.specs.Proves.{child_after, back_after, child_behind}
use Rattle.read_proof.specs.Proves.{pass_children, play_children, children_of, at_child, at_each, by_token, proves}

-- a target with too many liberties for the plies outlasts them
too_many_outlast : (n : ℕ) (node : Node) (pos : BoardState) → has_too_many n node pos ≡ true
    → outlasts_at node.turn n (liberties pos.size pos.cells node.turn.target) ≡ true
unfolding has_too_many
too_many_outlast n node pos h =
    grind (arith, cases_Bool, or_cases, to_attacker, ltb-true, many_outlast, many_gives, to_defender)

-- a child to which the defender takes back is there, or not
none_there : (o : Option (Node × BoardState)) → not (is_some o) ≡ true → o ≡ None
none_there None e = refl
none_there (Some child) e = cc

-- what is settled is so
settled_sound : (n : ℕ) (won : Bool) (node : Node) (pos : BoardState) → node.turn.target < pos.size * pos.size
    → is_settled n won node pos ≡ true → attacker_wins n node pos ≡ won
unfolding is_settled
settled_sound n true node pos on h = grind (arith, and_parts, wins-captured, none_there)
settled_sound n false node pos on h = grind (arith, wins-none_left, wins-no_plies, bounded, too_many_outlast)

-- the target of a node is on the board of its position
abbrev pub IsOn : Node × BoardState → Type 0
IsOn child = child.0.turn.target < child.1.size * child.1.size

-- the target stays on the board at a child after a play
pub played_on_board : (node : Node) (pos : BoardState) (p : ℕ) (child : Node × BoardState)
    → node.turn.target < pos.size * pos.size
    → child_of node pos p ≡ Some child → IsOn child
played_on_board node pos p child on e =
    grind (
      arith,
      child_free node pos p child.0 child.1 (child_gives node pos p child.0 child.1 e),
      play_size pos (mover_of node.turn) p child.1,
    )

-- The claim, with n plies left.
module _ (n : ℕ) (won : Bool) where
  -- what is proved with n plies left is so
  abbrev pub IsSound : Type 0
  IsSound = (node : Node) (pos : BoardState) (words left : List Word) → node.turn.target < pos.size * pos.size
      → proves n won node pos words ≡ Some left → attacker_wins n node pos ≡ won

  -- the claim is so at the child
  abbrev pub IsSo : Node × BoardState → Type 0
  IsSo child = attacker_wins n child.0 child.1 ≡ won

  -- what is proved at each of these children is so at each
  each_sound : IsSound → (children : List (Node × BoardState)) (words left : List Word)
      → AllByRecursion IsOn children
      → at_each (proves n won) children words ≡ Some left → AllByRecursion IsSo children
  each_sound sound [] words left on e = tt
  each_sound sound (child ∷ more) words left on e =
      option_and_then_some (at_each (proves n won) more) (proves n won child.0 child.1 words) left e
      (λ between first rest.
      (sound child.0 child.1 words between on.0 first, each_sound sound more between left on.1 rest))

-- what holds of each child that a play gives holds of each child after the plays
pub plays_from : (f : ℕ → Option (Node × BoardState)) (P : Node × BoardState → Type 0)
    → ((p : ℕ) (child : Node × BoardState) → f p ≡ Some child → P child)
    → (ps : List ℕ) → AllByRecursion P (filter_map f ps)
plays_from f P h [] = tt
plays_from f P h (p ∷ ps) = grind (arith, plays_from f P h ps)

-- and of those behind it
other_children : (P : Node × BoardState → Type 0) (o : Option (Node × BoardState)) (more : List (Node × BoardState))
    → AllByRecursion P (cons_option o more) → AllByRecursion P more
other_children P None more all = all
other_children P (Some first) more all = all.1

-- and of each child after the plays at those behind it
at_others : (f : ℕ → Option (Node × BoardState)) (P : Node × BoardState → Type 0) (a : ℕ) (more : List ℕ) (b : Bool)
    → AllByRecursion P (filter_map f (cond b (a ∷ more) more)) → AllByRecursion P (filter_map f more)
at_others f P a more true all = other_children P (f a) (filter_map f more) all
at_others f P a more false all = all

-- what holds of each child after the plays holds of the child that one of them gives
plays_give : (f : ℕ → Option (Node × BoardState)) (g : ℕ → Bool) (P : Node × BoardState → Type 0) (n a p : ℕ)
    (child : Node × BoardState) → AllByRecursion P (filter_map f (filter g (range_with_len a n))) → a ≤ p → p < a + n
    → g p ≡ true → f p ≡ Some child → P child
plays_give f g P zero a p child all low high chosen e = absurd (omega arith)
plays_give f g P (suc n) a p child all low high chosen e =
    grind (arith, plays_give f g P n (a + 1) p child (at_others f P a (filter g (range_with_len (a + 1) n)) (g a) all))

-- what holds of each of the joined rows holds of each of both
each_row : (P : Node × BoardState → Type 0) (xs ys : List (Node × BoardState)) → AllByRecursion P (xs ++ ys)
    → AllByRecursion P xs × AllByRecursion P ys
each_row P [] ys all = (tt, all)
each_row P (x ∷ xs) ys all = let rest = each_row P xs ys all.1 in ((all.0, rest.0), rest.1)

-- the target of each child is on the board
children_on_board : (node : Node) (pos : BoardState) → node.turn.target < pos.size * pos.size
    → AllByRecursion IsOn (children_of node pos)
unfolding children_of
children_on_board node pos on = grind (arith, plays_from (child_of node pos) IsOn, played_on_board node pos)

module _ (P : Node × BoardState → Type 0) (node : Node) (pos : BoardState)
    (all : AllByRecursion P (children_of node pos)) where
  -- what holds of each child holds of that after the defender's pass
  pass_holds : node.turn.attacker_to_play ≡ false → P (passed node pos)
  unfolding children_of
  pass_holds turn = grind (arith, each_row)

  -- and of that after each candidate that can be played
  play_holds : (p : ℕ) (next : Node) (new : BoardState) → is_candidate node.turn pos p ≡ true
      → IsChild node pos p next new → P (next, new)
  unfolding children_of
  play_holds p next new candidate child =
      let on = candidate_on node.turn pos p candidate in
      plays_give (child_of node pos) (is_candidate node.turn pos) P (pos.size * pos.size) 0 p (next, new)
      (each_row P (pass_children node pos) (play_children node pos) all).1 (omega arith) (omega arith) candidate
      (child_from node pos p next new child)

-- a child that is there under a test is there, and the test passes
pub made_by : (test : Bool) (o : Option (Node × BoardState)) (child : Node × BoardState) → cond test o None ≡ Some child
    → (test ≡ true) × (o ≡ Some child)
made_by true o child e = (refl, e)
made_by false o child e = absurd (let w = e in cc)

-- a child after a pass is the defender's
pub passed_by : (turn : Bool) (first child : Node × BoardState) → cond turn None (Some first) ≡ Some child
    → (turn ≡ false) × (first ≡ child)
passed_by true first child e = absurd (let w = e in cc)
passed_by false first child e = let same : first ≡ child = cc in (refl, same)

-- where the attacker wins at each child he wins at that after a move
won_after : (n : ℕ) (node : Node) (pos : BoardState) (spot : Spot) (child : Node × BoardState)
    → child_after node pos spot ≡ Some child → EachChildWins n node pos → attacker_wins n child.0 child.1 ≡ true
unfolding child_after
won_after n node pos (At p) child e all = grind (arith, made_by, child_gives)
won_after n node pos Pass child e all = grind (arith, passed_by)

-- the target is on the board at the child after a move
after_on_board : (node : Node) (pos : BoardState) (spot : Spot) (child : Node × BoardState)
    → node.turn.target < pos.size * pos.size → child_after node pos spot ≡ Some child → IsOn child
unfolding child_after
after_on_board node pos (At p) child on e = grind (arith, played_on_board, made_by)
after_on_board node pos Pass child on e = grind (arith, passed_by)

-- behind a move at a node whose target stands is the child to which it leads
pub behind_standing : (node : Node) (pos : BoardState) (spot : Spot) → is_captured pos node.turn.target ≡ false
    → child_behind node pos spot ≡ child_after node pos spot
unfolding child_behind
behind_standing node pos spot stands = ap (λ b. cond b (back_after node pos spot) (child_after node pos spot)) stands

-- behind a move at a node whose target is taken is the child to which the defender takes back
behind_taken : (node : Node) (pos : BoardState) (spot : Spot) (child : Node × BoardState)
    → is_captured pos node.turn.target ≡ true → child_behind node pos spot ≡ Some child
    → taking_back node pos ≡ Some child
unfolding child_behind
behind_taken node pos spot child taken e = grind (arith, made_by)

-- the target is on the board at the child behind a move
behind_on_board : (node : Node) (pos : BoardState) (spot : Spot) (child : Node × BoardState)
    → node.turn.target < pos.size * pos.size → child_behind node pos spot ≡ Some child → IsOn child
behind_on_board node pos spot child on e =
    grind (arith, cases_Bool, played_on_board, taking_back_gives, behind_taken, after_on_board, behind_standing)

-- The claim at a node whose target stands, with one ply more than is left at its children.
module _ (n : ℕ) (node : Node) (pos : BoardState) (stands : is_captured pos node.turn.target ≡ false) where
  -- the sum of the definitions is the next number
  more : (b : Bool) → attacker_wins (n + 1) node pos ≡ b → attacker_wins (suc n) node pos ≡ b
  more b h = sym (ap (λ m. attacker_wins m node pos) (add-one n)) ∙ h

  -- where each child has the claim that the side to play does not want, so has the node
  each_decides : (won : Bool) → is_wanted won node ≡ false → AllByRecursion (IsSo n won) (children_of node pos)
      → attacker_wins (suc n) node pos ≡ won
  each_decides true movers all =
      grind (
        arith,
        defender_from n node pos stands,
        pass_holds (IsSo n true) node pos all,
        play_holds (IsSo n true) node pos all,
      )
  each_decides false movers all =
      grind (arith, attacker_gives n node pos stands, play_holds (IsSo n false) node pos all)

  -- where the child after one of its moves has the claim that the side to play wants, so has the node
  move_decides : (won : Bool) (spot : Spot) (child : Node × BoardState) → is_wanted won node ≡ true
      → (node.turn.attacker_to_play && has_many_liberties node.turn pos) ≡ false
      → child_after node pos spot ≡ Some child → IsSo n won child → attacker_wins (suc n) node pos ≡ won
  unfolding child_after
  move_decides true (At p) child movers few e so =
      grind (arith, attacker_from n node pos stands, child_gives node pos p child.0 child.1)
  move_decides true Pass child movers few e so = grind (arith, passed_by)
  move_decides false spot child movers few e so =
      grind (arith, cases_Bool, both_ways, won_after, defender_gives, add-one)

-- what a proof begins with decides how it goes on
begins : (P : Type 0) (settled : Bool) (move : Spot → List Word → Option (List Word))
    (each : List Word → Option (List Word)) (token : Option Token) (rest left : List Word)
    → by_token settled move each token rest ≡ Some left → (settled ≡ true → P)
    → ((spot : Spot) → move spot rest ≡ Some left → P) → (each rest ≡ Some left → P) → P
begins P settled move each None rest left e by_settled by_move by_each = absurd (let w = e in cc)
begins P true move each (Some Settled) rest left e by_settled by_move by_each = by_settled refl
begins P false move each (Some Settled) rest left e by_settled by_move by_each = absurd (let w = e in cc)
begins P settled move each (Some (Move spot)) rest left e by_settled by_move by_each = by_move spot e
begins P settled move each (Some Each) rest left e by_settled by_move by_each = by_each e

-- what is there under a test is there, and the test passes
there_by : (test : Bool) (o : Option (List Word)) (left : List Word) → cond test o None ≡ Some left
    → (test ≡ true) × (o ≡ Some left)
there_by true o left e = (refl, e)
there_by false o left e = absurd (let w = e in cc)

-- a proof at a child is that of a child that is there
child_there : (prove : Node → BoardState → List Word → Option (List Word)) (o : Option (Node × BoardState))
    (words left : List Word) → at_child prove o words ≡ Some left
    → (child : Node × BoardState) × (o ≡ Some child) × (prove child.0 child.1 words ≡ Some left)
child_there prove None words left e = absurd (let w = e in cc)
child_there prove (Some child) words left e = (child, refl, e)

-- a move that may prove the claim where the target stands is of the side that wants it, and the attacker may play at it
may_move_parts : (won : Bool) (node : Node) (pos : BoardState) → move_may_prove won node pos ≡ true
    → is_captured pos node.turn.target ≡ false
    → (is_wanted won node ≡ true) × ((node.turn.attacker_to_play && has_many_liberties node.turn pos) ≡ false)
unfolding move_may_prove
may_move_parts won node pos h stands = grind (arith, and_parts, not-true)

-- all moves that may prove the claim are of the side that does not want it, and the target stands
may_each_parts : (won : Bool) (node : Node) (pos : BoardState) → each_may_prove won node pos ≡ true
    → (is_wanted won node ≡ false) × (is_captured pos node.turn.target ≡ false)
unfolding each_may_prove
may_each_parts won node pos h = let parts = and_parts _ _ h in (not-true _ parts.0, not-true _ parts.1)

-- where the claim is so at the child behind a move that may prove it, it is so
move_sound : (n : ℕ) (won : Bool) (node : Node) (pos : BoardState) (spot : Spot) (child : Node × BoardState)
    → move_may_prove won node pos ≡ true → child_behind node pos spot ≡ Some child → IsSo n won child
    → attacker_wins (suc n) node pos ≡ won
move_sound n won node pos spot child may e so =
    grind (arith, cases_Bool, wins-taken_back, behind_taken, may_move_parts, move_decides, behind_standing)

-- what is proved at a node by words is so
pub proved_sound : (n : ℕ) (won : Bool) → IsSound n won
unfolding proves
proved_sound n won node pos [] left on e = absurd (let w = e in cc)
proved_sound zero won node pos (word ∷ rest) left on e = grind (arith, begins, settled_sound)
proved_sound (suc n) won node pos (word ∷ rest) left on e =
    begins (attacker_wins (suc n) node pos ≡ won) (is_settled (suc n) won node pos)
    (λ spot left. cond (move_may_prove won node pos) (at_child (proves n won) (child_behind node pos spot) left) None)
    (λ left. cond (each_may_prove won node pos) (at_each (proves n won) (children_of node pos) left) None)
    (token_of pos.size word) rest left e (settled_sound (suc n) won node pos on)
    (λ spot found.
    let may = there_by (move_may_prove won node pos) _ left found in
    let child = child_there (proves n won) (child_behind node pos spot) rest left may.1 in
    move_sound n won node pos spot child.0 may.0 child.1
    (proved_sound n won child.0.0 child.0.1 rest left (behind_on_board node pos spot child.0 on child.1) child.2))
    (λ found.
    let may = there_by (each_may_prove won node pos) _ left found in
    let parts = may_each_parts won node pos may.0 in
    each_decides n node pos parts.1 won parts.0
    (each_sound n won (proved_sound n won) (children_of node pos) rest left (children_on_board node pos on) may.1))
