-- The plan of a sure capture: at each turn of the attacker the first move that succeeds.
use Rattle.std.proofs.Common.{◌≡◌, ◌≢◌, ℕ, suc, ◌+◌, ◌-◌, ◌≤◌, true, false, List, [], ◌∷◌}
use Rattle.std.proofs.Common.{length, Option, Some, None, refl, sym, ap, subst, ◌∙◌, arith}
use Rattle.go_rules.specs.declared.Colour.{Colour}
use Rattle.go_rules.specs.Position.{BoardState, other}
use Rattle.read_rules.specs.declared.node.Node.{Node}
use Rattle.read_rules.specs.declared.question.Kind.TheVariants.{Attack, Defend}
use Rattle.read_rules.specs.declared.question.ReadingQuestion.{ReadingQuestion}
use Rattle.read_rules.specs.declared.question.Spot.{Spot}
use Rattle.read_rules.specs.declared.question.Spot.TheVariants.{At, Pass}
use Rattle.read_rules.specs.declared.tree.Tree.{Tree}
use Rattle.go_rules.specs.Play.{pass}
use Rattle.read_rules.specs.GameTree.{child_of, some_child, allowance_of, next_node}
use Rattle.read_rules.specs.Answer.{first_node, is_about}
use Rattle.read_rules.specs.Rules.{IsChild}
use Rattle.read_rules.proofs.RuleLemmas.{child_gives, child_from}
use Rattle.sure_rules.specs.Nodes.{is_attackers, defender_of, target_of, is_gone, is_taken_for_good}
use Rattle.sure_rules.specs.SureTree.{surely_wins}
use Rattle.sure_rules.specs.SureAnswer.{first_sure, sure_code_of}
use Rattle.sure_rules.specs.SureInWords.{EveryReplyFails}
use Rattle.sure_rules.specs.Defences.{Standing, IsMove, IsTaken, IsPlayed, opens, follows, answers}
use Rattle.sure_rules.specs.Defences.{HasPlanWithin, standing_at, start_of}
use Rattle.sure_rules.proofs.SureLemmas.{tried_on}
use Rattle.sure_rules.proofs.SureMoves.{first_sure_there}
use Rattle.sure_rules.proofs.MoveLemmas.{child_is_move, child_target, moved_child, moved_pass, attackers_by, defenders_by}
use Rattle.sure_rules.proofs.TakenLemmas.{not_taken_for_good, some_ply_left, stands_at_attackers, every_reply_fails}
use Rattle.sure_rules.proofs.DefenceLemmas.{start_is, attack_sure, defence_sure}

-- the plies that are left, the node and its position
record Stage : Type 0 where
  plies : ℕ
  node : Node
  board : BoardState

-- the stage after a play that led here, or to nowhere
stage_by : Stage → Option (Node × BoardState) → Stage
stage_by stage None = stage
stage_by stage (Some child) = record { plies = stage.plies - 1; node = child.0; board = child.1 }

-- the stage after one more move
stage_next : Stage → Spot → Stage
stage_next stage Pass = record {
  plies = stage.plies - 1;
  node = next_node stage.node (allowance_of stage.node);
  board = pass stage.board;
}
stage_next stage (At p) = stage_by stage (child_of stage.node stage.board p)

-- the stage after these moves, the newest first
stage_after : Stage → List Spot → Stage
stage_after start [] = start
stage_after start (spot ∷ moves) = stage_next (stage_after start moves) spot

-- the point that was found, or the first of the board
point_or_first : Option ℕ → ℕ
point_or_first None = 0
point_or_first (Some p) = p

-- the attacker's point at a stage: the first that succeeds
point_at : Stage → ℕ
point_at stage = point_or_first (first_sure (stage.plies - 1) stage.node stage.board)

-- a game by the plan has come to this stage, at which the target is surely captured with the plies that are left
record IsStage (tree : Tree) (target total : ℕ) (defender : Colour) (count : ℕ) (here : Standing)
    (stage : Stage) : Type 0 where
  stands : here ≡ standing_at stage.node stage.board
  in_tree : stage.node.turn.tree ≡ tree
  its : target_of stage.node ≡ target
  his : defender_of stage.node ≡ defender
  sure : surely_wins stage.plies stage.node stage.board ≡ true
  plies : stage.plies + count ≡ total

-- A game of so many moves at a stage where the target is not yet taken.
module _ (tree : Tree) (target total : ℕ) (defender : Colour) (count : ℕ) (here : Standing) (stage : Stage)
    (w : IsStage tree target total defender count here stage) (not_taken : IsTaken tree target defender here → ⊥) where
  -- the target is not taken for good at the node
  not_yet : is_taken_for_good stage.node stage.board ≡ false
  not_yet = not_taken_for_good stage.node stage.board (λ taken. not_taken
      (subst (IsTaken tree target defender) (sym w.stands)
      (subst (λ (r : Tree). IsTaken r target defender (standing_at stage.node stage.board)) w.in_tree
      (subst (λ t. IsTaken stage.node.turn.tree t defender (standing_at stage.node stage.board)) w.its
      (subst (λ (c : Colour). IsTaken stage.node.turn.tree (target_of stage.node) c
      (standing_at stage.node stage.board)) w.his taken)))))

  -- some ply is left
  some_left : stage.plies ≢ 0
  some_left = some_ply_left stage.plies stage.node stage.board not_yet w.sure

  -- and one less is left after a move
  one_less : stage.plies ≡ suc (stage.plies - 1)
  one_less = omega (arith, some_left)

  -- it is surely captured with these
  sure_here : surely_wins (suc (stage.plies - 1)) stage.node stage.board ≡ true
  sure_here = sym (ap (λ m. surely_wins m stage.node stage.board) one_less) ∙ w.sure

  -- the attacker's turn, by the colour to play
  his_turn : here.to_play ≡ other defender → is_attackers stage.node ≡ true
  his_turn turn = attackers_by (is_attackers stage.node) (defender_of stage.node)
      (sym (ap (λ (s : Standing). s.to_play) w.stands) ∙ turn ∙ ap other (sym w.his))

  -- the defender's turn, by the colour to play
  defenders_turn : here.to_play ≡ defender → is_attackers stage.node ≡ false
  defenders_turn turn = defenders_by (is_attackers stage.node) (defender_of stage.node)
      (sym (ap (λ (s : Standing). s.to_play) w.stands) ∙ turn ∙ sym w.his)

  -- a play that leads to a child where it is surely captured leads to the next stage
  by_child : (p : ℕ) (next : Node) (new : BoardState) (there : Standing) → IsChild stage.node stage.board p next new
      → there ≡ standing_at next new → surely_wins (stage.plies - 1) next new ≡ true
      → IsStage tree target total defender (suc count) there (stage_next stage (At p))
  unfolding stage_next stage_by
  by_child p next new there child is sure =
      let led : stage_by stage (Some (next, new)) ≡ stage_next stage (At p) =
      ap (stage_by stage) (sym (child_from stage.node stage.board p next new child)) in
      let same = child_target stage.node stage.board p next new child in
      subst (IsStage tree target total defender (suc count) there) led (record {
        stands = is;
        in_tree = same.2 ∙ w.in_tree;
        its = same.0 ∙ w.its;
        his = same.1 ∙ w.his;
        sure = sure;
        plies = let some = one_less in let sum = w.plies in omega (arith, some, sum);
      })

  -- at the attacker's turn the target stands
  not_gone : here.to_play ≡ other defender → is_gone stage.node stage.board ≡ false
  not_gone turn = stands_at_attackers stage.node stage.board not_yet (his_turn turn)

  -- the plan's point may be played
  plan_goes_on : here.to_play ≡ other defender → (there : Standing) × IsMove here (At (point_at stage)) there
  unfolding point_or_first point_at
  plan_goes_on turn =
      let found = first_sure_there (stage.plies - 1) stage.node stage.board (not_gone turn) (his_turn turn) sure_here in
      let point : found.0 ≡ point_at stage = sym (ap point_or_first found.1) in
      let child = child_there (child_of stage.node stage.board found.0) found.3 in
      let move = child_is_move stage.node stage.board found.0 child.0 child.1
      (tried_on stage.node stage.board found.0 found.2)
      (child_gives stage.node stage.board found.0 child.0 child.1 child.2) in (
        standing_at child.0 child.1,
        subst (λ (s : Standing). IsMove s (At (point_at stage)) (standing_at child.0 child.1)) (sym w.stands)
            (subst (λ p. IsMove (standing_at stage.node stage.board) (At p) (standing_at child.0 child.1)) point move),
      )
    where
      child_there : (o : Option (Node × BoardState)) → some_child (surely_wins (stage.plies - 1)) o ≡ true
          → (next : Node) × (new : BoardState) × (o ≡ Some (next, new))
      child_there None e = cc
      child_there (Some child) e = (child.0, child.1, refl)

  -- the plan's move leads to the next stage
  by_plan : here.to_play ≡ other defender → (there : Standing) → IsMove here (At (point_at stage)) there
      → IsStage tree target total defender (suc count) there (stage_next stage (At (point_at stage)))
  unfolding point_or_first point_at
  by_plan turn there move =
      let found = first_sure_there (stage.plies - 1) stage.node stage.board (not_gone turn) (his_turn turn) sure_here in
      let point : found.0 ≡ point_at stage = sym (ap point_or_first found.1) in
      let led = moved_child stage.node stage.board (point_at stage) there
      (subst (λ (s : Standing). IsMove s (At (point_at stage)) there) w.stands move) in
      let sure = subst (λ p. some_child (surely_wins (stage.plies - 1)) (child_of stage.node stage.board p) ≡ true) point
      found.3 in
      by_child (point_at stage) led.0 led.1 there led.2 led.3
      (sym (ap (some_child (surely_wins (stage.plies - 1)))
      (child_from stage.node stage.board (point_at stage) led.0 led.1 led.2)) ∙ sure)

  -- at the defender's turn every reply fails
  every_fails : here.to_play ≡ defender → EveryReplyFails (stage.plies - 1) stage.node stage.board
  every_fails turn =
      every_reply_fails (stage.plies - 1) stage.node stage.board not_yet (defenders_turn turn) sure_here

  -- his pass leads to the next stage
  by_pass : here.to_play ≡ defender → (there : Standing) → IsMove (standing_at stage.node stage.board) Pass there
      → IsStage tree target total defender (suc count) there (stage_next stage Pass)
  unfolding stage_next
  by_pass turn there move = record {
    stands = moved_pass stage.node stage.board there move;
    in_tree = w.in_tree;
    its = w.its;
    his = w.his;
    sure = (every_fails turn).passed;
    plies = let some = one_less in let sum = w.plies in omega (arith, some, sum);
  }

  -- and so does each reply
  by_reply : here.to_play ≡ defender → (spot : Spot) (there : Standing) → IsMove here spot there
      → IsStage tree target total defender (suc count) there (stage_next stage spot)
  by_reply turn Pass there move = by_pass turn there (subst (λ (s : Standing). IsMove s Pass there) w.stands move)
  by_reply turn (At p) there move =
      let led = moved_child stage.node stage.board p there (subst (λ (s : Standing). IsMove s (At p) there) w.stands move)
      in
      by_child p led.0 led.1 there led.2 led.3 ((every_fails turn).played p led.0 led.1 led.4 led.2)

-- A node at which the target is surely captured.
module _ (n : ℕ) (node : Node) (pos : BoardState) (sure : surely_wins n node pos ≡ true) where
  -- where the plan begins
  abbrev first_stage : Stage
  first_stage = record { plies = n; node = node; board = pos }

  -- the plan
  abbrev the_plan : List Spot → ℕ
  the_plan moves = point_at (stage_after first_stage moves)

  -- each game by the plan comes to such a stage
  comes_to : (moves : List Spot) (here : Standing)
      → IsPlayed node.turn.tree (target_of node) (defender_of node) the_plan (standing_at node pos) moves here
      → IsStage node.turn.tree (target_of node) n (defender_of node) (length moves) here (stage_after first_stage moves)
  unfolding stage_after
  comes_to moves here opens = record {
    stands = refl;
    in_tree = refl;
    its = refl;
    his = refl;
    sure = sure;
    plies = omega arith;
  }
  comes_to moves there (follows {moves = before} {here = at} game not_taken turn move) =
      by_plan node.turn.tree (target_of node) n (defender_of node) (length before) at (stage_after first_stage before)
      (comes_to before at game) not_taken turn there move
  comes_to moves there (answers {moves = before} {here = at} game not_taken turn spot move) =
      by_reply node.turn.tree (target_of node) n (defender_of node) (length before) at (stage_after first_stage before)
      (comes_to before at game) not_taken turn spot there move

  -- so the plan takes the target in time
  pub plan_takes : HasPlanWithin node.turn.tree n (target_of node) (defender_of node) (standing_at node pos)
  plan_takes = (
    the_plan,
    record {
      in_time = λ moves here game not_taken.
          let stage = stage_after first_stage moves in
          let w = comes_to moves here game in
          let some = some_left node.turn.tree (target_of node) n (defender_of node) (length moves) here stage w not_taken in
          let sum = w.plies in omega (arith, some, sum);
      can_go_on = λ moves here game not_taken turn.
          plan_goes_on node.turn.tree (target_of node) n (defender_of node) (length moves) here (stage_after first_stage moves)
          (comes_to moves here game) not_taken turn;
    },
  )

-- a target that is surely captured at the first node of a question is taken by a plan
question_plan : (q : ReadingQuestion) (pos : BoardState) (code : ℕ)
    → surely_wins q.plies (first_node q code) pos ≡ true → HasPlanWithin q.tree q.plies q.target q.colour (start_of q pos code)
question_plan q pos code sure =
    subst (HasPlanWithin q.tree q.plies q.target q.colour) (start_is q pos code q.kind)
    (plan_takes q.plies (first_node q code) pos sure)

-- a sure attack has a plan
pub attack_plan : (q : ReadingQuestion) (pos : BoardState) → q.kind ≡ Attack → sure_code_of q pos ≢ 0
    → HasPlanWithin q.tree q.plies q.target q.colour (start_of q pos (sure_code_of q pos))
attack_plan q pos kind some = question_plan q pos (sure_code_of q pos) (attack_sure q pos kind some)

-- against a string that is surely not to be saved there is one under each of the codes
pub defence_plan : (q : ReadingQuestion) (pos : BoardState) → is_about q pos ≡ true → q.kind ≡ Defend
    → sure_code_of q pos ≡ 0 → (code : ℕ) → 1 ≤ code → code ≤ 3
    → HasPlanWithin q.tree q.plies q.target q.colour (start_of q pos code)
defence_plan q pos about kind none code lo hi = grind (arith, question_plan, defence_sure)
