-- A sure capture stands against every defence.
use Rattle.std.proofs.Common.{◌≡◌, ◌≢◌, ℕ, zero, suc, ◌+◌, ◌-◌, ◌≤◌, true, cond, List, [], ◌∷◌, length}
use Rattle.std.proofs.Common.{refl, sym, ap, subst, ◌∙◌, arith, inl, inr}
use Rattle.std.proofs.lemmas.Bool.{cases_Bool, not-false}
use Rattle.go_rules.specs.declared.Colour.{Colour}
use Rattle.go_rules.specs.Position.{BoardState, other}
use Rattle.read_rules.specs.declared.node.Node.{Node}
use Rattle.read_rules.specs.declared.question.Kind.{Kind}
use Rattle.read_rules.specs.declared.question.Kind.TheVariants.{Attack, Defend}
use Rattle.read_rules.specs.declared.question.ReadingQuestion.{ReadingQuestion}
use Rattle.read_rules.specs.declared.question.Spot.{Spot}
use Rattle.read_rules.specs.declared.question.Spot.TheVariants.{At}
use Rattle.read_rules.specs.declared.tree.Tree.{Tree}
use Rattle.read_rules.specs.GameTree.{allowance_of, next_node}
use Rattle.read_rules.specs.Answer.{first_node, is_about}
use Rattle.read_rules.specs.Rules.{IsChild}
use Rattle.read_rules.proofs.AreaWords.{asked_as}
use Rattle.read_rules.proofs.CandidateLaws.{candidate_on}
use Rattle.sure_rules.specs.Nodes.{is_attackers, defender_of, target_of, is_taken_for_good}
use Rattle.sure_rules.specs.SureTree.{surely_wins}
use Rattle.sure_rules.specs.SureAnswer.{sure_code_of}
use Rattle.sure_rules.specs.SureInWords.{EveryReplyFails}
use Rattle.sure_rules.specs.Defences.{Standing, IsMove, passes, plays, ignores_the_ban, IsGame, begins, attacks}
use Rattle.sure_rules.specs.Defences.{replies, IsDefence, IsTakenAgainst, IsTakenAnyway, standing_at, start_of}
use Rattle.sure_rules.proofs.MoveLemmas.{stands_next, child_is_move, child_target}
use Rattle.sure_rules.proofs.SureLemmas.{sure_attacker_gives}
use Rattle.sure_rules.proofs.TakenLemmas.{every_reply_fails, stands_at_attackers, some_ply_left, taken_in_game}
use Rattle.sure_rules.proofs.SureCodes.{sure_code_another, sure_code_greatest}

-- a node at which the two sides stand so, about the same string, and at which it is surely captured with n plies left
record IsLost (n : ℕ) (node : Node) (there : Standing) : Type 0 where
  next : Node
  new : BoardState
  standing : standing_at next new ≡ there
  tree : next.turn.tree ≡ node.turn.tree
  target : target_of next ≡ target_of node
  defender : defender_of next ≡ defender_of node
  sure : surely_wins n next new ≡ true

-- if every reply fails, so does each move that the defender may make
reply_fails : (n : ℕ) (node : Node) (pos : BoardState) → EveryReplyFails n node pos
    → (spot : Spot) (there : Standing) → IsMove (standing_at node pos) spot there → IsLost n node there
reply_fails n node pos every spot there passes = grind (arith, stands_next)
reply_fails n node pos every spot there (plays p new on legal) =
    grind (arith, stands_next node pos new (allowance_of node))
reply_fails n node pos every spot there (ignores_the_ban p new on banned free some) =
    let next = next_node node (allowance_of node - 1) in
    let child : IsChild node pos p next new =
    inr (record { banned = banned; free = free; some_left = some; next_is = refl }) in
    record {
      next = next;
      new = new;
      standing = stands_next node pos new (allowance_of node - 1);
      tree = refl;
      target = refl;
      defender = refl;
      sure = every.played p next new on child;
    }

-- a node about the target, in the tree
record IsAboutIn (tree : Tree) (target : ℕ) (defender : Colour) (node : Node) : Type 0 where
  its_tree : node.turn.tree ≡ tree
  its_target : target_of node ≡ target
  its_defender : defender_of node ≡ defender

-- a child is about the same target
about_child : (tree : Tree) (target : ℕ) (defender : Colour) (node : Node) (pos : BoardState) (p : ℕ) (next : Node)
    → (new : BoardState) → IsAboutIn tree target defender node → IsChild node pos p next new
    → IsAboutIn tree target defender next
about_child tree target defender node pos p next new about child = grind (arith, child_target)

-- Games in which the defender of a colour answers by a reply.
module _ (tree : Tree) (target : ℕ) (defender : Colour) (start : Standing) (reply : List Spot → Spot)
    (answers : IsDefence defender reply start) where
  -- a game that has come to a node whose target is taken for good
  taken_here : (n : ℕ) (node : Node) (pos : BoardState) (moves : List Spot) → IsAboutIn tree target defender node
      → IsGame defender reply start moves (standing_at node pos) → length moves ≤ n → is_taken_for_good node pos ≡ true
      → IsTakenAgainst tree n target defender start reply
  taken_here n node pos moves about game few kept = grind (arith, taken_in_game)

  -- a game that has come to a node at which the target is surely captured with n plies left goes on to where it is
  -- taken
  goes_on : (n total : ℕ) (node : Node) (pos : BoardState) (moves : List Spot) → IsAboutIn tree target defender node
      → IsGame defender reply start moves (standing_at node pos) → n + length moves ≤ total
      → surely_wins n node pos ≡ true → IsTakenAgainst tree total target defender start reply
  goes_on zero total node pos moves about game few sure = grind (arith, cases_Bool, taken_here, some_ply_left)
  goes_on (suc n) total node pos moves about game few sure = elim (cases_Bool (is_taken_for_good node pos)) [
    | inl kept ↦ taken_here total node pos moves about game (omega (arith, few)) kept
    | inr not_yet ↦ elim (cases_Bool (is_attackers node)) [
      | inl turn ↦
          let w = (sure_attacker_gives n node pos (stands_at_attackers node pos not_yet turn) turn sure).1 in
          goes_on n total w.next w.new (At w.point ∷ moves)
          (about_child tree target defender node pos w.point w.next w.new about w.child)
          (attacks game
          (ap (λ b. cond b (other (defender_of node)) (defender_of node)) turn ∙ ap other about.its_defender) w.point
          (child_is_move node pos w.point w.next w.new (candidate_on node.turn pos w.point w.candidate) w.child))
          (omega (arith, few)) w.wins
      | inr turn ↦
          let his_turn = ap (λ b. cond b (other (defender_of node)) (defender_of node)) turn ∙ about.its_defender in
          let answer = answers moves (standing_at node pos) game his_turn in
          let w = reply_fails n node pos (every_reply_fails n node pos not_yet turn sure) (reply moves) answer.0
          answer.1 in
          goes_on n total w.next w.new (reply moves ∷ moves) (record {
            its_tree = w.tree ∙ about.its_tree;
            its_target = w.target ∙ about.its_target;
            its_defender = w.defender ∙ about.its_defender;
          })
          (subst (IsGame defender reply start (reply moves ∷ moves)) (sym w.standing) (replies game his_turn answer.1))
          (omega (arith, few)) w.sure
    ]
  ]

-- A target that is surely captured with n plies left is taken within n moves against every defence.
pub taken_anyway : (n : ℕ) (node : Node) (pos : BoardState) → surely_wins n node pos ≡ true
    → IsTakenAnyway node.turn.tree n (target_of node) (defender_of node) (standing_at node pos)
taken_anyway n node pos sure = λ reply answers.
    goes_on node.turn.tree (target_of node) (defender_of node) (standing_at node pos) reply answers n n node pos []
    (record { its_tree = refl; its_target = refl; its_defender = refl }) begins (omega arith) sure

-- a question's first node is where the question begins
pub start_is : (q : ReadingQuestion) (pos : BoardState) (code : ℕ) (kind : Kind)
    → standing_at (first_node (asked_as q kind) code) pos ≡ start_of (asked_as q kind) pos code
start_is q pos code Attack = refl
start_is q pos code Defend = refl

-- a target that is surely captured at the first node of a question is taken against every defence
pub question_taken : (q : ReadingQuestion) (pos : BoardState) (code : ℕ)
    → surely_wins q.plies (first_node q code) pos ≡ true
    → IsTakenAnyway q.tree q.plies q.target q.colour (start_of q pos code)
question_taken q pos code sure =
    grind (arith, start_is q pos code q.kind, taken_anyway q.plies (first_node q code) pos sure)

-- what is surely captured if an attack has a sure code
pub attack_sure : (q : ReadingQuestion) (pos : BoardState) → q.kind ≡ Attack → sure_code_of q pos ≢ 0
    → surely_wins q.plies (first_node q (sure_code_of q pos)) pos ≡ true
attack_sure q pos kind some = grind (arith, cases_Bool, sure_code_another, sure_code_greatest)

-- and under each code if a string is surely not to be saved
pub defence_sure : (q : ReadingQuestion) (pos : BoardState) → is_about q pos ≡ true → q.kind ≡ Defend
    → sure_code_of q pos ≡ 0 → (code : ℕ) → 1 ≤ code → code ≤ 3
    → surely_wins q.plies (first_node q code) pos ≡ true
defence_sure q pos about kind none code lo hi = grind (arith, not-false, sure_code_greatest)

-- a sure attack takes the target against every defence
pub attack_taken : (q : ReadingQuestion) (pos : BoardState) → q.kind ≡ Attack → sure_code_of q pos ≢ 0
    → IsTakenAnyway q.tree q.plies q.target q.colour (start_of q pos (sure_code_of q pos))
attack_taken q pos kind some = question_taken q pos (sure_code_of q pos) (attack_sure q pos kind some)

-- a string that is surely not to be saved is taken whatever the defender plays first, under each of the codes
pub defence_taken : (q : ReadingQuestion) (pos : BoardState) → is_about q pos ≡ true → q.kind ≡ Defend
    → sure_code_of q pos ≡ 0 → (code : ℕ) → 1 ≤ code → code ≤ 3
    → IsTakenAnyway q.tree q.plies q.target q.colour (start_of q pos code)
defence_taken q pos about kind none code lo hi = grind (arith, question_taken, defence_sure)
