-- What attains a code, by the answer to the question and by the plays that succeed.
use Rattle.std.proofs.Common.{◌≡◌, ◌≢◌, ◌∙◌, ◌↔◌, ℕ, ◌-◌, ◌&&◌, Bool, true, false, cond, Option, Some, None}
use Rattle.std.proofs.Common.{refl, sym, ap, subst, arith, ◌*◌, ◌<◌}
use Rattle.std.proofs.lemmas.Bool.{ne_eqb, lt-ltb, ltb-true, and_parts}
use Rattle.std.specs.Ordering.{nat_cmp}
use Rattle.std.specs.FinSet as sets
use Rattle.go_rules.specs.Position.{BoardState}
use Rattle.read_rules.proofs.CandidateLaws.{candidate_on}
use Rattle.read_rules.specs.Answer.{first_turn}
use Rattle.read_rules.specs.declared.node.Node.{Node}
use Rattle.read_rules.specs.declared.question.ReadingQuestion.{ReadingQuestion}
use Rattle.read_rules.specs.declared.question.Answer.{Answer}
use Rattle.read_rules.specs.declared.question.Spot.{Spot}
use Rattle.read_rules.specs.declared.question.Spot.TheVariants.{At, Pass}
use Rattle.read_rules.specs.GameTree.{child_of, succeeds, at_point}
use Rattle.read_rules.specs.Answer.{first_node, answer_of, code_of, move_of, first_move_of}
use Rattle.read_rules.specs.Rules.{Succeeds, IsFirstMove}
use Rattle.read_rules.specs.Candidates.{is_candidate}
use Rattle.read_rules.proofs.RuleLemmas.{child_from, answer_first, at-answer_of, code-answer_of}
use Rattle.read_tree.proofs.AllowanceLemmas.{suits_child}
use Rattle.read_tree.specs.Steps.{has_way}
use Rattle.read_all.specs.declared.moves.Among.{Among}
use Rattle.read_all.specs.declared.moves.Among.TheVariants.{Candidates, EveryPoint}
use Rattle.read_all.specs.AllMoves.{is_among, attains_at, attains_by_pass, AreMovesAmong, HasMove}

-- above code 0 it is the first move that attains the code
first_told : (q : ReadingQuestion) (pos : BoardState) (code : ℕ) → code ≢ 0
    → move_of q pos code ≡ first_move_of q pos code
first_told q pos code some = rw (ne_eqb code 0 some) refl

-- no point is the pass
no_point : (found : Option ℕ) → at_point found ≢ Some Pass
no_point None is = cc
no_point (Some p) is = cc

-- a first move is the pass exactly if the pass is good
by_pass : (told saves : Bool) (found : Option ℕ) → (told ≡ true) ↔ (cond saves (Some Pass) (at_point found) ≡ Some Pass)
    → told ≡ saves
by_pass true true found is = refl
by_pass false true found is = is.1 refl
by_pass true false found is = absurd (no_point found (is.0 refl))
by_pass false false found is = refl

-- if it is told of the first move of a code above 0 whether it is the pass, it is told whether the pass attains the
-- code
pub pass_told : (q : ReadingQuestion) (pos : BoardState) (answer : Answer) (told : Bool) → answer ≡ answer_of q pos
    → answer.code ≢ 0 → (told ≡ true) ↔ (answer.at ≡ Some Pass) → told ≡ attains_by_pass q pos answer.code
pass_told q pos answer told is some tells =
    grind (arith, by_pass told, lt-ltb 0 answer.code, at-answer_of, code-answer_of, first_told)

-- no play attains code 0
pub none_attains : (among : Among) (q : ReadingQuestion) (pos : BoardState) (p : ℕ)
    → false ≡ (is_among among q pos p && attains_at q pos 0 p)
none_attains among q pos p = grind arith

-- a play attains a code above 0 exactly if it gives its mover his way
pub play_attains : (q : ReadingQuestion) (pos : BoardState) (code p : ℕ) → code ≢ 0
    → succeeds (q.plies - 1) (first_node q code) pos p ≡ attains_at q pos code p
play_attains q pos code p some = grind (arith, lt-ltb)

-- a candidate is among the points that are looked at, whichever these are
candidate_among : (among : Among) (q : ReadingQuestion) (pos : BoardState) (code p : ℕ)
    → is_candidate (first_turn q) pos p ≡ true → is_among among q pos p ≡ true
candidate_among Candidates q pos code p candidate = candidate
candidate_among EveryPoint q pos code p candidate = grind (arith, lt-ltb, candidate_on)

-- a play that succeeds by the rules succeeds by the test
succeeds_by_rules : (n : ℕ) (node : Node) (pos : BoardState) (p : ℕ) → Succeeds n node pos p
    → succeeds n node pos p ≡ true
succeeds_by_rules n node pos p w =
    sym (suits_child n node.turn.attacker_to_play (child_of node pos p) w.next w.new
    (child_from node pos p w.next w.new w.child)) ∙ ap (has_way node.turn.attacker_to_play) w.outcome
    ∙ own_way node.turn.attacker_to_play
  where
    own_way : (b : Bool) → has_way b b ≡ true
    own_way true = refl
    own_way false = refl

-- the first move that attains a code above 0 is among the moves
first_among : (among : Among) (q : ReadingQuestion) (pos : BoardState) (code : ℕ) (pass : Bool)
    (points : sets.FinSet nat_cmp) (spot : Spot) → code ≢ 0 → IsFirstMove (q.plies - 1) (first_node q code) pos spot
    → pass ≡ attains_by_pass q pos code
    → ((p : ℕ) → sets.contains points p ≡ (is_among among q pos p && attains_at q pos code p)) → HasMove pass points
first_among among q pos code pass points Pass some first passes plays = grind (arith, lt-ltb)
first_among among q pos code pass points (At p) some first passes plays =
    grind (
      arith,
      candidate_among among q pos code p,
      play_attains q pos code p some,
      succeeds_by_rules (q.plies - 1) (first_node q code) pos p,
    )

-- a code above 0 has a move that attains it
pub some_move : {among : Among} {q : ReadingQuestion} {pos : BoardState} {code : ℕ} {pass : Bool}
    {points : sets.FinSet nat_cmp} → AreMovesAmong among q pos code pass points → q.plies ≢ 0 → code ≢ 0
    → HasMove pass points
some_move {among} {q} {pos} {code} {pass} {points} moves plies some =
    let same : code ≡ code_of q pos = moves.greatest ∙ code-answer_of q pos in
    let first = answer_first q pos plies (subst (λ k. k ≢ 0) same some) in
    first_among among q pos code pass points first.0 some
    (subst (λ k. IsFirstMove (q.plies - 1) (first_node q k) pos first.0) (sym same) first.2) moves.passes moves.plays

-- a point that is looked at is on the board
among_inside : (among : Among) (q : ReadingQuestion) (pos : BoardState) (code p : ℕ) → is_among among q pos p ≡ true
    → p < pos.size * pos.size
among_inside Candidates q pos code p among = candidate_on (first_turn q) pos p among
among_inside EveryPoint q pos code p among = ltb-true p (pos.size * pos.size) among

-- each of the points is on the board
pub moves_inside : {among : Among} {q : ReadingQuestion} {pos : BoardState} {code : ℕ} {pass : Bool}
    {points : sets.FinSet nat_cmp} → AreMovesAmong among q pos code pass points
    → (p : ℕ) → sets.contains points p ≡ true → p < pos.size * pos.size
moves_inside {among} {q} {pos} {code} moves p there = grind (arith, among_inside, and_parts)
