-- The sure answer to a question: whether the string is surely captured, or whether that is not sure, under the ko
-- allowances of the codes, and the first move.
use Rattle.std.specs.Prelude.{ℕ, ◌-◌, Bool, not, ◌&&◌, ◌==◌, Option, None, Some, find, if◌then◌else◌}
use Rattle.go_rules.specs.Position.{BoardState}
use Rattle.go_rules.specs.Play.{pass}
use Rattle.read_rules.specs.declared.node.Node.{Node}
use Rattle.read_rules.specs.declared.question.Answer.{Answer}
use Rattle.read_rules.specs.declared.question.ReadingQuestion.{ReadingQuestion}
use Rattle.read_rules.specs.declared.question.Spot.{Spot}
use Rattle.read_rules.specs.declared.question.Spot.TheVariants.{Pass}
use Rattle.read_rules.specs.GameTree.{allowance_of, next_node, child_of, some_child, at_point}
use Rattle.read_rules.specs.Answer.{is_attack, first_node, is_about}
use Rattle.sure_rules.specs.Nodes.{is_attackers, has_too_many}
use Rattle.sure_rules.specs.SureTree.{tried_points, surely_wins}

-- there is a child, and with n plies left there the target is surely captured if the attacker moved to it, and is not
-- surely captured if the defender did
abbrev pub surely_suits : ℕ → Bool → Option (Node × BoardState) → Bool
surely_suits n attacker child = if attacker then some_child (surely_wins n) child else some_child
    (λ next here. not (surely_wins n next here)) child

-- p can be played, and with n plies left after it the target is surely captured if the attacker played, and is not
-- surely captured if the defender did
abbrev pub surely_succeeds : ℕ → Node → BoardState → ℕ → Bool
surely_succeeds n node pos p = surely_suits n (is_attackers node) (child_of node pos p)

-- it is the defender's turn, and with n plies left after his pass the target is not surely captured
abbrev pub pass_holds : ℕ → Node → BoardState → Bool
pass_holds n node pos = not (is_attackers node)
    && not (surely_wins n (next_node node (allowance_of node)) (pass pos))

-- the first point in reading order that is tried and succeeds
abbrev pub first_sure : ℕ → Node → BoardState → Option ℕ
first_sure n node pos = find (surely_succeeds n node pos) (tried_points node pos)

-- the first move that succeeds, with n plies left after it: the defender's pass before all points, and then the points
-- in reading order
abbrev pub first_sure_move : ℕ → Node → BoardState → Option Spot
first_sure_move n node pos = if pass_holds n node pos then Some Pass else at_point (first_sure n node pos)

-- the first move that succeeds; none if the attacker is to play and the target has too many liberties for him
abbrev pub sure_move : ℕ → Node → BoardState → Option Spot
sure_move n node pos = if is_attackers node && has_too_many node pos then None else first_sure_move n node pos

-- under the allowances of the code the capture is sure, if the question is an attack, or is not sure, if it is a
-- defence
abbrev pub surely_attains : ReadingQuestion → BoardState → ℕ → Bool
surely_attains q pos code = if is_attack q.kind then surely_wins q.plies (first_node q code) pos else not
    (surely_wins q.plies (first_node q code) pos)

-- the greatest code that the question surely attains; 0 if there is none, or if the question is about another position.
-- For an attack 0 says that no capture is sure; for a defence 0 says that the string is surely not to be saved, even if
-- the defender may ignore the ko ban once
unfoldable pub sure_code_of : ReadingQuestion → BoardState → ℕ
sure_code_of q pos =
    if not (is_about q pos) then 0
    else if surely_attains q pos 3 then 3
    else if surely_attains q pos 2 then 2
    else if surely_attains q pos 1 then 1
    else 0

-- the first move under the allowances of the code: in an attack the first move of a sure capture, in a defence the
-- first after which the capture is not sure, with the pass before all points
abbrev pub first_sure_move_of : ReadingQuestion → BoardState → ℕ → Option Spot
first_sure_move_of q pos code = first_sure_move (q.plies - 1) (first_node q code) pos

-- the move of a code: none for code 0
abbrev pub sure_move_of : ReadingQuestion → BoardState → ℕ → Option Spot
sure_move_of q pos code = if code == 0 then None else first_sure_move_of q pos code

-- the sure answer to the question on the position: its code, and for a code above 0 the first move that attains it
unfoldable pub sure_answer_of : ReadingQuestion → BoardState → Answer
sure_answer_of q pos = record { code = sure_code_of q pos; at = sure_move_of q pos (sure_code_of q pos) }
