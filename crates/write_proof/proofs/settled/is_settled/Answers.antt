-- What was found of the target is what the rules say of it.
use Rattle.std.proofs.Common.{◌≡◌, ◌∙◌, arith}
use Rattle.go_rules.proofs.Cells.{eq_is_same_cell}
use Rattle.read_rules.specs.GameTree.{is_captured}
use Rattle.trial_board.proofs.AfterLemmas.{size-after}
use Rattle.read_tree.specs.Allowances.{under}
use Rattle.read_tree.proofs.StageLemmas.{its_count}
use Rattle.write_proof.specs.Printed.{position_on}
use Rattle.write_proof.proofs.WriteLemmas.{settled_won, settled_captured, settled_end, settled_many}
use Rattle.write_proof.proofs.settled.is_settled.Given.{Over}
use Rattle.write_proof.proofs.settled.is_settled.Goals as goal
use Rattle.write_proof.proofs.settled.is_settled.Goals.{After-eq-captured}

-- whether the target is captured
captured : (g : Over) (c : After-eq-captured g)
    → c.eq-captured.result ≡ is_captured (position_on g.L.Look.shows c.args.board.now) c.args.turn.target
captured g c = grind (arith, eq_is_same_cell)

-- the claim is that the attacker wins
pub returns-then-won-clause-answer : goal.returns-then-won-clause-answer
returns-then-won-clause-answer g c = grind (arith, settled_won, captured)

-- the claim is that he does not, and the target is captured
pub returns-then-captured-clause-answer : goal.returns-then-captured-clause-answer
returns-then-captured-clause-answer g c = grind (arith, settled_captured, captured)

-- no ply is left
pub returns-then-plies-eq0-clause-answer : goal.returns-then-plies-eq0-clause-answer
returns-then-plies-eq0-clause-answer g c = grind (arith, settled_end, captured)

-- the target has too many liberties, or not
pub returns-clause-answer : goal.returns-clause-answer
returns-clause-answer g c = λ ko none.
    let shown = g.L.Look.shows c.args.board.now.look in
    let here = position_on g.L.Look.shows c.args.board.now in
    c.are_too_many.ensures
    ∙ settled_many c.args.plies (under c.args.turn ko) here c.eq-captured.result
    (captured g (goal.at.returns-clause-answer g c).After-eq-captured) none c.args.won c.count.result c.if-won.false
    c.if-captured.false c.if-plies-eq0.false
    (c.count.ensures.value ∙ its_count shown.size here c.args.turn.target c.liberties.result
    (size-after shown c.args.board.now.moves)
    (rw (c.cell.ensures.stays.moves, c.cell.ensures.stays.shown) at c.liberties.ensures.answer))
