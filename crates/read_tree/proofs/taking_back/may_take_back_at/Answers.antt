-- The play at the point takes, or it is suicide.
use Rattle.std.proofs.Common.{◌≡◌, ◌*◌, ◌<◌, ◌∙◌, true, ap, sym, subst, arith}
use Rattle.go_rules.proofs.Paths.{same_cell-true}
use Rattle.go_rules.specs.Position.{BoardState, IsPosition, other}
use Rattle.go_base.specs.Facts.{Agrees, agrees_before}
use Rattle.trial_board.specs.Trials.{after}
use Rattle.trial_board.proofs.AfterLemmas.{size-after}
use Rattle.trial_board.proofs.WalkLemmas.{on_agreed}
use Rattle.read_moves.specs.Steps.{AllLive}
use Rattle.read_rules.specs.GameTree.{is_walled_in}
use Rattle.read_tree.proofs.TakingLemmas.{quiet_fails, loud_plays, loud_allowed, defends}
use Rattle.read_tree.proofs.taking_back.may_take_back_at.Given.{Over}
use Rattle.read_tree.proofs.taking_back.may_take_back_at.Goals as goal
use Rattle.read_tree.proofs.taking_back.may_take_back_at.Goals.{After-is_quiet, After-bans}

-- the target's point after the moves
inside : (g : Over) (c : After-is_quiet g) (pos : BoardState) → Agrees (g.L.Look.seen c.is_quiet.new.board.look) pos
    → c.args.node.turn.target < (after pos c.args.board.now.moves).size * (after pos c.args.board.now.moves).size
inside g c pos a = grind (arith, size-after pos c.args.board.now.moves, on_agreed)

-- a play that takes nothing is suicide
pub returns-then-is_quiet-clause-over : goal.returns-then-is_quiet-clause-over
returns-then-is_quiet-clause-over g c = λ pos a sound taken walled.
    let d = (goal.at.returns-then-is_quiet-clause-over g c).After-is_quiet in
    let here = after pos c.args.board.now.moves in
    let turn = c.args.node.turn in
    let size = sym (size-after pos c.args.board.now.moves) in
    sym (quiet_fails here turn.defender turn.target sound (inside g d pos a) (same_cell-true _ _ taken)
    (subst (λ m. is_walled_in m here.cells turn.target (other turn.defender) ≡ true) size walled) c.args.node
    (defends turn c.requires.defender)
    (subst (λ n. AllLive n here.cells turn.defender turn.target) size
    (c.is_quiet.ensures.over pos a c.if-is_quiet.true)))

-- else the enemy strings do not all live
loud : (g : Over) (c : After-bans g) (pos : BoardState) → Agrees (g.L.Look.seen c.bans.new.self.look) pos
    → let here = after pos c.args.board.now.moves in
    AllLive here.size here.cells c.args.node.turn.defender c.args.node.turn.target → ⊥
loud g c pos a live = grind (arith, size-after pos c.args.board.now.moves)

-- a play that the ban forbids is made by an allowance
pub returns-then-bans-clause-over : goal.returns-then-bans-clause-over
returns-then-bans-clause-over g c = λ pos a sound taken walled.
    let d = (goal.at.returns-then-bans-clause-over g c).After-bans in
    let e = (goal.at.returns-then-bans-clause-over g c).After-is_quiet in
    let here = after pos c.args.board.now.moves in
    let turn = c.args.node.turn in
    let size = sym (size-after pos c.args.board.now.moves) in
    let banned = sym (rw c.is_quiet.ensures.stays.moves at (c.bans.ensures.over pos a)) ∙ c.if-bans.true in
    rw c.allowance.ensures (sym (loud_allowed here turn.defender turn.target sound
    (inside g e pos (agrees_before c.bans.ensures.stays.grows a)) (same_cell-true _ _ taken)
    (subst (λ m. is_walled_in m here.cells turn.target (other turn.defender) ≡ true) size walled) c.args.node
    (defends turn c.requires.defender) (loud g d pos a) banned))

-- and one that it does not forbid by none
pub returns-clause-over : goal.returns-clause-over
returns-clause-over g c = λ pos a sound taken walled.
    let d = (goal.at.returns-clause-over g c).After-bans in
    let e = (goal.at.returns-clause-over g c).After-is_quiet in
    let here = after pos c.args.board.now.moves in
    let turn = c.args.node.turn in
    let size = sym (size-after pos c.args.board.now.moves) in
    let free = sym (rw c.is_quiet.ensures.stays.moves at (c.bans.ensures.over pos a)) ∙ c.if-bans.false in
    sym (loud_plays here turn.defender turn.target sound
    (inside g e pos (agrees_before c.bans.ensures.stays.grows a)) (same_cell-true _ _ taken)
    (subst (λ m. is_walled_in m here.cells turn.target (other turn.defender) ≡ true) size walled) c.args.node
    (defends turn c.requires.defender) (loud g d pos a) free)
