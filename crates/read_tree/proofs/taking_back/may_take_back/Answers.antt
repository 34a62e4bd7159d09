-- The play at the point takes, or it is suicide.
use Rattle.std.proofs.Common.{◌≡◌, ◌*◌, ◌<◌, ◌∙◌, ◌||◌, true, ap, sym, subst, refl, arith}
use Rattle.go_rules.proofs.Paths.{same_cell-true}
use Rattle.go_rules.specs.Position.{BoardState, IsPosition, other}
use Rattle.go_base.specs.Facts.{Agrees, AddsIn, agrees_before, AddsIn-trans, AddsIn-mono}
use Rattle.go_base.proofs.PointNeighbourhoods.{close_alone, close_again}
use Rattle.trial_board.specs.Overlays.{neighbourhood_twice}
use Rattle.trial_board.specs.Trials.{after}
use Rattle.trial_board.proofs.AfterLemmas.{size-after}
use Rattle.trial_board.proofs.WalkLemmas.{on_agreed}
use Rattle.read_moves.specs.Steps.{AllLive}
use Rattle.read_rules.specs.GameTree.{is_walled_in}
use Rattle.read_tree.specs.Allowances.{Ko, under, defender_may, neither_may, attacker_may}
use Rattle.read_tree.proofs.AllowanceLemmas.{IsFiltered-all, IsFiltered-none}
use Rattle.read_tree.proofs.TakingLemmas.{quiet_fails, loud_plays, loud_allowed, IsFiltered-banned, defends}
use Rattle.read_tree.proofs.TakingLemmas.{nothing_of_it}
use Rattle.read_tree.proofs.TakingLemmas.{one_of_it}
use Rattle.read_tree.proofs.taking_back.may_take_back.Given.{Over}
use Rattle.read_tree.proofs.taking_back.may_take_back.Goals as goal
use Rattle.read_tree.proofs.taking_back.may_take_back.Goals.{After-is_quiet, After-bans}

-- the target's point after the moves
inside : (g : Over) (c : After-is_quiet g) (pos : BoardState) → Agrees (g.L.Look.seen c.is_quiet.new.board.look) pos
    → c.args.turn.target < (after pos c.args.board.now.moves).size * (after pos c.args.board.now.moves).size
inside g c pos a = grind (arith, size-after pos c.args.board.now.moves, on_agreed)

-- a play that takes nothing is suicide
pub returns-then-is_quiet-clause-over : goal.returns-then-is_quiet-clause-over
returns-then-is_quiet-clause-over g c = λ pos a sound taken walled.
    let d = (goal.at.returns-then-is_quiet-clause-over g c).After-is_quiet in
    let here = after pos c.args.board.now.moves in
    let turn = c.args.turn in
    let size = sym (size-after pos c.args.board.now.moves) in
    rw c.none.ensures (IsFiltered-none c.args.asked _ (λ ko.
    quiet_fails here turn.defender turn.target sound (inside g d pos a) (same_cell-true _ _ taken)
    (subst (λ m. is_walled_in m here.cells turn.target (other turn.defender) ≡ true) size walled) (under turn ko)
    (defends turn c.requires.defender)
    (subst (λ n. AllLive n here.cells turn.defender turn.target) size
    (c.is_quiet.ensures.over pos a c.if-is_quiet.true))))

-- else the enemy strings do not all live
loud : (g : Over) (c : After-bans g) (pos : BoardState) → Agrees (g.L.Look.seen c.bans.new.self.look) pos
    → let here = after pos c.args.board.now.moves in
    AllLive here.size here.cells c.args.turn.defender c.args.turn.target → ⊥
loud g c pos a live = grind (arith, size-after pos c.args.board.now.moves)

-- a play that the ban forbids is made by the defender's own allowance
pub returns-then-bans-clause-over : goal.returns-then-bans-clause-over
returns-then-bans-clause-over g c = λ pos a sound taken walled.
    let d = (goal.at.returns-then-bans-clause-over g c).After-bans in
    let e = (goal.at.returns-then-bans-clause-over g c).After-is_quiet in
    let here = after pos c.args.board.now.moves in
    let turn = c.args.turn in
    let size = sym (size-after pos c.args.board.now.moves) in
    let banned = sym (rw c.is_quiet.ensures.stays.moves at (c.bans.ensures.over pos a)) ∙ c.if-bans.true in
    let plays = λ (ko : Ko). loud_allowed here turn.defender turn.target sound
    (inside g e pos (agrees_before c.bans.ensures.stays.grows a)) (same_cell-true _ _ taken)
    (subst (λ m. is_walled_in m here.cells turn.target (other turn.defender) ≡ true) size walled) (under turn ko)
    (defends turn c.requires.defender) (loud g d pos a) banned in
    rw c.own_where.ensures (IsFiltered-banned c.args.asked _
    (plays defender_may ∙ one_of_it turn c.requires.defender)
    (plays neither_may ∙ nothing_of_it turn neither_may c.requires.defender refl)
    (plays attacker_may ∙ nothing_of_it turn attacker_may c.requires.defender refl))

-- and one that it does not forbid under all that is asked
pub returns-clause-over : goal.returns-clause-over
returns-clause-over g c = λ pos a sound taken walled.
    let d = (goal.at.returns-clause-over g c).After-bans in
    let e = (goal.at.returns-clause-over g c).After-is_quiet in
    let here = after pos c.args.board.now.moves in
    let turn = c.args.turn in
    let size = sym (size-after pos c.args.board.now.moves) in
    let free = sym (rw c.is_quiet.ensures.stays.moves at (c.bans.ensures.over pos a)) ∙ c.if-bans.false in
    IsFiltered-all c.args.asked _ (λ ko. loud_plays here turn.defender turn.target sound
    (inside g e pos (agrees_before c.bans.ensures.stays.grows a)) (same_cell-true _ _ taken)
    (subst (λ m. is_walled_in m here.cells turn.target (other turn.defender) ≡ true) size walled) (under turn ko)
    (defends turn c.requires.defender) (loud g d pos a) free)

-- the look for a ban lies near the point
ban_near : (g : Over) (c : After-bans g) (pos : BoardState) → Agrees (g.L.Look.seen c.bans.new.self.look) pos
    → AddsIn (g.L.Look.seen c.args.board.now.look) (g.L.Look.seen c.bans.new.self.look)
    (neighbourhood_twice pos.size (after pos c.args.board.now.moves).cells c.args.turn.target)
ban_near g c pos a =
    let cells = (after pos c.args.board.now.moves).cells in
    let a1 = agrees_before c.bans.ensures.stays.grows a in
    let on = on_agreed _ _ (g.met.L.Look.sized c.args.board.now.look)
    (agrees_before c.is_quiet.ensures.stays.grows a1) c.requires.target in
    AddsIn-trans (c.is_quiet.ensures.near pos a1) (AddsIn-mono c.bans.ensures.near
    (λ r h. close_again pos.size cells _ r (close_alone pos.size cells c.args.turn.target r on h)))

-- where the ban forbids the play
pub returns-then-bans-clause-near : goal.returns-then-bans-clause-near
returns-then-bans-clause-near g c = λ pos a. ban_near g (goal.at.returns-then-bans-clause-near g c).After-bans pos a

-- and where it does not
pub returns-clause-near : goal.returns-clause-near
returns-clause-near g c = λ pos a. ban_near g (goal.at.returns-clause-near g c).After-bans pos a
