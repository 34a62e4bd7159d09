-- Where a play leads is where the try led, and it leads nowhere where the try was refused.
use Rattle.std.proofs.Common.{◌≡◌, sym, subst, inl, inr, ◌∙◌, ◌<◌, arith}
use Rattle.go_base.specs.Facts.{agrees_before, Grows-trans}
use Rattle.trial_board.specs.Trials.{after}
use Rattle.trial_board.specs.declared.moves.Tried.TheVariants.{Banned}
use Rattle.read_rules.specs.GameTree.{allowance_of}
use Rattle.read_tree.proofs.ChildLemmas.{child_of-done, child_of-dropped, child_of-suicide, child_of-refused}
use Rattle.read_tree.proofs.ChildLemmas.{moves-refused, moves-banned, at_most_one_more}
use Rattle.read_tree.proofs.nodes.make_at.Given.{Over}
use Rattle.read_tree.proofs.nodes.make_at.Goals.{After-play-in-Banned}
use Rattle.read_tree.proofs.nodes.make_at.Goals as goal

-- the play was made
pub returns-in-Done-clause-over : goal.returns-in-Done-clause-over
returns-in-Done-clause-over g c = λ pos a.
    let o = rw (c.in-Done.is, c.mover.ensures) at (c.play.ensures.over pos a) in
    rw (c.next.ensures, c.allowance.ensures)
    (child_of-done c.args.node (after pos c.args.board.now.moves) (after pos c.play.new.self.moves) c.args.p o)

-- the ban forbade it, and no allowance is left
pub returns-then-left-eq0-clause-over : goal.returns-then-left-eq0-clause-over
returns-then-left-eq0-clause-over g c = λ pos a.
    let o = rw (c.in-Banned.is, c.mover.ensures) at (c.play.ensures.over pos a) in
    child_of-refused c.args.node (after pos c.args.board.now.moves) (after pos c.play.new.self.moves) c.args.p Banned o
    (λ e. cc) (λ e. sym c.allowance-left.ensures ∙ c.if-left-eq0.true)

-- a first try that the ban forbids leaves the moves
moves_left : (g : Over) (c : After-play-in-Banned g) → c.play.new.self.moves ≡ c.args.board.now.moves
moves_left g c = grind (arith, moves-banned)

-- the ban alone forbade it, and an allowance is spent
pub returns-in-Done-play-clause-over : goal.returns-in-Done-play-clause-over
returns-in-Done-play-clause-over g c = λ pos a.
    let m = moves_left g (goal.at.returns-in-Done-play-clause-over g c).After-play-in-Banned in
    let some : 0 < allowance_of c.args.node =
    subst (λ n. 0 < n) c.allowance-left.ensures (omega (arith, c.if-left-eq0.false)) in
    rw (c.next-in-Done-play.ensures, c.allowance-left.ensures)
    (child_of-dropped c.args.node (after pos c.args.board.now.moves) (after pos c.play.new.self.moves)
    (after pos c.play-in-Banned.new.self.moves) c.args.p (rw (c.in-Banned.is, c.mover.ensures) at
    (c.play.ensures.over pos (agrees_before c.play-in-Banned.ensures.grows a)))
    (rw (c.in-Done-play.is, c.mover-in-Banned.ensures, m) at (c.play-in-Banned.ensures.over pos a)) some)

-- the ban forbade it, and it is suicide
pub returns-in_default : goal.returns-in_default
returns-in_default g c =
    let left = moves_left g (goal.at.returns-in_default g c).After-play-in-Banned in
    let m = moves-refused c.mover-in-Banned.result c.args.p c.play-in-Banned.result c.play.new.self.moves
    c.play-in-Banned.new.self.moves c.play-in-Banned.ensures.moves c.in_default.not-Done ∙ left in
    record {
      shown = c.play-in-Banned.ensures.shown ∙ c.play.ensures.shown;
      grows = Grows-trans c.play.ensures.grows c.play-in-Banned.ensures.grows;
      moves = m;
      few = at_most_one_more m;
      same = tt;
      over = λ pos a. child_of-suicide c.args.node (after pos c.args.board.now.moves) (after pos c.play.new.self.moves)
          (after pos c.play-in-Banned.new.self.moves) c.args.p c.play-in-Banned.result
          (rw (c.in-Banned.is, c.mover.ensures) at
          (c.play.ensures.over pos (agrees_before c.play-in-Banned.ensures.grows a)))
          (rw (c.mover-in-Banned.ensures, left) at (c.play-in-Banned.ensures.over pos a)) c.in_default.not-Done;
    }

-- a stone stands there, or it is suicide
pub returns-in-Occupied-clause-over : goal.returns-in-Occupied-clause-over
returns-in-Occupied-clause-over g c = λ pos a.
    let o = rw c.mover.ensures at (c.play.ensures.over pos a) in
    child_of-refused c.args.node (after pos c.args.board.now.moves) (after pos c.play.new.self.moves) c.args.p
    c.play.result o (λ e. elim c.in-Occupied.is [ inl h ↦ cc | inr h ↦ cc ])
    (λ e. elim c.in-Occupied.is [ inl h ↦ absurd cc | inr h ↦ absurd cc ])
