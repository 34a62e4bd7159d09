-- Where a play leads is where the try led, and it leads nowhere where the try was refused.
use Rattle.std.proofs.Common.{◌≡◌, ap, inl, inr, ◌∙◌, Some, arith}
use Rattle.std.proofs.lemmas.Bool.{both_ways}
use Rattle.go_rules.specs.Position.{BoardState}
use Rattle.go_base.specs.Facts.{Agrees, AddsIn, agrees_before, Grows-trans, AddsIn-trans}
use Rattle.trial_board.specs.Overlays.{neighbourhood_twice}
use Rattle.trial_board.specs.Trials.{after}
use Rattle.trial_board.specs.declared.moves.Tried.TheVariants.{Banned}
use Rattle.read_rules.specs.declared.node.Node.{Node}
use Rattle.read_tree.specs.Allowances.{under, own_ko}
use Rattle.read_tree.proofs.ChildLemmas.{child_of-done, child_of-dropped, child_of-suicide, child_of-refused}
use Rattle.read_tree.proofs.ChildLemmas.{moves-refused, moves-banned, at_most_one_more}
use Rattle.read_tree.proofs.AllowanceLemmas.{next_keeps, next_spends, nothing_left, one_left}
use Rattle.read_tree.proofs.making.make.Given.{Over}
use Rattle.read_tree.proofs.making.make.Goals.{After-play-in-Banned}
use Rattle.read_tree.proofs.making.make.Goals as goal

-- the play was made
pub returns-in-Done-clause-over : goal.returns-in-Done-clause-over
returns-in-Done-clause-over g c = λ pos a ko.
    let o = rw (c.in-Done.is, c.mover.ensures) at (c.play.ensures.over pos a) in
    child_of-done (under c.args.turn ko) (after pos c.args.board.now.moves) (after pos c.play.new.self.moves) c.args.p o
    ∙ ap (λ (n : Node). Some (n, after pos c.play.new.self.moves)) (next_keeps c.args.turn ko)

-- the ban forbade it, and the own allowance is not asked for
pub returns-then-not-own-clause-over : goal.returns-then-not-own-clause-over
returns-then-not-own-clause-over g c = λ pos a ko asked.
    let o = rw (c.in-Banned.is, c.mover.ensures) at (c.play.ensures.over pos a) in
    child_of-refused (under c.args.turn ko) (after pos c.args.board.now.moves)
    (after pos c.play.new.self.moves) c.args.p Banned o (λ e. cc)
    (λ e. nothing_left c.args.turn.attacker_to_play ko (λ own. both_ways c.args.own c.if-not-own.true (asked own)))

-- a first try that the ban forbids leaves the moves
moves_left : (g : Over) (c : After-play-in-Banned g) → c.play.new.self.moves ≡ c.args.board.now.moves
moves_left g c = grind (arith, moves-banned)

-- two tries at p look no further than one
two_near : (g : Over) (c : After-play-in-Banned g) (pos : BoardState)
    → Agrees (g.L.Look.seen c.play-in-Banned.new.self.look) pos
    → AddsIn (g.L.Look.seen c.args.board.now.look) (g.L.Look.seen c.play-in-Banned.new.self.look)
    (neighbourhood_twice pos.size (after pos c.args.board.now.moves).cells c.args.p)
two_near g c pos a = AddsIn-trans (c.play.ensures.near pos (agrees_before c.play-in-Banned.ensures.grows a))
    (rw (moves_left g c) at (c.play-in-Banned.ensures.near pos a))

-- the ban alone forbade it, and the own allowance is spent
pub returns-in-Done-play-clause-over : goal.returns-in-Done-play-clause-over
returns-in-Done-play-clause-over g c = λ pos a.
    let m = moves_left g (goal.at.returns-in-Done-play-clause-over g c).After-play-in-Banned in
    let here = after pos c.args.board.now.moves in
    let first = rw (c.in-Banned.is, c.mover.ensures) at
    (c.play.ensures.over pos (agrees_before c.play-in-Banned.ensures.grows a)) in
    let second = rw (c.in-Done-play.is, c.mover-in-Banned.ensures, m) at (c.play-in-Banned.ensures.over pos a) in
    let one = one_left c.args.turn.attacker_to_play in (
      child_of-dropped (under c.args.turn (own_ko c.args.turn.attacker_to_play)) here (after pos c.play.new.self.moves)
          (after pos c.play-in-Banned.new.self.moves) c.args.p first second (omega arith)
          ∙ ap (λ (n : Node). Some (n, after pos c.play-in-Banned.new.self.moves)) (next_spends c.args.turn),
      λ ko ne. child_of-refused (under c.args.turn ko) here (after pos c.play.new.self.moves) c.args.p Banned first
          (λ e. cc) (λ e. nothing_left c.args.turn.attacker_to_play ko ne),
    )

-- the ban forbade it, and it is suicide
pub returns-in_default : goal.returns-in_default
returns-in_default g c =
    let d = (goal.at.returns-in_default g c).After-play-in-Banned in
    let m = moves-refused c.mover-in-Banned.result c.args.p c.play-in-Banned.result c.play.new.self.moves
    c.play-in-Banned.new.self.moves c.play-in-Banned.ensures.moves c.in_default.not-Done ∙ moves_left g d in
    record {
      shown = c.play-in-Banned.ensures.shown ∙ c.play.ensures.shown;
      grows = Grows-trans c.play.ensures.grows c.play-in-Banned.ensures.grows;
      moves = m;
      few = at_most_one_more m;
      own = λ e. cc;
      near = two_near g d;
      over = λ pos a ko asked. child_of-suicide (under c.args.turn ko) (after pos c.args.board.now.moves)
          (after pos c.play.new.self.moves) (after pos c.play-in-Banned.new.self.moves) c.args.p
          c.play-in-Banned.result (rw (c.in-Banned.is, c.mover.ensures) at
          (c.play.ensures.over pos (agrees_before c.play-in-Banned.ensures.grows a)))
          (rw (c.mover-in-Banned.ensures, moves_left g d) at (c.play-in-Banned.ensures.over pos a))
          c.in_default.not-Done;
    }

-- a stone stands there, or it is suicide
pub returns-in-Occupied-clause-over : goal.returns-in-Occupied-clause-over
returns-in-Occupied-clause-over g c = λ pos a ko asked.
    let o = rw c.mover.ensures at (c.play.ensures.over pos a) in
    child_of-refused (under c.args.turn ko) (after pos c.args.board.now.moves)
    (after pos c.play.new.self.moves) c.args.p c.play.result o
    (λ e. elim c.in-Occupied.is [ inl h ↦ cc | inr h ↦ cc ])
    (λ e. elim c.in-Occupied.is [ inl h ↦ absurd cc | inr h ↦ absurd cc ])

-- two tries at p look no further than one
pub returns-in-Done-play-clause-near : goal.returns-in-Done-play-clause-near
returns-in-Done-play-clause-near g c = two_near g (goal.at.returns-in-Done-play-clause-near g c).After-play-in-Banned
