use Rattle.std.proofs.Common.{◌≡◌, Some, sym, subst, arith, ◌∙◌}
use Rattle.go_strings.specs.Living.{IsDeadSide}
use Rattle.go_strings.specs.Stands.{cells_of}
use Rattle.go_strings.proofs.LivingStones.{dead_next, dead_all}
use Rattle.go_strings.proofs.living.is_alive.Goals as goal
use Rattle.go_strings.proofs.living.is_alive.Goals.{in-Some+else-gives_life, in_default}

-- no side was looked at
pub loop-side-init : goal.loop-side-init
loop-side-init c = λ k l. absurd (omega arith)

-- one more gives no life, or lies off the board
pub loop-side-preserved : goal.loop-side-preserved
loop-side-preserved c =
    let s = c.args.board.now.size in
    let cells = cells_of c.args.board.now in
    elim c.match-neighbour.branch [
      | in-Some+else-gives_life w ↦ dead_next s cells c.args.c c.args.p c.loop-side.side c.loop-side.invariant
          (λ q at.
          let same : w.in-Some.q ≡ q = (let is : Some w.in-Some.q ≡ Some q = sym w.in-Some.is
          ∙ c.neighbour.ensures.value ∙ at in cc) in
          subst (IsDeadSide s cells c.args.c c.args.p) same (w.gives_life.ensures.no w.if-gives_life.false))
      | in_default w ↦ dead_next s cells c.args.c c.args.p c.loop-side.side c.loop-side.invariant
          (λ q at. absurd (w.in_default.not-Some q (c.neighbour.ensures.value ∙ at)))
    ]

-- with no life from the four sides the stone is dead
pub returns-clause-no : goal.returns-clause-no
returns-clause-no c = λ _. dead_all c.requires.put c.loop-side.side (omega arith) c.loop-side.invariant
