-- The first looks are at the target and its liberties, and those of the reading lie in the active area.
use Rattle.std.proofs.Common.{◌≡◌, ◌≢◌, ◌*◌, ◌<◌, ◌∙◌, [], true, refl, subst, arith}
use Rattle.std.proofs.lemmas.Bool.{both_ways}
use Rattle.std.specs.FinSet as set
use Rattle.go_rules.specs.Position.{BoardState}
use Rattle.go_base.specs.Facts.{Agrees}
use Rattle.go_base.proofs.AddedFacts.{cell_near}
use Rattle.go_base.proofs.PointNeighbourhoods.{close_alone}
use Rattle.read_rules.specs.ActiveArea.{InActiveArea, AddsNear}
use Rattle.read_rules.specs.Answer.{is_about, answer_of}
use Rattle.read_rules.proofs.AnswerLemmas.{about_from, about_stands}
use Rattle.read_rules.proofs.AreaLemmas.{AddsNear-trans, target_on}
use Rattle.read_tree.specs.Steps.{unread}
use Rattle.read_tree.proofs.BestLemmas.{unread_answer, first_nodes}
use Rattle.read_tree.proofs.StandingNodes.{near_asked, near_beside, standing_node}
use Rattle.read_tree.proofs.reading.read.Given.{Over}
use Rattle.read_tree.proofs.reading.read.Goals as goal
use Rattle.read_tree.proofs.reading.read.Goals.{After-first_look-liberties, After-unread}

-- the target is on the board that is still shown
still_on : (g : Over) (c : After-first_look-liberties g)
    → c.args.question.target < (g.L.Look.shows c.first_look-liberties.result.look).size
    * (g.L.Look.shows c.first_look-liberties.result.look).size
still_on g c = grind (arith, target_on)

-- A position that agrees with what is seen after the first look.
module _ (g : Over) (c : After-first_look-liberties g) (pos : BoardState)
    (a : Agrees (g.L.Look.seen c.first_look-liberties.result.look) pos) where
  -- its size is that of the position shown
  size : pos.size ≡ (g.L.Look.shows c.args.look).size
  size = grind arith

  -- the question is about it
  about : is_about c.args.question pos ≡ true
  about = grind (arith, about_from, size)

  -- the target is on its board
  inside : c.args.question.target < pos.size * pos.size
  inside = grind (arith, target_on, size)

  -- the first looks lie in the active area
  looks_near : AddsNear (g.L.Look.seen c.args.look) (g.L.Look.seen c.first_look-liberties.result.look)
      (InActiveArea c.args.question pos)
  looks_near =
      let q = c.args.question in
      let some : q.plies ≢ 0 = omega (arith, c.requires.plies) in
      let node = standing_node _ (g.met.L.Look.sized c.first_look-liberties.result.look) a [] (still_on g c) refl
      (first_nodes q pos some) (about_stands q pos about) in
      AddsNear-trans (near_asked q pos inside about (cell_near c.cell-stone.ensures.only))
      (near_beside node (rw c.first_turn-turn.ensures at (c.first_look-liberties.ensures.near pos a)))

-- the position shown agrees with what is seen after the first look
shown_agrees : (g : Over) (c : After-first_look-liberties g)
    → Agrees (g.L.Look.seen c.first_look-liberties.result.look) (g.L.Look.shows c.args.look)
shown_agrees g c = subst (Agrees (g.L.Look.seen c.first_look-liberties.result.look))
    (c.first_look-liberties.ensures.shown ∙ c.cell-stone.ensures.same)
    (g.met.L.Look.holds c.first_look-liberties.result.look)

-- where the liberties that were found are too many, what is told without a reading is the answer to the question
unread_told : (g : Over) (c : After-unread g) (pos : BoardState)
    → Agrees (g.L.Look.seen c.first_look-liberties.result.look) pos → is_about c.args.question pos ≡ true
    → c.args.question.target < pos.size * pos.size → c.unread.result ≡ answer_of c.args.question pos
unread_told g c pos a about inside = grind (arith, unread_answer)

-- it is so on each position that agrees
pub returns-then-has_too_many-clause-over : goal.returns-then-has_too_many-clause-over
returns-then-has_too_many-clause-over g c = grind (arith, unread_told g)

-- and on the one shown
pub returns-then-has_too_many-clause-answer : goal.returns-then-has_too_many-clause-answer
returns-then-has_too_many-clause-answer g c = grind (arith, shown_agrees g, unread_told g)

-- only the target and its liberties were looked at
pub returns-then-has_too_many-clause-near : goal.returns-then-has_too_many-clause-near
returns-then-has_too_many-clause-near g c = grind (arith, looks_near)

-- no play was tried, and the looks lie near the target
pub returns-then-has_too_many-clause-too_many : goal.returns-then-has_too_many-clause-too_many
returns-then-has_too_many-clause-too_many g c = grind (arith, cell_near, close_alone, target_on, shown_agrees)

-- the liberties that were found are the target's, and they are not too many
pub read_through-requires : goal.read_through-requires
read_through-requires g c =
    grind (
      arith,
      still_on g (goal.at.read_through-requires g c).After-first_look-liberties,
      c.requires.plies,
      c.requires.few,
      c.first_look-liberties.ensures.over,
      c.has_too_many.ensures,
      c.if-has_too_many.false,
      c.first_turn-turn.ensures,
    )

-- the reading's answer is that of the question
pub returns-clause-over : goal.returns-clause-over
returns-clause-over g c = grind arith

-- its looks lie in the active area too
pub returns-clause-near : goal.returns-clause-near
returns-clause-near g c = grind (arith, looks_near g, about g)

-- plays are tried only where the liberties are not too many
pub returns-clause-too_many : goal.returns-clause-too_many
returns-clause-too_many g c = grind (arith, both_ways, shown_agrees)
