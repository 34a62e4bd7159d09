-- The question is made from the stone at the target, and read.
use Rattle.std.proofs.Common.{◌≡◌, ◌∙◌, true, ap, sym, subst, arith}
use Rattle.go_rules.specs.Position.{BoardState, stone_of}
use Rattle.go_base.specs.Facts.{CellIs, same_size}
use Rattle.go_base.proofs.PointNeighbourhoods.{close_alone}
use Rattle.read_rules.specs.declared.question.ReadingQuestion.{ReadingQuestion}
use Rattle.read_rules.specs.Answer.{is_about, asked_in}
use Rattle.read_rules.specs.ActiveArea.{InActiveArea, AddsNear}
use Rattle.read_rules.proofs.AnswerLemmas.{about_from, stone-colour}
use Rattle.read_rules.proofs.AreaLemmas.{AddsNear-trans, target_on}
use Rattle.read_tree.proofs.StandingNodes.{near_asked}
use Rattle.read_tree.proofs.reading.answered.Goals as goal

-- the question is about the position shown
pub read-requires : goal.read-requires
read-requires g c = grind (arith, stone-colour)

-- the look at the target's cell and those of the reading lie in the active area
pub returns-clause-near : goal.returns-clause-near
returns-clause-near g c = λ pos a.
    let shown = g.L.Look.shows c.args.look in
    let asked = asked_in c.args.depths.tree shown c.args.kind c.args.target c.args.depths.plies c.args.depths.wide in
    let question = c.asked-question.result in
    let is_asked : question ≡ asked = c.asked-question.ensures.question in
    let size : pos.size ≡ shown.size = same_size (g.met.L.Look.sized c.read.result.look) a
    ∙ ap (λ (p : BoardState). p.size) (c.read.ensures.shown ∙ c.asked-question.ensures.shown) in
    let stone = a.each (CellIs question.target (stone_of question.colour)) c.read.ensures.target in
    let about : is_about asked pos ≡ true = subst (λ (q : ReadingQuestion). is_about q pos ≡ true) is_asked
    (about_from question pos (ap (λ (q : ReadingQuestion). q.size) is_asked ∙ sym size) stone) in
    let inside = target_on pos.size shown.size c.args.target size c.requires.on_board in
    AddsNear-trans (near_asked asked pos inside about c.asked-question.ensures.near)
    (subst (λ (q : ReadingQuestion). AddsNear (g.L.Look.seen c.asked-question.new.look)
    (g.L.Look.seen c.read.result.look) (InActiveArea q pos)) is_asked (c.read.ensures.near pos a))

-- with too many liberties no play is tried
pub returns-clause-too_many : goal.returns-clause-too_many
returns-clause-too_many g c = grind (arith, close_alone)
