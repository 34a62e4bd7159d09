-- The connections were asked once on the session's board, and that was counted.
use Rattle.std.proofs.Common.{◌≡◌, true, ap, ◌∙◌, rules, arith}
use Rattle.session_core.specs.EngineView.{EngineView, machine_alone, machine_with}
use Rattle.machine_rules.specs.LinkQuestions.{have_one_colour}
use Rattle.session_core.proofs.LineLinks.{succeeded-linked}
use Rattle.session_core.proofs.engine.Engine.tell_link.Goals as goal

-- a question about two stones of one colour asks the connections once, on the session's position and at its plies
pub returns-clause-links : goal.returns-clause-links
returns-clause-links c = grind arith

-- its answer is told
pub returns-clause-answer : goal.returns-clause-answer
returns-clause-answer c = λ helpers.
    let old = c.args.self.now in
    let view = c.self.view_is in
    let one : have_one_colour (machine_alone old) c.args.a c.args.b ≡ true = search rules in
    succeeded-linked old helpers c.args.kind c.args.a c.args.b c.position-position.result c.self.inside.links.plies
    c.size.result c.ask-linkage.result c.linkage_text.result c.text_answer.result
    (machine_with helpers c.count_link.new.self) one c.text_answer.ensures c.linkage_text.ensures.text
    c.size.ensures.value c.position-position.ensures.size c.position-position.ensures.value
    (c.self.invariant ∙ ap (λ (k : EngineView). k.depths.plies) view)
    c.ask-linkage.ensures.answer (c.count_link.ensures.machine helpers ∙ ap (machine_with helpers) view)
