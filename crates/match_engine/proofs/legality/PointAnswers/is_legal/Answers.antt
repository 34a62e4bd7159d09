use Rattle.std.proofs.Common.{◌∙◌, sym}
use Rattle.go_rules.specs.Play.{is_legal}
use Rattle.match_engine.proofs.QuestionPoints.{Knows-more}
use Rattle.match_engine.proofs.legality.PointAnswers.is_legal.Goals as goal

-- one answer more
pub returns-clause-knows : goal.returns-clause-knows
returns-clause-knows c =
    Knows-more (λ q. is_legal c.args.position.now c.args.colour q) c.args.self.now c.note.new.self c.args.at
    c.is_legal-legal.result c.requires.knows
    (sym c.has.ensures ∙ c.if-has.false) c.is_legal-legal.ensures c.note.ensures.asked c.note.ensures.holds
