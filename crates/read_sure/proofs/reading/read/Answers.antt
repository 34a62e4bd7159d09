-- The answer is that of every position with the target's stone that agrees.
use Rattle.std.proofs.Common.{◌≡◌, true, arith}
use Rattle.go_rules.specs.Position.{BoardState}
use Rattle.go_base.specs.Facts.{Agrees}
use Rattle.read_rules.specs.Answer.{is_about}
use Rattle.read_rules.proofs.AnswerLemmas.{about_from}
use Rattle.read_sure.proofs.reading.read.Given.{Over}
use Rattle.read_sure.proofs.reading.read.Goals as goal
use Rattle.read_sure.proofs.reading.read.Goals.{After-cell-stone}

-- a position that agrees with what was seen after the look at the stone is one that the question is about
about : (g : Over) (c : After-cell-stone g) (pos : BoardState) → Agrees (g.L.Look.seen c.cell-stone.new.self) pos
    → is_about c.args.question pos ≡ true
about g c pos a = grind (arith, about_from)

-- the answer is so on each position that agrees with what was seen at the end
pub returns-clause-over : goal.returns-clause-over
returns-clause-over g c = grind (arith, about)
