-- A text spells one expression at most.
use Rattle.cons_parse.proofs.ReadingLemmas.{is_only}
use Rattle.cons_parse.proofs.laws.a_text_spells_one_expression.Goals as goal

-- both are the computed one
pub returns : goal.returns
returns c text v w h k = is_only text v w h k
