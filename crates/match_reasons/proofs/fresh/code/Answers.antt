use Rattle.match_reasons.proofs.Captures.{fresh_code}
use Rattle.match_reasons.proofs.fresh.code.Goals as goal

-- the code of the answer
pub returns : goal.returns
returns c =
    fresh_code c.args.depths c.args.kind c.args.on.now c.args.target c.answer.result c.answer.ensures
