-- A question has a code above 0 if it attains one of the three, which are asked one after the other.
use Rattle.std.proofs.Common.{◌∙◌, sym}
use Rattle.problem_verdicts.proofs.CodeLemmas.{by_one, by_two, by_three}
use Rattle.problem_verdicts.proofs.judged.has_code.Goals as goal

-- code 1 is attained
pub returns-then-attains : goal.returns-then-attains
returns-then-attains c =
    by_one c.args.pos.now c.args.kind c.args.target c.args.depths c.requires.stone
    (sym c.attains.ensures ∙ c.if-attains.true)

-- code 2 is
pub returns-then-attains-2 : goal.returns-then-attains-2
returns-then-attains-2 c =
    by_two c.args.pos.now c.args.kind c.args.target c.args.depths c.requires.stone
    (sym c.attains-2.ensures ∙ c.if-attains-2.true)

-- neither is
pub returns : goal.returns
returns c =
    c.attains-3.ensures
    ∙ by_three c.args.pos.now c.args.kind c.args.target c.args.depths c.requires.stone
    (sym c.attains.ensures ∙ c.if-attains.false) (sym c.attains-2.ensures ∙ c.if-attains-2.false)
