use Rattle.std.proofs.Common.{sym, ◌∙◌, arith}
use Rattle.read_tree.proofs.KnownPliesLemmas.{won_true, lost_true}
use Rattle.read_tree.proofs.known_plies.KnownPlies.with.Goals as goal

-- he has his way with so many plies
pub returns-then-good : goal.returns-then-good
returns-then-good c = grind (arith, won_true)

-- he has it not
pub returns : goal.returns
returns c = λ won mono t is.
    lost_true c.args.plies _ mono t (sym is ∙ c.if-good.false) (omega arith)
