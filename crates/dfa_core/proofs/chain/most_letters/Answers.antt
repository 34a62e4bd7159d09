use Rattle.std.proofs.Common.{◌≡◌, ◌+◌, ◌*◌, ◌≤◌, max, min, ap, ◌∙◌, arith}
use Rattle.std.proofs.Math.Nat.{mul-le-mul_left, mul-le-mul_right}
use Rattle.go_rules.specs.Transform.{largest_offset}
use Rattle.dfa_core.proofs.Reaches.{length-inside}
use Rattle.dfa_core.proofs.chain.most_letters.Goals.{After-from-k}
use Rattle.dfa_core.proofs.chain.most_letters.Goals as goal

-- how far the cells are looked for
reach : (c : After-from-k) → c.from-k.result ≡ min (max c.args.p.now.rows c.args.p.now.cols) largest_offset
reach c = c.from-k.ensures ∙ c.min.ensures ∙ ap (λ n. min n largest_offset) c.max.ensures

-- past the square nothing is drawn
pub returns-clause-same : goal.returns-clause-same
returns-clause-same c = grind (arith, length-inside, reach)

-- the number of letters is at most that of all offsets
pub returns-clause-bound : goal.returns-clause-bound
returns-clause-bound c =
    let few : 2 * c.from-k.result + 1 ≤ 2 * largest_offset + 1 =
    omega (arith, reach (goal.at.returns-clause-bound c).After-from-k) in
    omega (arith, mul-le-mul_left (2 * c.from-k.result + 1) few, mul-le-mul_right (2 * largest_offset + 1) few)
