use Rattle.std.proofs.Common.{ap, ltb, ◌∙◌, sym, ◌&&◌}
use Rattle.std.specs.FinSet as set
use Rattle.wider_rules.specs.Further.{is_further}
use Rattle.go_rules.proofs.Tests.{or-false}
use Rattle.read_rules.proofs.StageLemmas.{later_further}
use Rattle.wider_rules.proofs.StringLemmas.{joined}
use Rattle.read_proof.proofs.candidates.later_candidates.Goals as goal

-- in the wider tree the further candidates were joined
pub returns-then-is_wider : goal.returns-then-is_wider
returns-then-is_wider c = λ p.
    let turn = c.args.turn in
    let pos = c.args.pos.now in
    joined c.later_in_both_trees-found.result c.further_candidates.result c.join.new.self p c.join.ensures
    ∙ later_further turn pos p _ _ (c.later_in_both_trees-found.ensures p)
    (c.further_candidates.ensures p
    ∙ ap (λ b. b && is_further (ltb 0 turn.wide) turn.attacker_to_play pos.size pos.cells turn.target p)
    (sym c.if-is_wider.true ∙ c.is_wider.ensures))

-- in the stated tree nothing more is
pub returns-else-is_wider : goal.returns-else-is_wider
returns-else-is_wider c = λ p.
    let turn = c.args.turn in
    let pos = c.args.pos.now in
    or-false (set.contains c.later_in_both_trees-found.result p)
    ∙ later_further turn pos p _ _ (c.later_in_both_trees-found.ensures p)
    (ap (λ b. b && is_further (ltb 0 turn.wide) turn.attacker_to_play pos.size pos.cells turn.target p)
    (sym c.if-is_wider.false ∙ c.is_wider.ensures))
