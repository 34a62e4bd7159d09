use Rattle.std.proofs.Common.{rules, ◌≡◌}
use Rattle.go_rules.specs.Strings.{cell_at}
use Rattle.go_rules.specs.declared.Cell.TheVariants.{Empty}
use Rattle.match_reasons.proofs.Captures.{not_captured, is_captured}
use Rattle.match_reasons.proofs.fresh.capture.Goals as goal

-- the attack fails
pub returns-then-attack-eq0 : goal.returns-then-attack-eq0
returns-then-attack-eq0 c =
    let some : cell_at c.args.on.now.cells c.args.at ≡ Empty → ⊥ = search rules in
    not_captured c.args.depths c.args.on.now c.args.at c.answer-attack.result some c.answer-attack.ensures
    c.if-attack-eq0.true

-- the attack succeeds
pub returns : goal.returns
returns c =
    let some : cell_at c.args.on.now.cells c.args.at ≡ Empty → ⊥ = search rules in
    is_captured c.args.depths c.args.on.now c.args.at c.answer-attack.result some c.answer-attack.ensures
    c.if-attack-eq0.false
