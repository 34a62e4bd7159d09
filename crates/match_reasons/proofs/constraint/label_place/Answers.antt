use Rattle.std.proofs.Common.{rules, ◌≡◌, Some}
use Rattle.match_rules.specs.Conditions.{label_with}
use Rattle.match_reasons.proofs.Labels.{label_row, label_column}
use Rattle.match_reasons.proofs.constraint.label_place.Goals as goal

-- the label is one of the pattern's
pub cell_place-requires-clause-row : goal.cell_place-requires-clause-row
cell_place-requires-clause-row c =
    let found : label_with c.args.letter c.args.p.now.labels ≡ Some c.in_ok-label.label = search rules in
    label_row c.args.p.now.rows c.args.p.now.cols c.args.letter c.args.p.now.labels c.in_ok-label.label found
    c.args.p.now.labelled

-- the label is one of the pattern's
pub cell_place-requires-clause-column : goal.cell_place-requires-clause-column
cell_place-requires-clause-column c =
    let found : label_with c.args.letter c.args.p.now.labels ≡ Some c.in_ok-label.label = search rules in
    label_column c.args.p.now.rows c.args.p.now.cols c.args.letter c.args.p.now.labels c.in_ok-label.label found
    c.args.p.now.labelled
