use Rattle.std.proofs.Common.{ap, ◌∙◌, ◌&&◌, ◌*◌}
use Rattle.std.specs.FinSet as set
use Rattle.go_rules.specs.Below.{any_below}
use Rattle.wider_rules.specs.Strings.{is_few_liberty}
use Rattle.read_proof.proofs.ApproachLemmas.{liberties_of_all}
use Rattle.read_proof.proofs.strings.all_liberties.Goals as goal

-- no string has more liberties than the board has points
pub returns : goal.returns
returns c = λ p.
    let pos = c.args.pos.now in
    let points = c.args.points.now in
    c.around_strings.ensures.liberties p
    ∙ ap (λ n. any_below (pos.size * pos.size) (λ q. set.contains points q && is_few_liberty 0 n pos.size pos.cells q p))
    (c.points.ensures.value ∙ ap (λ s. s * s) c.size.ensures.value)
    ∙ liberties_of_all pos.size pos.cells points p
