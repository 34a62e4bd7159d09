use Rattle.std.proofs.Common.{◌*◌, ◌∙◌, sym}
use Rattle.std.proofs.lemmas.Bool.{and_parts, ltb-true}
use Rattle.wider_rules.proofs.StringLemmas.{has_enemy}
use Rattle.wider_rules.proofs.SetLemmas.{covered_is}
use Rattle.read_proof.proofs.further.covered_liberties.Goals as goal

-- the enemies next to the target are on the board
pub around_strings-requires : goal.around_strings-requires
around_strings-requires c = λ q h.
    let pos = c.args.pos.now in
    let is = has_enemy pos.size pos.cells c.args.target q c.string_of-enemies.result.enemies
    c.string_of-enemies.ensures.enemies in
    ltb-true q (pos.size * pos.size) (and_parts _ _ (sym is ∙ h)).0

-- the liberties of their strings that have two or three
pub returns : goal.returns
returns c = λ l.
    c.around_strings.ensures.liberties l
    ∙ covered_is c.args.pos.now.size c.args.pos.now.cells c.args.target l c.string_of-enemies.result.enemies
    c.string_of-enemies.ensures.enemies
