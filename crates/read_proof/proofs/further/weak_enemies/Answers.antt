-- What stands around the enemies next to the target that have few liberties is Beside and the allies.
use Rattle.std.proofs.Common.{◌*◌, sym, ◌∙◌}
use Rattle.std.proofs.lemmas.Bool.{and_parts, ltb-true}
use Rattle.wider_rules.proofs.StringLemmas.{has_enemy}
use Rattle.wider_rules.proofs.SetLemmas.{beside_is, ally_is}
use Rattle.read_proof.proofs.further.weak_enemies.Goals as goal

-- the enemies next to the target are on the board
pub around_strings-weak-requires : goal.around_strings-weak-requires
around_strings-weak-requires c = λ q h.
    let pos = c.args.pos.now in
    let is = has_enemy pos.size pos.cells c.args.target q c.string_of-stones.result.enemies
    c.string_of-stones.ensures.enemies in
    ltb-true q (pos.size * pos.size) (and_parts _ _ (sym is ∙ h)).0

-- their liberties are Beside
pub returns-clause-liberties : goal.returns-clause-liberties
returns-clause-liberties c = λ p.
    c.around_strings-weak.ensures.liberties p
    ∙ beside_is c.args.pos.now.size c.args.pos.now.cells c.args.target c.args.most p c.string_of-stones.result.enemies
    c.string_of-stones.ensures.enemies

-- the enemies next to them that are not of the target's string are the allies
pub returns-clause-enemies : goal.returns-clause-enemies
returns-clause-enemies c = λ r.
    ally_is c.args.pos.now.size c.args.pos.now.cells c.args.target c.args.most r c.string_of-stones.result.enemies
    c.string_of-stones.result.stones c.around_strings-weak.result.enemies c.difference.result c.requires
    c.string_of-stones.ensures.enemies c.string_of-stones.ensures.stones (c.around_strings-weak.ensures.enemies r)
    c.difference.ensures
