use Rattle.std.proofs.Common.{refl, ap, sym, ◌∙◌, ◌||◌, ◌&&◌, ◌*◌, ltb}
use Rattle.std.specs.Ordering.{nat_cmp}
use Rattle.std.specs.FinSet as set
use Rattle.go_rules.specs.Below.{any_below}
use Rattle.read_rules.specs.Candidates.{attacker_of, is_empty_beside}
use Rattle.read_rules.specs.Candidates.{is_left}
use Rattle.read_rules.proofs.StageLemmas.{wide_is}
use Rattle.read_proof.proofs.candidates.wide_by_liberties.Goals as goal

-- the points beside few liberties and what the attacker's plays leave were gathered
pub returns : goal.returns
returns c = λ p.
    let pos = c.args.pos.now in
    let libs = c.args.liberties.now in
    let beside = ltb (set.len libs) 3 && is_empty_beside pos.size pos.cells (set.contains libs) p in
    let left = any_below (pos.size * pos.size) (λ l. set.contains libs l && is_left pos c.attacker_of.result l p) in
    wide_is pos c.args.target p libs c.requires.liberties set.empty c.attacker_of.result
    (set.contains c.add_backfilling.new.found p) refl (c.attacker_of.ensures ∙ ap attacker_of c.cell.ensures)
    (c.add_backfilling.ensures p ∙ ap (λ b. b || left) (c.beside_few-found.ensures p
    ∙ ap (λ b. b || beside) (sym (set.contains-empty nat_cmp p))))
