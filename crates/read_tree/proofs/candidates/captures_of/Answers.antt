-- The last liberties that were found, but for the known liberties, are the captures.
use Rattle.std.proofs.Common.{◌∙◌, ◌&&◌, not, ap, sym}
use Rattle.std.specs.FinSet as set
use Rattle.std.specs.Cmp.{nat_cmp_total}
use Rattle.go_base.specs.Facts.{agrees_before}
use Rattle.go_base.specs.Surroundings.{is_last_liberty_of_enemy}
use Rattle.trial_board.specs.Trials.{after}
use Rattle.trial_board.proofs.AfterLemmas.{size-after}
use Rattle.read_tree.proofs.StageLemmas.{its_liberty}
use Rattle.read_tree.proofs.candidates.captures_of.Goals as goal

-- a member is a last liberty and no liberty of the target, on each position that agrees
pub returns-clause-over : goal.returns-clause-over
returns-clause-over g c = λ pos a p.
    let here = after pos c.args.board.now.moves in
    let size = size-after pos c.args.board.now.moves in
    let its = its_liberty pos.size here c.args.target c.args.known.now size
    (c.requires.liberties pos (agrees_before c.surroundings.ensures.stays.grows a)) p in
    ap (λ t. set.contains t p) c.difference.ensures
    ∙ set.contains-difference nat_cmp_total _ c.args.known.now p
    ∙ ap (λ b. b && not (set.contains c.args.known.now p)) ((c.surroundings.ensures.over pos a).1 p
    ∙ ap (λ n. is_last_liberty_of_enemy n here.cells c.args.target p) (sym size))
    ∙ ap (λ b. is_last_liberty_of_enemy here.size here.cells c.args.target p && not b) its
