-- The later candidates, but for the known liberties and the captures, are the others.
use Rattle.std.proofs.Common.{◌∙◌, ◌&&◌, not, ap}
use Rattle.std.specs.FinSet as set
use Rattle.std.specs.Cmp.{nat_cmp_total}
use Rattle.go_base.specs.Facts.{agrees_before}
use Rattle.trial_board.specs.Trials.{after}
use Rattle.trial_board.proofs.AfterLemmas.{size-after}
use Rattle.go_rules.specs.Strings.{is_liberty}
use Rattle.read_rules.specs.Stages.{is_later_candidate}
use Rattle.read_tree.proofs.StageLemmas.{its_liberty}
use Rattle.read_tree.proofs.candidates.others_of.Goals as goal

-- a member is a later candidate, no liberty of the target and no capture, on each position that agrees
pub returns-clause-over : goal.returns-clause-over
returns-clause-over g c = λ pos a p.
    let here = after pos c.args.board.now.moves in
    let a0 = agrees_before c.later_candidates.ensures.stays.grows a in
    let its = its_liberty pos.size here c.args.turn.target c.args.known.now (size-after pos c.args.board.now.moves)
    (c.requires.liberties pos a0) p in
    ap (λ t. set.contains t p) c.difference-2.ensures
    ∙ set.contains-difference nat_cmp_total _ c.args.captures.now p
    ∙ ap (λ b. b && not (set.contains c.args.captures.now p)) (ap (λ t. set.contains t p) c.difference.ensures
    ∙ set.contains-difference nat_cmp_total _ c.args.known.now p
    ∙ ap (λ b. b && not (set.contains c.args.known.now p)) (c.later_candidates.ensures.over pos a p)
    ∙ ap (λ b. is_later_candidate c.args.turn here p && not b) its)
    ∙ ap (λ b. (is_later_candidate c.args.turn here p
    && not (is_liberty here.size here.cells c.args.turn.target p)) && not b) (c.requires.captures pos a0 p)
