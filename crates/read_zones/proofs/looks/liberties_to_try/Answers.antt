-- A liberty of the target is a candidate.
use Rattle.std.proofs.Common.{◌∙◌, ◌*◌, ◌<◌, ℕ, sym, subst}
use Rattle.go_rules.proofs.Paths.{IsLiberty-from_test}
use Rattle.go_base.specs.Facts.{agrees_before, same_size}
use Rattle.trial_board.specs.Trials.{after}
use Rattle.trial_board.proofs.AfterLemmas.{size-after}
use Rattle.read_rules.specs.Candidates.{fills}
use Rattle.read_rules.proofs.AreaLemmas.{target_on}
use Rattle.read_rules.proofs.CandidateLaws.{candidate_from}
use Rattle.read_tree.proofs.StageLemmas.{its_liberty}
use Rattle.read_zones.proofs.looks.liberties_to_try.Goals as goal

-- each liberty that was found is one on each position that agrees
pub returns-clause-over : goal.returns-clause-over
returns-clause-over g c = λ pos a p inside.
    let here = after pos c.args.board.now.moves in
    let target = c.args.node.turn.target in
    let size = size-after pos c.args.board.now.moves in
    let on = target_on pos.size (g.L.Look.shows c.args.board.now.look).size target
    (same_size (g.met.L.Look.sized c.args.board.now.look) (agrees_before c.liberties.ensures.stays.grows a))
    c.requires.target in
    let its = its_liberty pos.size here target c.liberties.result size (c.liberties.ensures.over pos a) in
    candidate_from c.args.node.turn here p (subst (λ (s : ℕ). target < s * s) (sym size) on)
    (fills (IsLiberty-from_test here.size here.cells target p (sym (its p) ∙ inside)))
