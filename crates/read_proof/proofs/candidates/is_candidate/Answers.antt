use Rattle.std.proofs.Common.{ap, ◌∙◌, ◌≡◌, true, sym}
use Rattle.std.specs.FinSet as set
use Rattle.go_rules.specs.Strings.{is_liberty}
use Rattle.go_rules.proofs.Paths.{IsLiberty-from_test}
use Rattle.go_base.proofs.LastLiberties.{contains-liberty_points}
use Rattle.read_rules.specs.Candidates.{fills}
use Rattle.read_rules.proofs.CandidateLaws.{candidate_from}
use Rattle.read_proof.proofs.candidates.is_candidate.Goals as goal

-- a liberty of the target is a candidate
pub returns-then-has : goal.returns-then-has
returns-then-has c =
    let pos = c.args.pos.now in
    let turn = c.args.turn in
    let p = c.args.p in
    let its : is_liberty pos.size pos.cells turn.target p ≡ true =
    sym (contains-liberty_points pos.size pos.cells turn.target p)
    ∙ ap (λ s. set.contains s p) (sym c.liberty_points.ensures)
    ∙ sym c.has.ensures ∙ c.if-has.true in
    c.if-has.true
    ∙ sym (candidate_from turn pos p c.requires.target
    (fills (IsLiberty-from_test pos.size pos.cells turn.target p its)))
