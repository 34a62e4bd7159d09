use Rattle.std.proofs.Common.{ap, ◌∙◌, ◌||◌, arith}
use Rattle.std.specs.FinSet as set
use Rattle.wider_rules.proofs.StringLemmas.{joined}
use Rattle.read_rules.proofs.CandidateLaws.{candidate_on}
use Rattle.read_rules.proofs.StageLemmas.{candidate_later}
use Rattle.read_proof.proofs.candidates.candidates.Goals as goal

-- the liberties and the later candidates were joined to the last liberties
pub returns-clause-value : goal.returns-clause-value
returns-clause-value c = λ p.
    let around = c.surroundings-liberties in
    let libs = around.result.liberties in
    let last = around.result.last_liberties in
    let later = c.later_candidates.result in
    candidate_later c.args.turn c.args.pos.now p libs last around.ensures.liberties (around.ensures.last_liberties p)
    (set.contains c.join-2.new.self p) (set.contains later p) (c.later_candidates.ensures p)
    (joined c.join.new.self later c.join-2.new.self p c.join-2.ensures
    ∙ ap (λ y. y || set.contains later p) (joined last libs c.join.new.self p c.join.ensures))

-- a candidate is on the board
pub returns-clause-on_board : goal.returns-clause-on_board
returns-clause-on_board c = grind (arith, candidate_on, returns-clause-value)
