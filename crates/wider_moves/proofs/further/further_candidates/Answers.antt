-- The further candidates of every ply were gathered, and where a wide ply is left those of a wide ply.
use Rattle.std.proofs.Common.{sym, ap, ◌∙◌, arith}
use Rattle.go_base.specs.Facts.{agrees_before, AddsIn-trans}
use Rattle.trial_board.specs.Trials.{after}
use Rattle.wider_rules.specs.Further.{is_further}
use Rattle.wider_rules.proofs.SetLemmas.{further_joined, further_alone}
use Rattle.wider_moves.proofs.further.further_candidates.Goals as goal

-- the looks for those of every ply made no move
pub of_a_wide_ply-more-requires-clause-liberties : goal.of_a_wide_ply-more-requires-clause-liberties
of_a_wide_ply-more-requires-clause-liberties g c = grind arith

-- a wide ply is left
pub returns-then-wide-clause-over : goal.returns-then-wide-clause-over
returns-then-wide-clause-over g c = λ pos a p.
    let first = c.of_every_ply-found in
    let more = c.of_a_wide_ply-more in
    let here = after pos c.args.board.now.moves in
    further_joined pos.size here.cells c.args.target p c.args.attacker_to_play first.result more.result c.join.new.self
    c.join.ensures (first.ensures.over pos (agrees_before more.ensures.stays.grows a) p)
    (rw first.ensures.stays.moves at (more.ensures.over pos a p))
    ∙ ap (λ wide. is_further wide c.args.attacker_to_play pos.size here.cells c.args.target p) (sym c.if-wide.true)

-- none is left
pub returns-else-wide-clause-over : goal.returns-else-wide-clause-over
returns-else-wide-clause-over g c = λ pos a p.
    let here = after pos c.args.board.now.moves in
    further_alone pos.size here.cells c.args.target p c.args.attacker_to_play _
    (c.of_every_ply-found.ensures.over pos a p)
    ∙ ap (λ wide. is_further wide c.args.attacker_to_play pos.size here.cells c.args.target p) (sym c.if-wide.false)

-- each look is where further candidates are looked for
pub returns-then-wide-clause-near : goal.returns-then-wide-clause-near
returns-then-wide-clause-near g c = λ pos a.
    let first = c.of_every_ply-found in
    let more = c.of_a_wide_ply-more in
    AddsIn-trans (first.ensures.near pos (agrees_before more.ensures.stays.grows a))
    (rw first.ensures.stays.moves at (more.ensures.near pos a))
