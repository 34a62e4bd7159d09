-- What was gathered are the later candidates of the wider tree, on every position that agrees with what was seen.
use Rattle.std.proofs.Common.{◌&&◌, ltb, ap, sym, ◌∙◌, arith}
use Rattle.std.specs.Cmp.{nat_cmp_total}
use Rattle.std.specs.FinSet as set
use Rattle.go_base.specs.Facts.{agrees_before, AddsIn-trans, AddsIn-mono}
use Rattle.trial_board.proofs.WalkLemmas.{on_agreed}
use Rattle.trial_board.specs.Trials.{after}
use Rattle.trial_board.proofs.AfterLemmas.{size-after}
use Rattle.wider_rules.specs.Further.{is_further}
use Rattle.read_rules.specs.Trees.{is_wider}
use Rattle.read_rules.proofs.AreaLemmas.{search_further}
use Rattle.read_rules.proofs.StageLemmas.{later_further}
use Rattle.read_moves.proofs.stages.wider_later_candidates.Goals as goal

-- the looks for the stated ones made no move
pub further_candidates-further-requires-clause-liberties : goal.further_candidates-further-requires-clause-liberties
further_candidates-further-requires-clause-liberties g c = grind arith

-- the stated ones and the further ones were gathered
pub returns-clause-over : goal.returns-clause-over
returns-clause-over g c = λ pos a p.
    let here = after pos c.args.board.now.moves in
    let turn = c.args.turn in
    let attacker = turn.attacker_to_play in
    let first = c.stated_later_candidates-found in
    let a1 = agrees_before c.further_candidates-further.ensures.stays.grows a in
    let found = rw first.ensures.stays.moves at (c.further_candidates-further.ensures.over pos a p) in
    ap (λ t. set.contains t p) c.join.ensures
    ∙ set.contains-union nat_cmp_total first.result c.further_candidates-further.result p
    ∙ later_further c.args.turn here p (set.contains first.result p)
    (set.contains c.further_candidates-further.result p) (first.ensures.over pos a1 p)
    (found ∙ ap (λ n. is_further (ltb 0 turn.wide) attacker n here.cells turn.target p)
    (sym (size-after pos c.args.board.now.moves))
    ∙ sym (ap (λ tree. is_wider tree && is_further (ltb 0 turn.wide) attacker here.size here.cells turn.target p)
    c.requires.tree))

-- each look is where candidates are looked for
pub returns-clause-near : goal.returns-clause-near
returns-clause-near g c = λ pos a.
    let here = after pos c.args.board.now.moves in
    let first = c.stated_later_candidates-found in
    let a1 = agrees_before c.further_candidates-further.ensures.stays.grows a in
    let a0 = agrees_before first.ensures.stays.grows a1 in
    let on = on_agreed _ _ (g.met.L.Look.sized c.args.board.now.look) a0 c.requires.on_board in
    let later = rw first.ensures.stays.moves at (c.further_candidates-further.ensures.near pos a) in
    AddsIn-trans (first.ensures.near pos a1)
    (AddsIn-mono later (search_further pos.size here.cells c.args.turn.target on c.args.turn.attacker_to_play))
