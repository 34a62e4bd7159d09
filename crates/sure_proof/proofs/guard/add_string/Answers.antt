-- The string is searched, and what it asks for and what guards it come to the rest.
use Rattle.std.proofs.Common.{◌∙◌, ap}
use Rattle.std.specs.FinSet as set
use Rattle.go_rules.specs.Strings.{string_at, liberty_points}
use Rattle.sure_proof.specs.Rests.{two_within, shown_by, last_of}
use Rattle.sure_proof.proofs.GuardLemmas.{gathered_same, step_string}
use Rattle.sure_proof.proofs.guard.add_string.Goals as goal

-- it is served
pub returns : goal.returns
returns c = λ from before between.
    let s = c.args.pos.now.size in
    let cells = c.args.pos.now.cells in
    let q = c.args.q in
    let zone = c.args.zone.now in
    let so_far = c.args.so_far.now in
    let found = c.string_of-found.result in
    let its = c.string_of-found.ensures in
    gathered_same
    (c.join.ensures ∙ ap (set.union so_far.asked) (c.last_of.ensures
    ∙ ap (λ S. last_of S (two_within zone S)) its.liberties))
    (c.join-3.ensures ∙ ap (set.union so_far.guard) (c.shown_by.ensures
    ∙ ap (λ S. shown_by S found.liberties found.enemies (two_within zone found.liberties)) its.stones
    ∙ ap (λ S. shown_by (string_at s cells q) S found.enemies (two_within zone S)) its.liberties
    ∙ ap (λ S. shown_by (string_at s cells q) (liberty_points s cells q) S (two_within zone (liberty_points s cells q)))
    its.enemies))
    (c.join-2.ensures ∙ ap (set.union so_far.searched) its.stones)
    (step_string s cells c.args.c zone from so_far.asked so_far.guard so_far.searched before q between
    c.requires.on_board c.requires.member c.requires.stone)
