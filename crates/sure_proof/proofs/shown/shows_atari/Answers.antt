-- The string's stones, liberties and enemies are those that the definition names.
use Rattle.std.proofs.Common.{◌∙◌, ap, sym}
use Rattle.std.specs.FinSet as set
use Rattle.go_rules.specs.Strings.{string_at, liberty_points}
use Rattle.sure_proof.specs.Rests.{two_within, shown_by}
use Rattle.sure_proof.proofs.RestLemmas.{shows_is}
use Rattle.sure_proof.proofs.shown.shows_atari.Goals as goal

-- the point came to what shows its string
pub returns : goal.returns
returns c =
    let s = c.args.pos.now.size in
    let cells = c.args.pos.now.cells in
    let q = c.args.q in
    let zone = c.args.zone.now in
    let found = c.string_of.result in
    c.add.ensures ∙ ap (λ S. set.insert S q) (c.shown_by-shown.ensures
    ∙ ap (λ S. shown_by S found.liberties found.enemies (two_within zone found.liberties)) c.string_of.ensures.stones
    ∙ ap (λ S. shown_by (string_at s cells q) S found.enemies (two_within zone S)) c.string_of.ensures.liberties
    ∙ ap (λ S. shown_by (string_at s cells q) (liberty_points s cells q) S (two_within zone (liberty_points s cells q)))
    c.string_of.ensures.enemies) ∙ sym (shows_is s cells zone q)
