use Rattle.std.proofs.Common.{◌≡◌, true, ap, ◌∙◌, refl}
use Rattle.std.proofs.lemmas.Bool.{eq-eqb}
use Rattle.trial_board.specs.Changed.{is_played_at}
use Rattle.trial_board.proofs.changes.Changes.note_made.Goals as goal

-- the point of the play is one if a stone was put
pub note-requires : goal.note-requires
note-requires c =
    let here : is_played_at c.args.made c.in-Play.play.at ≡ true =
    ap (λ m. is_played_at m c.in-Play.play.at) c.in-Play.is ∙ eq-eqb c.in-Play.play.at c.in-Play.play.at refl in
    c.requires c.in-Play.play.at here
