-- What a board shows is what stands on it.
use Rattle.std.proofs.Common.{◌≡◌, ℕ, ◌*◌, ◌<◌, sym, ap, subst, ◌∙◌}
use Rattle.go_rules.specs.Position.{BoardState, IsPosition}
use Rattle.go_strings.specs.declared.board.StringBoard.TheInside.{Inside}
use Rattle.go_strings.specs.Trails.{position_in}
use Rattle.go_strings.specs.Games.{BoardGame, reached, game_of, IsStringBoard}
use Rattle.go_strings.proofs.PlayAnswers.{kept_reached}

-- what the moves of a game have reached is what stands on the board that keeps it
pub shown : (a : Inside) (game : BoardGame) → IsStringBoard a → game_of a ≡ game → reached game ≡ position_in a.present
shown a game kept view = ap reached (sym view) ∙ kept_reached a kept

-- what a string board shows is a position
pub shown_sound : (a : Inside) (game : BoardGame) → IsStringBoard a → game_of a ≡ game → IsPosition (reached game)
shown_sound a game kept view = subst IsPosition (sym (shown a game kept view)) kept.sound.holds.position

-- a point on the board that is shown is on the board that stands
pub shown_point : (a : Inside) (game : BoardGame) (p : ℕ) → IsStringBoard a → game_of a ≡ game
    → p < (reached game).size * (reached game).size → p < a.present.board.size * a.present.board.size
shown_point a game p kept view on = subst (λ (pos : BoardState). p < pos.size * pos.size) (shown a game kept view) on
