-- What the last move took.
use Rattle.std.proofs.Common.{◌≡◌, ℕ, ◌-◌, List, [], ◌∷◌, ◌++◌, length, take, get_or, sym, ap, ◌∙◌}
use Rattle.std.proofs.lemmas.List.{same_from_push}
use Rattle.go_rules.specs.declared.Move.{Move}
use Rattle.go_rules.specs.Replay.{taken_by, replay_from}
use Rattle.go_strings.specs.declared.board.StringBoard.TheInside.{Inside}
use Rattle.go_strings.specs.declared.standing.KeptMove.{KeptMove}
use Rattle.go_strings.specs.Games.{BoardGame, game_of, moves_of, moment_of, IsStringBoard}
use Rattle.go_strings.proofs.NoteTrails.{last_split}
use Rattle.go_strings.proofs.LeadingMoves.{trail_taken, moves_push}

-- the last move of the trail is the last of the game, and took as many stones as it says
pub last_taken_is : (a : Inside) (game : BoardGame) (n : ℕ) (v : KeptMove) (moves : List Move) (m : Move)
    → IsStringBoard a → game_of a ≡ game → n ≡ length a.past.items → (n ≡ 0 → ⊥) → v ≡ get_or a.past.items (n - 1) v
    → game.moves ≡ moves ++ m ∷ [] → v.taken ≡ taken_by (replay_from game.base moves) m.colour m.at
last_taken_is a game n v moves m kept view long some read is =
    let vs = take (n - 1) a.past.items in
    let trail = last_split a.past.items n v long some read in
    let all : moves_of vs ++ v.made ∷ [] ≡ moves ++ m ∷ [] =
    sym (moves_push vs v) ∙ ap moves_of (sym trail) ∙ ap (λ (g : BoardGame). g.moves) view ∙ is in
    let same = same_from_push (moves_of vs) moves v.made m all in
    trail_taken a.base a.past.items vs v (moment_of a) trail kept.leads
    ∙ ap (λ b. taken_by (replay_from b (moves_of vs)) v.made.colour v.made.at) (ap (λ (g : BoardGame). g.base) view)
    ∙ ap (λ ms. taken_by (replay_from game.base ms) v.made.colour v.made.at) same.0
    ∙ ap (λ (k : Move). taken_by (replay_from game.base moves) k.colour k.at) same.1
