-- The words of a printed proof, each after a blank, and what it means to put bytes at the end of a text.
use Rattle.std.specs.Prelude.{◌≡◌, ℕ, ◌<◌, ◌≤◌, List, [], ◌∷◌, ◌++◌, length, Result, Ok, Err}
use Rattle.go_rules.specs.Position.{BoardState}
use Rattle.vertices.specs.Words.{blank}
use Rattle.trial_board.specs.Trials.{Trying, after}
use Rattle.read_proof.specs.Tokens.{Word}
use Rattle.write_proof.specs.declared.text.NoRoom.{NoRoom}
use Rattle.write_proof.specs.Room.{most_bytes}

-- the bytes of the words, each word after a blank
abbrev pub behind_blanks : List Word → List ℕ
behind_blanks [] = []
behind_blanks (word ∷ more) = blank ∷ (word ++ behind_blanks more)

-- if all went well, new is old followed by more, and is not too long; if not, it would be too long
abbrev pub Puts : {T : Type 0} → List ℕ → List ℕ → List ℕ → Result T NoRoom → Type 0
Puts old more new (Ok done) = (new ≡ old ++ more) × (length new ≤ most_bytes)
Puts old more new (Err e) = most_bytes < length (old ++ more)

-- the position that a board shows after its trial moves
abbrev pub position_on : {L : Type 0} → (L → BoardState) → Trying L → BoardState
position_on shows board = after (shows board.look) board.moves
