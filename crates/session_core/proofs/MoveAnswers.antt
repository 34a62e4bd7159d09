-- The answers to a move.
use Rattle.std.proofs.Common.{◌≡◌, ◌<◌, [], ◌∷◌, ◌++◌, length, Result, Ok, Err, IsOk}
use Rattle.std.proofs.Common.{refl, arith}
use Rattle.std.proofs.lemmas.Bool.Decides.{nat_tests}
use Rattle.go_rules.specs.declared.Illegal.{Illegal}
use Rattle.go_rules.specs.declared.Move.{Move}
use Rattle.go_rules.specs.Replay.{moved}
use Rattle.go_history.specs.Games.{Game, most_moves}
use Rattle.gtp_cmd.specs.declared.refusals.RefuseText.TheVariants.{IllegalMove, HistoryFull}
use Rattle.machine_rules.specs.Machine.{Machine, position_of}
use Rattle.machine_rules.specs.BoardCommands.{played}
use Rattle.session_core.specs.CommandAnswers.{IsAnswer}
use Rattle.session_core.specs.declared.answer.Answer.{Answer}
use Rattle.session_core.specs.declared.answer.Answer.TheVariants as answer

-- the machine of a game, with the settings of another machine
abbrev pub with_game : Game → Machine → Machine
with_game game kept = record kept { base = game.base; moves = game.moves }

-- a result that is none of the errors
ok_unless : {T E : Type 0} (r : Result T E) → ((e : E) → r ≡ Err e → ⊥) → IsOk r
ok_unless (Ok x) none = refl
ok_unless (Err e) none = absurd (none e refl)

-- What a move does, where the game stands so.
module _ (game : Game) (kept : Machine) (m : Move) where
  -- the machine before the move
  abbrev old : Machine
  old = with_game game kept

  -- the machine with the move
  abbrev with_move : Machine
  with_move = with_game (record { base = game.base; moves = game.moves ++ m ∷ [] }) kept

  -- the answer says what the game answered, and new is the game after it
  module _ (new : Game) (said : Answer) where
    -- the move was added
    pub move_added : new ≡ record { base = game.base; moves = game.moves ++ m ∷ [] } → IsOk
        (moved (position_of old) m) → length game.moves < most_moves
        → said ≡ answer.Brief [] → IsAnswer (played old m) said (with_game new kept)
    move_added added legal room says = grind (arith, nat_tests)

    -- it was refused as illegal
    pub move_illegal : (e : Illegal) → new ≡ game → moved (position_of old) m ≡ Err e → said
        ≡ answer.Refused IllegalMove → IsAnswer (played old m) said (with_game new kept)
    move_illegal e same forbidden says = grind arith

    -- it was refused since the list is full
    pub move_past_full : new ≡ game → IsOk (moved (position_of old) m) → length game.moves ≡ most_moves → said
        ≡ answer.Refused HistoryFull → IsAnswer (played old m) said (with_game new kept)
    move_past_full same legal full says = grind (arith, nat_tests)

    -- there was no memory for the move
    pub move_without_memory : new ≡ game → ((e : Illegal) → moved (position_of old) m ≡ Err e → ⊥)
        → ((IsOk (moved (position_of old) m) × (length game.moves ≡ most_moves)) → ⊥) → said ≡ answer.NoMemory
        → IsAnswer (played old m) said (with_game new kept)
    move_without_memory same legal room says = grind (arith, ok_unless, nat_tests)
