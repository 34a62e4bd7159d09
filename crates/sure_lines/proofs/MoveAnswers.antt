-- The answers to a move.
use Rattle.std.proofs.Common.{◌≡◌, ◌<◌, [], ◌∷◌, ◌++◌, length, Result, Ok, Err, IsOk}
use Rattle.std.proofs.Common.{refl, arith}
use Rattle.std.proofs.lemmas.Bool.Decides.{nat_tests}
use Rattle.go_rules.specs.declared.Illegal.{Illegal}
use Rattle.go_rules.specs.declared.Move.{Move}
use Rattle.go_rules.specs.Replay.{moved}
use Rattle.go_history.specs.Games.{Game, most_moves}
use Rattle.gtp_cmd.specs.declared.refusals.RefuseText.TheVariants.{IllegalMove, HistoryFull}
use Rattle.sure_lines.specs.Answers.{IsAnswer}
use Rattle.sure_lines.specs.BoardCommands.{played, with_move}
use Rattle.sure_lines.specs.Effects.{Effect, succeeded, growing}
use Rattle.sure_lines.specs.Machine.{Machine, present}
use Rattle.sure_lines.specs.declared.answer.Answer.{Answer}
use Rattle.sure_lines.specs.declared.answer.Answer.TheVariants as answer

-- the machine with another game
abbrev pub with_game : Game → Machine → Machine
with_game game machine = record machine { game = game }

-- a result that is none of the errors
ok_unless : {T E : Type 0} (r : Result T E) → ((e : E) → r ≡ Err e → ⊥) → IsOk r
ok_unless (Ok x) none = refl
ok_unless (Err e) none = absurd (none e refl)

-- What a move does to a machine.
module _ (old : Machine) (m : Move) where
  -- a move that is added, if there is memory
  abbrev added : Effect
  added = growing (succeeded [] (with_move old m))

  -- the answer says what the game answered, and new is the game after it
  module _ (new : Game) (said : Answer) where
    -- the move was added
    pub move_added : new ≡ record old.game { moves = old.game.moves ++ m ∷ [] } → IsOk (moved (present old) m)
        → length old.game.moves < most_moves → said ≡ answer.Brief []
        → IsAnswer (played old m) said old (with_game new old)
    move_added is legal room says = grind (arith, nat_tests)

    -- it was refused as illegal
    pub move_illegal : (e : Illegal) → new ≡ old.game → moved (present old) m ≡ Err e
        → said ≡ answer.Refused IllegalMove → IsAnswer (played old m) said old (with_game new old)
    move_illegal e same forbidden says = grind arith

    -- it was refused since the list is full
    pub move_past_full : new ≡ old.game → IsOk (moved (present old) m) → length old.game.moves ≡ most_moves
        → said ≡ answer.Refused HistoryFull → IsAnswer (played old m) said old (with_game new old)
    move_past_full same legal full says = grind (arith, nat_tests)

    -- there was no memory for the move
    pub move_without_memory : new ≡ old.game → ((e : Illegal) → moved (present old) m ≡ Err e → ⊥)
        → ((IsOk (moved (present old) m) × (length old.game.moves ≡ most_moves)) → ⊥) → said ≡ answer.NoMemory
        → IsAnswer (played old m) said old (with_game new old)
    move_without_memory same legal room says = grind (arith, ok_unless, nat_tests)
