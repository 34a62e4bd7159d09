use Rattle.std.proofs.Common.{◌≡◌, ◌↔◌, ◌<◌, Err, length, sym, ap, subst, arith, ◌∙◌}
use Rattle.go_rules.specs.Replay.{moved}
use Rattle.go_strings.specs.Games.{reached}
use Rattle.go_history.specs.declared.history.HistoryError.TheVariants.{Illegal as illegal, NoMemory as no_memory}
use Rattle.go_history.specs.Games.{most_moves, position_of}
use Rattle.go_history.proofs.HeldGames.{shown_of, point_shown, room_to_count, IsHistory-push}
use Rattle.go_history.proofs.RefusedMoves.{MoveOutcome, illegal_is, told_is, no_memory_is}
use Rattle.go_history.proofs.history.History.play.Goals as goal
use Rattle.go_history.proofs.history.History.play.Goals.{After-self}

-- what the board shows is the position of the game
here : (c : After-self) → reached c.self.inside.board ≡ position_of c.args.self.now
here c = shown_of c.self.inside c.args.self.now c.self.invariant c.self.view_is

-- the list is full, and it is told what forbids the move
pub returns-then-len-ge-MAX_MOVES-clause-illegal : goal.returns-then-len-ge-MAX_MOVES-clause-illegal
returns-then-len-ge-MAX_MOVES-clause-illegal c = λ e.
    told_is (moved (position_of c.args.self.now) c.args.m) c.refused_when_full.result e
    (c.refused_when_full.ensures.illegal e)

-- the move's point is on the board
pub make-requires : goal.make-requires
make-requires c = point_shown c.self.inside c.args.self.now c.args.m c.self.invariant c.self.view_is c.requires

-- the rules forbid it
pub returns-in-Err-Illegal-clause-illegal : goal.returns-in-Err-Illegal-clause-illegal
returns-in-Err-Illegal-clause-illegal c =
    let at = goal.at.returns-in-Err-Illegal-clause-illegal c in
    let is = (c.in-Err-Illegal.ensures.illegal c.in-Err-Illegal.e).0 (ap Err c.in-Err-Illegal.field-0-is) in
    rw c.in-Err-Illegal.e-is (illegal_is (moved (position_of c.args.self.now) c.args.m) c.in-Err-Illegal.e
    (ap (λ pos. moved pos c.args.m) (sym (here at.After-self)) ∙ is))

-- there is no memory for it
pub returns-in-Err-NoMemory-clause-illegal : goal.returns-in-Err-NoMemory-clause-illegal
returns-in-Err-NoMemory-clause-illegal c =
    let at = goal.at.returns-in-Err-NoMemory-clause-illegal c in λ e.
    subst (λ pos. (◌≡◌ {A = MoveOutcome} (Err no_memory) (Err (illegal e)))
    ↔ (moved pos c.args.m ≡ Err e)) (here at.After-self)
    (no_memory_is (moved (reached c.self.inside.board) c.args.m) e c.in-Err-NoMemory.field-0
    c.in-Err-NoMemory.field-0-is (c.in-Err-NoMemory.ensures.illegal e))

-- there is room to count what it took
pub add-requires : goal.add-requires
add-requires c = room_to_count c.self.inside c.args.m c.from.result c.args.m.colour c.self.invariant
    (c.from.ensures ∙ c.in-Ok.ensures.taken)

-- the longer list is kept
pub invariant_of-self-in-Ok-push : goal.invariant_of-self-in-Ok-push
invariant_of-self-in-Ok-push c =
    let room : length c.self.inside.moves.items < most_moves = omega arith in
    IsHistory-push c.self.inside (record { board = c.make.new.self; moves = c.push.new.self; taken = c.add.new.self })
    c.args.m c.from.result c.self.invariant (record {
      board = c.in-Ok.ensures.ok;
      allowed = c.in-Ok.ensures.allowed;
      on_board = point_shown c.self.inside c.args.self.now c.args.m c.self.invariant c.self.view_is c.requires;
      room = room;
      moves = c.in-Ok-push.ensures.items;
      stones = c.from.ensures ∙ c.in-Ok.ensures.taken;
      taken = c.add.ensures;
    })
