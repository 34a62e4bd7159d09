-- A play that was tried is taken back, and a refused one changed nothing.
use Rattle.std.proofs.Common.{◌*◌, take, ap, ◌∙◌, Ok, Err, is_ok}
use Rattle.go_base.specs.TakenBack.{before_play}
use Rattle.go_base.specs.Flats.{KeepsRest-trans}
use Rattle.go_base.proofs.HeldBoards.{held_free, held_position, holds_again, whole_after}
use Rattle.go_base.proofs.legal.is_free.Goals as goal

-- a play that is taken back leaves the board as it was
pub returns-in-Ok-clause-holds : goal.returns-in-Ok-clause-holds
returns-in-Ok-clause-holds c = λ pos h.
    let played = c.play_on.ensures.asks in
    let back = c.take_back.ensures.asks in
    let whole = whole_after _ _ played h.whole in
    holds_again h (KeepsRest-trans _ _ _ played back)
    (c.take_back.ensures.over pos (whole_after _ _ back whole)
    ∙ ap (λ n. before_play n c.args.c c.args.p c.in-Ok.played.taken
    (take (c.play_on.new.board.size * c.play_on.new.board.size) c.play_on.new.board.cells)) played.size
    ∙ c.in-Ok.ensures.undone pos whole (held_position h))

-- a play that was made is legal but for the ban
pub returns-in-Ok-clause-value : goal.returns-in-Ok-clause-value
returns-in-Ok-clause-value c = λ pos h.
    ap is_ok (held_free c.args.c c.args.p (Ok c.in-Ok.played.ban) h c.play_on.ensures.asks c.in-Ok.ensures.over)

-- a refused play leaves the board as it was
pub returns-in-Err-clause-holds : goal.returns-in-Err-clause-holds
returns-in-Err-clause-holds c = λ pos h.
    holds_again h c.play_on.ensures.asks (c.in-Err.ensures.undone pos (whole_after _ _ c.play_on.ensures.asks h.whole)
    (held_position h))

-- a play that was refused is not legal
pub returns-in-Err-clause-value : goal.returns-in-Err-clause-value
returns-in-Err-clause-value c = λ pos h.
    ap is_ok (held_free c.args.c c.args.p (Err c.in-Err.field-0) h c.play_on.ensures.asks c.in-Err.ensures.over)
