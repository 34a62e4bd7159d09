-- The checker answers what the words prove: a word at a node, a node at a time.
use Rattle.std.proofs.Common.{◌∙◌, ◌-◌, ◌*◌, ◌≤◌, true, false, ap, sym, refl, arith, Some}
use Rattle.std.specs.FinSet as set
use Rattle.vertices.specs.Words.{kept}
use Rattle.read_rules.specs.declared.question.Spot.TheVariants.{At}
use Rattle.read_rules.specs.GameTree.{child_of, taking_back}
use Rattle.read_proof.specs.Tokens.{words_in}
use Rattle.read_proof.specs.Proves.{child_after}
use Rattle.read_proof.proofs.ChildLemmas.{after_off}
use Rattle.sure_proof.specs.Rests.{candidate_rests_on, play_rests_on}
use Rattle.sure_proof.specs.SureProofs.{proves_surely, proved_by, with_move}
use Rattle.sure_proof.proofs.StepLemmas.{no_words, capture_word, out_of_plies, turn_word, replies_end, replies_on}
use Rattle.sure_proof.proofs.StepLemmas.{replies_fail, play_refused, play_fails, play_holds, reply_refused, reply_unnamed}
use Rattle.sure_proof.proofs.StepLemmas.{reply_fails, reply_holds, pass_fails, replies_missing, end_missing, end_comes}
use Rattle.sure_proof.proofs.StepLemmas.{turn_barred, turn_moves, turn_back, turn_replies}
use Rattle.sure_proof.proofs.StepLemmas.{back_refused, back_unnamed, back_fails, back_holds}
use Rattle.sure_proof.proofs.walk.+proof.Goals as goal

-- no word is left
pub proved-returns-in_err-word : goal.proved-returns-in_err-word
proved-returns-in_err-word t c =
    rw c.from_residual.ensures (no_words c.args.node c.args.pos.now (words_in c.args.text.now) c.args.plies
    c.in_err-word.ensures)

-- the word is `.`
pub proved-returns-then-spells : goal.proved-returns-then-spells
proved-returns-then-spells t c =
    rw (capture_word c.args.node c.args.pos.now (words_in c.args.text.now) _ _ c.in_ok-word.ensures c.args.plies
    (sym c.spells.ensures ∙ c.if-spells.true)) c.capture_proved.ensures

-- no ply is left
pub proved-returns-then-plies-eq0 : goal.proved-returns-then-plies-eq0
proved-returns-then-plies-eq0 t c =
    out_of_plies c.args.node c.args.pos.now (words_in c.args.text.now) _ _ c.in_ok-word.ensures c.args.plies
    (sym c.spells.ensures ∙ c.if-spells.false) c.if-plies-eq0.true

-- the word says what its side does
pub proved-returns : goal.proved-returns
proved-returns t c =
    rw (turn_word c.args.node c.args.pos.now (words_in c.args.text.now) _ _ c.in_ok-word.ensures c.args.plies
    (sym c.spells.ensures ∙ c.if-spells.false) c.if-plies-eq0.false) c.turn_proved.ensures

-- the attacker is barred
pub turn_proved-returns-then-is_barred : goal.turn_proved-returns-then-is_barred
turn_proved-returns-then-is_barred t c =
    turn_barred (proves_surely c.args.plies) c.args.node c.args.pos.now (kept c.args.word.now) (words_in c.args.text.now)
    c.if-node.true (sym c.is_barred.ensures ∙ c.if-is_barred.true)

-- he plays
pub turn_proved-returns-then-node : goal.turn_proved-returns-then-node
turn_proved-returns-then-node t c =
    let made = rw (c.target_named.ensures, c.size.ensures.value) at c.move_proved.ensures in
    rw (turn_moves (proves_surely c.args.plies) c.args.node c.args.pos.now (kept c.args.word.now) (words_in c.args.text.now) c.if-node.true
    (sym c.is_barred.ensures ∙ c.if-is_barred.false)) made

-- the defender passes and replies
pub turn_proved-returns-then-spells : goal.turn_proved-returns-then-spells
turn_proved-returns-then-spells t c =
    rw (turn_replies (proves_surely c.args.plies) c.args.node c.args.pos.now (kept c.args.word.now) (words_in c.args.text.now)
    c.if-node.false (sym c.spells.ensures ∙ c.if-spells.true)) c.defence_proved.ensures

-- he takes back
pub turn_proved-returns : goal.turn_proved-returns
turn_proved-returns t c =
    rw (turn_back (proves_surely c.args.plies) c.args.node c.args.pos.now (kept c.args.word.now) (words_in c.args.text.now)
    c.if-node.false (sym c.spells.ensures ∙ c.if-spells.false)) c.back_proved.ensures

-- he cannot take back
pub back_proved-returns-in_err-next : goal.back_proved-returns-in_err-next
back_proved-returns-in_err-next t c =
    rw c.from_residual.ensures (back_refused (proves_surely c.args.plies) c.args.node c.args.pos.now
    (kept c.args.word.now) (taking_back c.args.node c.args.pos.now) (words_in c.args.text.now)
    (sym c.taking_back.ensures.value ∙ c.in_err-next.was))

-- the word is another one than the vertex of the target's point
pub back_proved-returns-then-not-is_vertex : goal.back_proved-returns-then-not-is_vertex
back_proved-returns-then-not-is_vertex t c =
    back_unnamed (proves_surely c.args.plies) c.args.node c.args.pos.now (kept c.args.word.now)
    (taking_back c.args.node c.args.pos.now) (words_in c.args.text.now) (c.in_ok-next.next, c.in_ok-next.new)
    (sym c.taking_back.ensures.value ∙ c.in_ok-next.was)
    (rw c.size-2.ensures.value at (sym c.is_vertex.ensures ∙ c.if-not-is_vertex.true))

-- no proof comes behind it
pub back_proved-returns-in_err-left : goal.back_proved-returns-in_err-left
back_proved-returns-in_err-left t c =
    rw c.from_residual-in_err-left.ensures (back_fails (proves_surely c.args.plies) c.args.node c.args.pos.now
    (kept c.args.word.now) (taking_back c.args.node c.args.pos.now) (words_in c.args.text.now)
    (c.in_ok-next.next, c.in_ok-next.new) (sym c.taking_back.ensures.value ∙ c.in_ok-next.was)
    (rw c.size-2.ensures.value at (sym c.is_vertex.ensures ∙ c.if-not-is_vertex.false)) c.in_err-left.ensures)

-- one does
pub back_proved-returns : goal.back_proved-returns
back_proved-returns t c =
    let points = c.join.ensures ∙ ap (λ S. set.union S c.proved.new.zone) c.loss_rests_on-points.ensures in
    back_holds (proves_surely c.args.plies) c.args.node c.args.pos.now (kept c.args.word.now)
    (taking_back c.args.node c.args.pos.now) (words_in c.args.text.now) (c.in_ok-next.next, c.in_ok-next.new)
    (sym c.taking_back.ensures.value ∙ c.in_ok-next.was)
    (rw c.size-2.ensures.value at (sym c.is_vertex.ensures ∙ c.if-not-is_vertex.false))
    (words_in c.in_ok-left.left.now) c.proved.new.zone c.in_ok-left.ensures
    ∙ ap (λ S. Some (proved_by (words_in c.in_ok-left.left.now) S)) (sym points)

-- the word is no move
pub move_proved-returns-in_err-spot : goal.move_proved-returns-in_err-spot
move_proved-returns-in_err-spot t c = rw (c.from_residual.ensures, c.in_err-spot.was) refl

-- the attacker does not pass
pub move_proved-returns-in_err-p : goal.move_proved-returns-in_err-p
move_proved-returns-in_err-p t c =
    rw (c.from_residual-in_err-p.ensures, c.in_ok-spot.was, c.in_err-p.was) refl

-- a point beyond the board is no candidate
pub move_proved-returns-then-p-points : goal.move_proved-returns-then-p-points
move_proved-returns-then-p-points t c =
    let p = c.in_ok-p.p in
    let off : c.args.pos.now.size * c.args.pos.now.size ≤ p
    = rw c.size.ensures.value at (rw c.points.ensures.value at c.if-p-points.true) in
    let none = play_refused (proves_surely c.args.plies) c.args.node c.args.pos.now p
    (child_after c.args.node c.args.pos.now (At p)) (words_in c.args.text.now)
    (sym (after_off c.args.node c.args.pos.now p off)) in
    rw (c.in_ok-spot.was, c.in_ok-p.was) none

-- a point of the board is played at
pub move_proved-returns : goal.move_proved-returns
move_proved-returns t c = rw (c.in_ok-spot.was, c.in_ok-p.was) c.play_proved.ensures

-- the play cannot be made
pub play_proved-returns-in_err-next : goal.play_proved-returns-in_err-next
play_proved-returns-in_err-next t c =
    rw c.from_residual.ensures (play_refused (proves_surely c.args.plies) c.args.node c.args.pos.now c.args.p
    (child_after c.args.node c.args.pos.now (At c.args.p)) (words_in c.args.text.now)
    (sym c.child_after.ensures.value ∙ c.in_err-next.was))

-- no proof comes behind it
pub play_proved-returns-in_err-left : goal.play_proved-returns-in_err-left
play_proved-returns-in_err-left t c =
    rw c.from_residual-in_err-left.ensures (play_fails (proves_surely c.args.plies) c.args.node c.args.pos.now c.args.p
    (child_after c.args.node c.args.pos.now (At c.args.p)) (words_in c.args.text.now)
    (c.in_ok-next.next, c.in_ok-next.new) (sym c.child_after.ensures.value ∙ c.in_ok-next.was) c.in_err-left.ensures)

-- one does
pub play_proved-returns : goal.play_proved-returns
play_proved-returns t c =
    let pos = c.args.pos.now in
    let points = c.join-2.ensures ∙ ap (λ S. set.union S c.proved.new.zone) (c.join.ensures
    ∙ ap (λ S. set.union S c.play_rests_on.result) c.candidate_rests_on-points.ensures
    ∙ ap (set.union (candidate_rests_on c.args.node.turn pos c.args.p)) (c.play_rests_on.ensures
    ∙ ap (λ k. play_rests_on pos.size pos.cells k c.proved.new.zone c.args.p) c.mover.ensures)) in
    play_holds (proves_surely c.args.plies) c.args.node c.args.pos.now c.args.p (child_after c.args.node pos (At c.args.p))
    (words_in c.args.text.now) (c.in_ok-next.next, c.in_ok-next.new) (sym c.child_after.ensures.value ∙ c.in_ok-next.was)
    (words_in c.in_ok-left.left.now) c.proved.new.zone c.in_ok-left.ensures
    ∙ ap (λ S. Some (proved_by (words_in c.in_ok-left.left.now) S)) (sym points)

-- the reply is not named
pub reply_proved-returns-in_err-left-in-Some : goal.reply_proved-returns-in_err-left-in-Some
reply_proved-returns-in_err-left-in-Some t c =
    rw c.from_residual.ensures (reply_unnamed (proves_surely c.args.plies) c.args.node c.args.pos.now
    c.args.p (child_of c.args.node c.args.pos.now c.args.p)
    (words_in c.args.text.now) c.args.zone.now
    c.in-Some.child (sym c.child_of.ensures.value ∙ c.in-Some.is)
    (rw c.size.ensures.value at c.in_err-left-in-Some.ensures))

-- no proof comes behind it
pub reply_proved-returns-in_err-rest-in-Some : goal.reply_proved-returns-in_err-rest-in-Some
reply_proved-returns-in_err-rest-in-Some t c =
    rw c.from_residual-in_err-rest-in-Some.ensures
    (reply_fails (proves_surely c.args.plies) c.args.node c.args.pos.now
    c.args.p (child_of c.args.node c.args.pos.now c.args.p)
    (words_in c.args.text.now) c.args.zone.now
    c.in-Some.child (sym c.child_of.ensures.value ∙ c.in-Some.is)
    (words_in c.in_ok-left-in-Some.left.now) (rw c.size.ensures.value at c.in_ok-left-in-Some.ensures)
    c.in_err-rest-in-Some.ensures)

-- one does
pub reply_proved-returns-in_ok-rest-in-Some : goal.reply_proved-returns-in_ok-rest-in-Some
reply_proved-returns-in_ok-rest-in-Some t c =
    let points = c.add_play.ensures ∙ ap (with_move c.args.node c.args.pos.now c.args.p) c.join.ensures in
    reply_holds (proves_surely c.args.plies) c.args.node c.args.pos.now
    c.args.p (child_of c.args.node c.args.pos.now c.args.p)
    (words_in c.args.text.now) c.args.zone.now
    c.in-Some.child (sym c.child_of.ensures.value ∙ c.in-Some.is)
    (words_in c.in_ok-left-in-Some.left.now) (words_in c.in_ok-rest-in-Some.rest.now) c.proved.new.zone
    (rw c.size.ensures.value at c.in_ok-left-in-Some.ensures) c.in_ok-rest-in-Some.ensures
    ∙ ap (λ S. Some (proved_by (words_in c.in_ok-rest-in-Some.rest.now) S)) (sym points)

-- the reply cannot be made
pub reply_proved-returns-in-None : goal.reply_proved-returns-in-None
reply_proved-returns-in-None t c =
    reply_refused (proves_surely c.args.plies) c.args.node c.args.pos.now
    c.args.p (child_of c.args.node c.args.pos.now c.args.p)
    (words_in c.args.text.now) c.args.zone.now (sym c.child_of.ensures.value ∙ c.in-None.is)
    ∙ ap (λ S. Some (proved_by (words_in c.args.text.now) S)) (sym c.add_play-in-None.ensures)

-- the next reply is beyond the board
pub replies_proved-returns-then-p-points : goal.replies_proved-returns-then-p-points
replies_proved-returns-then-p-points t c =
    let off : c.args.pos.now.size * c.args.pos.now.size ≤ c.in-Some.p
    = rw c.size.ensures.value at (rw c.points.ensures.value at c.if-p-points.true) in
    replies_end (proves_surely c.args.plies) c.args.node c.args.pos.now (set.contains c.args.asked.now)
    (c.args.pos.now.size * c.args.pos.now.size) c.replies.from (proved_by (words_in c.replies.left.now) c.replies.zone) _
    c.replies.invariant
    (λ k lo hi. c.in-Some.ensures.some.3 k lo (omega (arith, off, hi)))

-- it is not proved
pub replies_proved-returns-in_err-left : goal.replies_proved-returns-in_err-left
replies_proved-returns-in_err-left t c =
    let found = c.in-Some.ensures.some in
    rw c.from_residual.ensures (replies_fail (proves_surely c.args.plies) c.args.node c.args.pos.now (set.contains c.args.asked.now)
    (c.args.pos.now.size * c.args.pos.now.size) c.replies.from (proved_by (words_in c.replies.left.now) c.replies.zone) _
    c.replies.invariant c.in-Some.p found.0
    (rw c.size.ensures.value at (rw c.points.ensures.value at c.if-p-points.false)) found.2 found.3 c.in_err-left.ensures)

-- it is
pub replies_proved-replies-preserved : goal.replies_proved-replies-preserved
replies_proved-replies-preserved t c =
    let found = c.in-Some.ensures.some in
    replies_on (proves_surely c.args.plies) c.args.node c.args.pos.now (set.contains c.args.asked.now)
    (c.args.pos.now.size * c.args.pos.now.size) c.replies.from (proved_by (words_in c.replies.left.now) c.replies.zone) _
    c.replies.invariant c.in-Some.p found.0
    (rw c.size.ensures.value at (rw c.points.ensures.value at c.if-p-points.false)) found.2 found.3
    (proved_by (words_in c.in_ok-left.left.now) c.reply_proved.new.zone) c.in_ok-left.ensures

-- there is none
pub replies_proved-returns : goal.replies_proved-returns
replies_proved-returns t c =
    replies_end (proves_surely c.args.plies) c.args.node c.args.pos.now (set.contains c.args.asked.now)
    (c.args.pos.now.size * c.args.pos.now.size) c.replies.from (proved_by (words_in c.replies.left.now) c.replies.zone) _
    c.replies.invariant (λ k lo hi. c.in_default.ensures.none k lo)

-- no proof comes behind the pass
pub defence_proved-returns-in_err-left : goal.defence_proved-returns-in_err-left
defence_proved-returns-in_err-left t c =
    rw c.from_residual.ensures (pass_fails (proves_surely c.args.plies) c.args.node c.args.pos.now
    (words_in c.args.text.now) (rw c.passed-new.ensures at c.in_err-left.ensures))

-- the replies do not come
pub defence_proved-returns-in_err-more : goal.defence_proved-returns-in_err-more
defence_proved-returns-in_err-more t c =
    rw c.from_residual-in_err-more.ensures (replies_missing (proves_surely c.args.plies) c.args.node c.args.pos.now (words_in c.args.text.now)
    (words_in c.in_ok-left.left.now) c.proved.new.zone (rw c.passed-new.ensures at c.in_ok-left.ensures)
    (rw (
      c.join.ensures,
      c.guard_zone-asked.ensures.guard,
      c.guard_zone-asked.ensures.asked,
      c.other-enemy.ensures,
      c.mover.ensures,
    ) at c.in_err-more.ensures))

-- the end does not
pub defence_proved-returns-in_err-rest : goal.defence_proved-returns-in_err-rest
defence_proved-returns-in_err-rest t c =
    rw c.from_residual-in_err-rest.ensures (end_missing (proves_surely c.args.plies) c.args.node c.args.pos.now (words_in c.args.text.now)
    (words_in c.in_ok-left.left.now) c.proved.new.zone (rw c.passed-new.ensures at c.in_ok-left.ensures)
    (words_in c.in_ok-more.more.now) c.replies_proved.new.zone
    (rw (
      c.join.ensures,
      c.guard_zone-asked.ensures.guard,
      c.guard_zone-asked.ensures.asked,
      c.other-enemy.ensures,
      c.mover.ensures,
    ) at c.in_ok-more.ensures) c.in_err-rest.ensures)

-- they come
pub defence_proved-returns : goal.defence_proved-returns
defence_proved-returns t c =
    end_comes (proves_surely c.args.plies) c.args.node c.args.pos.now (words_in c.args.text.now)
    (words_in c.in_ok-left.left.now) c.proved.new.zone (rw c.passed-new.ensures at c.in_ok-left.ensures)
    (words_in c.in_ok-more.more.now) c.replies_proved.new.zone
    (rw (
      c.join.ensures,
      c.guard_zone-asked.ensures.guard,
      c.guard_zone-asked.ensures.asked,
      c.other-enemy.ensures,
      c.mover.ensures,
    ) at c.in_ok-more.ensures) (words_in c.in_ok-rest.rest.now) c.in_ok-rest.ensures
