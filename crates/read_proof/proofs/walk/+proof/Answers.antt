-- The checker answers what the words prove: a word at a node, a node at a time.
use Rattle.std.proofs.Common.{◌∙◌, ◌-◌, ◌*◌, true, false, ap, sym}
use Rattle.std.specs.Option.{option_and_then}
use Rattle.vertices.specs.Words.{kept}
use Rattle.read_rules.specs.Candidates.{is_candidate}
use Rattle.read_rules.specs.GameTree.{child_of}
use Rattle.read_proof.specs.declared.token.Token.TheVariants.{Move, Each}
use Rattle.read_proof.specs.Tokens.{words_in, token_of}
use Rattle.read_proof.specs.Proves.{proves, at_each, play_children}
use Rattle.read_proof.proofs.ChildLemmas.{walk_on, walk_fails, walk_ends}
use Rattle.read_proof.proofs.StepLemmas.{no_words, unknown_word, settled_word, move_decides, each_decides, move_at_end}
use Rattle.read_proof.proofs.StepLemmas.{each_at_end, said_here}
use Rattle.read_proof.proofs.walk.+proof.Goals as goal
use Rattle.read_proof.proofs.walk.+proof.Goals.{proved-then-plies-eq0-via-then-plies-eq0}
use Rattle.read_proof.proofs.walk.+proof.Goals.{proved-then-plies-eq0-via-else-plies-eq0+then-not-move_may_prove}
use Rattle.read_proof.proofs.walk.+proof.Goals.{proved-then-plies-eq0-2-via-then-plies-eq0-2}
use Rattle.read_proof.proofs.walk.+proof.Goals.{proved-then-plies-eq0-2-via-else-plies-eq0-2+then-not-each_may_prove}

-- at the next candidate there is no proof
pub plays_proved-returns-in_err-left : goal.plays_proved-returns-in_err-left
plays_proved-returns-in_err-left t c =
    let pos = c.args.pos.now in
    let found = c.in-Some.ensures.some in
    rw c.from_residual.ensures (walk_fails (proves c.args.plies c.args.won) (child_of c.args.node pos)
    (is_candidate c.args.node.turn pos) (pos.size * pos.size) c.plays.from c.in-Some.p
    (words_in c.plays.left.now) _ found.0
    (c.candidates-candidates.ensures.on_board c.in-Some.p found.2)
    (sym (c.candidates-candidates.ensures.value c.in-Some.p) ∙ found.2)
    (λ k lo hi. sym (c.candidates-candidates.ensures.value k) ∙ found.3 k lo hi) c.plays.invariant
    c.in_err-left.ensures)

-- behind the proof at the next candidate are those at the others
pub plays_proved-plays-preserved : goal.plays_proved-plays-preserved
plays_proved-plays-preserved t c =
    let pos = c.args.pos.now in
    let found = c.in-Some.ensures.some in
    walk_on (proves c.args.plies c.args.won) (child_of c.args.node pos)
    (is_candidate c.args.node.turn pos) (pos.size * pos.size) c.plays.from c.in-Some.p
    (words_in c.plays.left.now) _ found.0
    (c.candidates-candidates.ensures.on_board c.in-Some.p found.2)
    (sym (c.candidates-candidates.ensures.value c.in-Some.p) ∙ found.2)
    (λ k lo hi. sym (c.candidates-candidates.ensures.value k) ∙ found.3 k lo hi) c.plays.invariant
    (words_in c.in_ok-left.left.now) c.in_ok-left.ensures

-- no candidate is left
pub plays_proved-returns : goal.plays_proved-returns
plays_proved-returns t c =
    let pos = c.args.pos.now in
    walk_ends (proves c.args.plies c.args.won) (child_of c.args.node pos)
    (is_candidate c.args.node.turn pos) (pos.size * pos.size - c.plays.from) c.plays.from
    (words_in c.plays.left.now) _
    (λ k lo. sym (c.candidates-candidates.ensures.value k) ∙ c.in_default.ensures.none k lo) c.plays.invariant

-- no word is left
pub proved-returns-in_err-word : goal.proved-returns-in_err-word
proved-returns-in_err-word t c =
    rw c.from_residual.ensures (no_words c.args.won c.args.node c.args.pos.now c.args.plies (words_in c.args.text.now)
    c.in_err-word.ensures)

-- the word says nothing
pub proved-returns-in_err-token_said : goal.proved-returns-in_err-token_said
proved-returns-in_err-token_said t c =
    rw c.from_residual-in_err-token_said.ensures (unknown_word c.args.won c.args.node c.args.pos.now
    (words_in c.args.text.now) _ _ c.in_ok-word.ensures c.args.plies
    (c.in_err-token_said.ensures ∙ ap (λ n. token_of n (kept c.in_ok-word.word.now)) c.size.ensures.value))

-- the claim is not settled
pub proved-returns-then-not-is_settled : goal.proved-returns-then-not-is_settled
proved-returns-then-not-is_settled t c =
    settled_word c.args.won c.args.node c.args.pos.now (words_in c.args.text.now) _ _ c.in_ok-word.ensures c.args.plies
    false (said_here _ _ _ _ (kept c.in_ok-word.word.now) c.in-Settled.is c.in_ok-token_said.ensures
    c.size.ensures.value)
    (sym c.is_settled.ensures ∙ c.if-not-is_settled.true)

-- it is
pub proved-returns-else-not-is_settled : goal.proved-returns-else-not-is_settled
proved-returns-else-not-is_settled t c =
    settled_word c.args.won c.args.node c.args.pos.now (words_in c.args.text.now) _ _ c.in_ok-word.ensures c.args.plies
    true (said_here _ _ _ _ (kept c.in_ok-word.word.now) c.in-Settled.is c.in_ok-token_said.ensures
    c.size.ensures.value)
    (sym c.is_settled.ensures ∙ c.if-not-is_settled.false)

-- no ply is left for a move, or it may not prove the claim
pub proved-returns-then-plies-eq0 : goal.proved-returns-then-plies-eq0
proved-returns-then-plies-eq0 t c =
    let said = said_here _ (Move c.in-Move.spot) _ c.args.pos.now.size (kept c.in_ok-word.word.now) c.in-Move.is
    c.in_ok-token_said.ensures c.size.ensures.value in
    elim c.then-plies-eq0.branch [
      | proved-then-plies-eq0-via-then-plies-eq0 w ↦
          move_at_end c.args.won c.args.node c.args.pos.now (words_in c.args.text.now) _ _ c.in_ok-word.ensures
          c.args.plies c.in-Move.spot said w.if-plies-eq0.true
      | proved-then-plies-eq0-via-else-plies-eq0+then-not-move_may_prove w ↦
          move_decides c.args.won c.args.node c.args.pos.now (words_in c.args.text.now) _ _ c.in_ok-word.ensures
          c.args.plies c.in-Move.spot false said w.if-plies-eq0.false
          (sym w.move_may_prove.ensures ∙ w.if-not-move_may_prove.true)
    ]

-- no ply is left for all moves, or they may not prove the claim
pub proved-returns-then-plies-eq0-2 : goal.proved-returns-then-plies-eq0-2
proved-returns-then-plies-eq0-2 t c =
    let said = said_here _ Each _ c.args.pos.now.size (kept c.in_ok-word.word.now) c.in-Each.is
    c.in_ok-token_said.ensures c.size.ensures.value in
    elim c.then-plies-eq0-2.branch [
      | proved-then-plies-eq0-2-via-then-plies-eq0-2 w ↦
          each_at_end c.args.won c.args.node c.args.pos.now (words_in c.args.text.now) _ _ c.in_ok-word.ensures
          c.args.plies said w.if-plies-eq0-2.true
      | proved-then-plies-eq0-2-via-else-plies-eq0-2+then-not-each_may_prove w ↦
          each_decides c.args.won c.args.node c.args.pos.now (words_in c.args.text.now) _ _ c.in_ok-word.ensures
          c.args.plies false said w.if-plies-eq0-2.false
          (sym w.each_may_prove.ensures ∙ w.if-not-each_may_prove.true)
    ]

-- there is no proof at the child after the pass
pub proved-returns-in_err-left-in-Each : goal.proved-returns-in_err-left-in-Each
proved-returns-in_err-left-in-Each t c =
    let said = said_here _ Each _ c.args.pos.now.size (kept c.in_ok-word.word.now) c.in-Each.is
    c.in_ok-token_said.ensures c.size.ensures.value in
    rw c.from_residual-in_err-left-in-Each.ensures
    (each_decides c.args.won c.args.node c.args.pos.now (words_in c.args.text.now) _ _ c.in_ok-word.ensures
    c.args.plies true said c.if-plies-eq0-2.false (sym c.each_may_prove.ensures ∙ c.if-not-each_may_prove.false)
    ∙ ap (option_and_then (at_each (proves (c.args.plies - 1) c.args.won) (play_children c.args.node c.args.pos.now)))
    c.in_err-left-in-Each.ensures)

-- the proof at the child after the move is the rest
pub proved-returns-else-not-move_may_prove : goal.proved-returns-else-not-move_may_prove
proved-returns-else-not-move_may_prove t c =
    let said = said_here _ (Move c.in-Move.spot) _ c.args.pos.now.size (kept c.in_ok-word.word.now) c.in-Move.is
    c.in_ok-token_said.ensures c.size.ensures.value in
    rw (move_decides c.args.won c.args.node c.args.pos.now (words_in c.args.text.now) _ _ c.in_ok-word.ensures
    c.args.plies c.in-Move.spot true said c.if-plies-eq0.false
    (sym c.move_may_prove.ensures ∙ c.if-not-move_may_prove.false)) c.move_proved.ensures

-- and so are the proofs at the children after the plays
pub proved-returns-in_ok-left-in-Each : goal.proved-returns-in_ok-left-in-Each
proved-returns-in_ok-left-in-Each t c =
    let said = said_here _ Each _ c.args.pos.now.size (kept c.in_ok-word.word.now) c.in-Each.is
    c.in_ok-token_said.ensures c.size.ensures.value in
    rw (each_decides c.args.won c.args.node c.args.pos.now (words_in c.args.text.now) _ _ c.in_ok-word.ensures
    c.args.plies true said c.if-plies-eq0-2.false (sym c.each_may_prove.ensures ∙ c.if-not-each_may_prove.false)
    ∙ ap (option_and_then (at_each (proves (c.args.plies - 1) c.args.won) (play_children c.args.node c.args.pos.now)))
    c.in_ok-left-in-Each.ensures) c.plays_proved.ensures
