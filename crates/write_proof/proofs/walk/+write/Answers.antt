-- What is written for the asked allowances at once is the first proof under each of them.
use Rattle.std.proofs.Common.{◌≡◌, ◌∙◌, ℕ, ◌+◌, ◌-◌, ◌*◌, ◌<◌, ◌≤◌, List, ◌++◌, length, Bool, not, Result}
use Rattle.std.proofs.Common.{[], ◌∷◌, ap, sym, refl, subst, inl, inr, codes, append_assoc, rules, Ok, Err}
use Rattle.std.proofs.Common.{None, Some, true}
use Rattle.std.specs.Option.{option_to_list}
use Rattle.go_base.specs.Facts.{Agrees}
use Rattle.go_rules.specs.Position.{BoardState}
use Rattle.go_rules.specs.Play.{pass}
use Rattle.trial_board.specs.Trials.{after}
use Rattle.trial_board.proofs.AfterLemmas.{size-after}
use Rattle.read_rules.specs.Turns.{next_turn}
use Rattle.read_rules.specs.Candidates.{is_candidate}
use Rattle.read_rules.specs.declared.node.Node.{Node}
use Rattle.read_rules.specs.declared.question.Spot.{Spot}
use Rattle.read_rules.specs.declared.question.Spot.TheVariants.{At, Pass}
use Rattle.read_rules.specs.GameTree.{child_of, first_move, taking_back}
use Rattle.read_rules.specs.GoodMoves.{IsOnBoard}
use Rattle.read_tree.specs.Allowances.{Ko, neither_may, under}
use Rattle.read_tree.proofs.AllowanceLemmas.{next_keeps}
use Rattle.read_tree.proofs.TableLemmas.{table_more}
use Rattle.read_proof.specs.Proves.{is_wanted}
use Rattle.write_proof.specs.declared.text.NoRoom.{NoRoom}
use Rattle.read_proof.specs.FirstProof.{write_move, write_each, move_word, first_words}
use Rattle.write_proof.specs.Printed.{behind_blanks, Puts, position_on}
use Rattle.write_proof.specs.Room.{most_bytes}
use Rattle.write_proof.proofs.PutLemmas.{puts_both, puts_up, puts_same, dot_words, back_words, move_words, each_words}
use Rattle.write_proof.proofs.PutLemmas.{walk_written}
use Rattle.write_proof.proofs.WriteLemmas.{here_stays, nothing_put, no_move_written, play_written, refused_written}
use Rattle.write_proof.proofs.WriteLemmas.{no_pass_written, pass_written, move_written, move_refused, play_child}
use Rattle.write_proof.proofs.WriteLemmas.{pass_child, all_left, word_written, word_refused}
use Rattle.write_proof.proofs.AlikeLemmas.{puts_up_told, yes_told, own_alone, alone_own, not_false}
use Rattle.write_proof.proofs.BackLemmas.{not_back}
use Rattle.std.proofs.lemmas.Bool.{both_ways}
use Rattle.trial_board.specs.Trials.{Stays-trans}
use Rattle.read_tree.specs.Allowances.{has, own_ko}
use Rattle.read_tree.proofs.AllowanceLemmas.{some_of}
use Rattle.read_tree.proofs.ReadyLemmas.{candidate_inside, point_after}
use Rattle.write_proof.specs.declared.alike.Common.{Common}
use Rattle.write_proof.specs.declared.alike.Common.TheVariants.{Move}
use Rattle.write_proof.specs.Alike.{IsMoveOn}
use Rattle.write_proof.proofs.WriteLemmas.{play_words, words_from, pass_words, plays_words, next_words}
use Rattle.write_proof.proofs.walk.+write.Given.{Over}
use Rattle.write_proof.proofs.walk.+write.Goals.{write_play-After-make, write_plays-After-write_play}
use Rattle.write_proof.proofs.walk.+write.Goals.{write_move-After-size, write_moves-After-put_word}
use Rattle.write_proof.proofs.walk.+write.Goals as goal

-- the attacker does not pass
pub write_pass-returns-then-turn-clause-puts : goal.write_pass-returns-then-turn-clause-puts
write_pass-returns-then-turn-clause-puts g t c = λ same ko asked.
    nothing_put c.args.out.now _ (no_pass_written c.args.plies c.args.won (under c.args.turn ko)
    (position_on g.L.Look.shows c.args.board.now) c.if-turn.true) c.requires.bytes

-- the defender does, and the allowances stay
pub write_pass-returns-clause-puts : goal.write_pass-returns-clause-puts
write_pass-returns-clause-puts g t c = λ same ko asked.
    let here = position_on g.L.Look.shows c.args.board.now in
    pass_written c.args.plies c.args.won (under c.args.turn ko) here c.args.out.now
    c.write-done.new.out c.write-done.result c.if-turn.false
    (subst (λ (m : Node). Puts c.args.out.now (behind_blanks (first_words c.args.plies c.args.won m (pass here)))
    c.write-done.new.out c.write-done.result) (sym (next_keeps c.args.turn ko))
    (rw (c.pass.ensures, c.next.ensures) at (c.write-done.ensures.puts same ko asked)))

-- the position shown agrees with what was seen at the play
shown_agrees : (g : Over) (t : ℕ) (c : write_play-After-make g t)
    → Agrees (g.L.Look.seen c.make.new.board.look) (g.L.Look.shows c.args.board.now.look)
shown_agrees g t c = subst (Agrees (g.L.Look.seen c.make.new.board.look)) c.make.ensures.shown
    (g.met.L.Look.holds c.make.new.board.look)

-- what is written at the child to which a play leads that was made
child_written : (g : Over) (t : ℕ) (c : write_play-After-make g t) (node next : Node) (out : List ℕ)
    (r : Result Bool NoRoom) → let here = position_on g.L.Look.shows c.args.board.now in
    child_of node here c.args.p ≡ Some (next, after (g.L.Look.shows c.args.board.now.look) c.make.new.board.moves)
    → Puts c.args.out.now (behind_blanks (first_words c.args.plies c.args.won next
    (position_on g.L.Look.shows c.make.new.board))) out r
    → Puts c.args.out.now (play_words c.args.plies c.args.won node here c.args.p) out r
child_written g t c node next out r leads put =
    play_written c.args.plies c.args.won node (position_on g.L.Look.shows c.args.board.now) c.args.p (Some next) next
    (after (g.L.Look.shows c.args.board.now.look) c.make.new.board.moves) c.args.out.now out r leads refl
    (subst (λ (p : BoardState). Puts c.args.out.now (behind_blanks (first_words c.args.plies c.args.won next
    (after p c.make.new.board.moves))) out r) c.make.ensures.shown put)

-- the play is legal, and the allowances stay
pub write_play-returns-in-Legal-clause-puts : goal.write_play-returns-in-Legal-clause-puts
write_play-returns-in-Legal-clause-puts g t c = λ same ko asked.
    let d = (goal.at.write_play-returns-in-Legal-clause-puts g t c).After-make in
    let shown = g.L.Look.shows c.args.board.now.look in
    child_written g t d (under c.args.turn ko) (under (next_turn c.args.turn) ko) c.write-done.new.out
    c.write-done.result ((rw c.in-Legal.is at (c.make.ensures.over shown (shown_agrees g t d))) ko)
    (rw c.next.ensures at (c.write-done.ensures.puts same ko asked))

-- the ban alone forbids it, and the allowances differ
pub write_play-returns-then-not-is_own_alone-clause-puts : goal.write_play-returns-then-not-is_own_alone-clause-puts
write_play-returns-then-not-is_own_alone-clause-puts g t c = λ same ko asked. absurd (same refl)

-- one allowance alone does not differ: it is the own one, by which the play was made
pub write_play-returns-then-not-is_own_alone-clause-one : goal.write_play-returns-then-not-is_own_alone-clause-one
write_play-returns-then-not-is_own_alone-clause-one g t c = λ one e.
    both_ways c.is_own_alone.result c.if-not-is_own_alone.true
    (c.is_own_alone.ensures ∙ ap not (own_alone c.args.turn.attacker_to_play c.args.asked one
    (sym c.has_own.ensures ∙ c.make.ensures.own c.in-Allowed.is)))

-- the own allowance alone is asked for, and it is spent
pub write_play-returns-else-not-is_own_alone-clause-puts : goal.write_play-returns-else-not-is_own_alone-clause-puts
write_play-returns-else-not-is_own_alone-clause-puts g t c = λ same ko asked.
    let d = (goal.at.write_play-returns-else-not-is_own_alone-clause-puts g t c).After-make in
    let shown = g.L.Look.shows c.args.board.now.look in
    let turn = c.args.turn in
    let own = alone_own turn.attacker_to_play c.args.asked
    (not_false _ (sym c.is_own_alone.ensures ∙ c.if-not-is_own_alone.false)) ko asked in
    let done = c.write-done-in-Allowed in
    let there = ap (λ s. has s neither_may) c.neither_alone-neither.ensures in
    subst (λ (k : Ko). Puts c.args.out.now (play_words c.args.plies c.args.won (under turn k)
    (position_on g.L.Look.shows c.args.board.now) c.args.p) done.new.out done.result) (sym own)
    (child_written g t d (under turn (own_ko turn.attacker_to_play)) (under (next_turn turn) neither_may) done.new.out
    done.result (rw c.in-Allowed.is at (c.make.ensures.over shown (shown_agrees g t d))).0
    (rw c.next-in-Allowed.ensures at (done.ensures.puts same neither_may there)))

-- it cannot be made
pub write_play-returns-in-Not-clause-puts : goal.write_play-returns-in-Not-clause-puts
write_play-returns-in-Not-clause-puts g t c = λ same ko asked.
    let shown = g.L.Look.shows c.args.board.now.look in
    let agrees = shown_agrees g t (goal.at.write_play-returns-in-Not-clause-puts g t c).After-make in
    nothing_put c.args.out.now _ (refused_written c.args.plies c.args.won (under c.args.turn ko)
    (position_on g.L.Look.shows c.args.board.now) c.args.p None (after shown c.make.new.board.moves)
    ((rw c.in-Not.is at (c.make.ensures.over shown agrees)) ko
    (λ own. c.has_own.ensures ∙ sym (ap (has c.args.asked) own) ∙ asked)) refl) c.requires.bytes

-- everything is left to write
pub write_plays-plays-init : goal.write_plays-plays-init
write_plays-plays-init g t c =
    let here = position_on g.L.Look.shows c.args.board.now in
    record {
      stays = c.candidates-candidates.ensures.stays;
      table = table_more c.requires.table c.candidates-candidates.ensures.stays.grows;
      text = λ ko asked. all_left (first_words c.args.plies c.args.won) (child_of (under c.args.turn ko) here)
          (is_candidate c.args.turn here) (here.size * here.size) c.args.out.now;
      bytes = c.requires.bytes;
    }

-- the next candidate and the target are on the board
pub write_plays-write_play-requires : goal.write_plays-write_play-requires
write_plays-write_play-requires g t c κs within =
    let i = c.plays.invariant in
    let on = point_after i.stays c.in-Some.p (candidate_inside c.args.turn
    (g.L.Look.shows c.args.board.now.look) c.args.board.now.moves c.in-Some.p
    (sym (c.candidates-candidates.ensures.answer c.in-Some.p) ∙ c.in-Some.ensures.some.2)) in
    let target = point_after i.stays c.args.turn.target c.requires.target in
    search rules

-- what is left to write from the next candidate on is what its play gives, and what is left behind it
left_words : (g : Over) (t : ℕ) (c : write_plays-After-write_play g t) (ko : Ko)
    → let here = position_on g.L.Look.shows c.args.board.now in
    words_from c.args.plies c.args.won (under c.args.turn ko) here c.plays.from
    ≡ play_words c.args.plies c.args.won (under c.args.turn ko) here c.in-Some.p
    ++ words_from c.args.plies c.args.won (under c.args.turn ko) here (c.in-Some.p + 1)
left_words g t c ko =
    let found = c.in-Some.ensures.some in
    next_words c.args.plies c.args.won (under c.args.turn ko) (position_on g.L.Look.shows c.args.board.now) c.plays.from
    c.in-Some.p found.0 (sym (c.candidates-candidates.ensures.answer c.in-Some.p) ∙ found.2)
    (λ k lo hi. sym (c.candidates-candidates.ensures.answer k) ∙ found.3 k lo hi)

-- there is no room for the proof after the next play
pub write_plays-returns-in_err-alike-clause-puts : goal.write_plays-returns-in_err-alike-clause-puts
write_plays-returns-in_err-alike-clause-puts g t c = λ same ko asked.
    let d = (goal.at.write_plays-returns-in_err-alike-clause-puts g t c).After-write_play in
    let here = position_on g.L.Look.shows c.args.board.now in
    let node = under c.args.turn ko in
    let play = play_words c.args.plies c.args.won node here c.in-Some.p in
    let rest = words_from c.args.plies c.args.won node here (c.in-Some.p + 1) in
    puts_same c.plays.out c.args.out.now c.write_play.new.out (play ++ rest) _ c.from_residual.result
    (sym (ap (λ m. c.plays.out ++ m) (left_words g t d ko)) ∙ c.plays.invariant.text ko asked)
    (puts_up_told c.plays.out c.write_play.new.out c.write_play.new.out play rest c.in_err-alike.field-0.0
    c.from_residual.result c.from_residual.ensures.1
    (subst (λ (pos : BoardState). Puts {T = Bool} c.plays.out (play_words c.args.plies c.args.won node pos c.in-Some.p)
    c.write_play.new.out (Err c.in_err-alike.field-0.0))
    (here_stays g.L.Look.shows g.L.Look.seen c.args.board.now c.plays.board c.plays.invariant.stays)
    (c.in_err-alike.ensures.puts (λ e. cc) ko asked)))

-- the proofs after the next play differ
pub write_plays-returns-then-not-alike-clause-puts : goal.write_plays-returns-then-not-alike-clause-puts
write_plays-returns-then-not-alike-clause-puts g t c = λ same ko asked. absurd (same refl)

-- of one allowance alone they do not
pub write_plays-returns-then-not-alike-clause-one : goal.write_plays-returns-then-not-alike-clause-one
write_plays-returns-then-not-alike-clause-one g t c = λ one e.
    c.in_ok-alike.ensures.one one (ap Ok c.if-not-alike.true)

-- what is written behind the next candidate, and what is left
pub write_plays-plays-preserved : goal.write_plays-plays-preserved
write_plays-plays-preserved g t c =
    let d = (goal.at.write_plays-plays-preserved g t c).After-write_play in
    let here = position_on g.L.Look.shows c.args.board.now in
    let i = c.plays.invariant in
    let puts = c.in_ok-alike.ensures.puts (yes_told c.in_ok-alike.alike c.if-not-alike.false) in
    let one = some_of c.args.asked c.requires.some in
    let same = here_stays g.L.Look.shows g.L.Look.seen c.args.board.now c.plays.board i.stays in
    record {
      stays = Stays-trans i.stays c.in_ok-alike.ensures.stays;
      table = c.in_ok-alike.ensures.table;
      text = λ ko asked.
          let node = under c.args.turn ko in
          let rest = words_from c.args.plies c.args.won node here (c.in-Some.p + 1) in
          ap (λ m. m ++ rest) (subst (λ (pos : BoardState). c.write_play.new.out
          ≡ c.plays.out ++ play_words c.args.plies c.args.won node pos c.in-Some.p) same (puts ko asked).0)
          ∙ append_assoc c.plays.out (play_words c.args.plies c.args.won node here c.in-Some.p) rest
          ∙ sym (ap (λ m. c.plays.out ++ m) (left_words g t d ko)) ∙ i.text ko asked;
      bytes = (puts one.0 one.1).1;
    }

-- nothing is left
pub write_plays-returns-clause-puts : goal.write_plays-returns-clause-puts
write_plays-returns-clause-puts g t c = λ same ko asked.
    let here = position_on g.L.Look.shows c.args.board.now in (
      walk_written (first_words c.args.plies c.args.won) (child_of (under c.args.turn ko) here)
          (is_candidate c.args.turn here) (here.size * here.size - c.plays.from) c.plays.from
          c.plays.out _ (λ k lo. sym (c.candidates-candidates.ensures.answer k) ∙ c.in_default.ensures.none k lo)
          (c.plays.invariant.text ko asked),
      c.plays.invariant.bytes,
    )

-- the first move is on the board
pub write_move-put_move-requires-clause-on_board : goal.write_move-put_move-requires-clause-on_board
write_move-put_move-requires-clause-on_board g t c =
    subst (λ n. IsOnBoard n c.in-Move.spot)
    (sym (c.size.ensures ∙ ap (λ (p : BoardState). p.size) c.first_alike.ensures.stays.shown))
    (rw c.in-Move.is at c.first_alike.ensures.on_board)

-- and so is its point
pub write_move-write_play-requires : goal.write_move-write_play-requires
write_move-write_play-requires g t c κs within =
    let on : c.in-At.p < (g.L.Look.shows c.first_alike.new.board.look).size
    * (g.L.Look.shows c.first_alike.new.board.look).size =
    subst (λ (pos : BoardState). c.in-At.p < pos.size * pos.size) (sym c.first_alike.ensures.stays.shown)
    (subst (λ (o : Common). IsMoveOn (g.L.Look.shows c.args.board.now.look).size o)
    (c.in-Move.is ∙ ap Move c.in-At.is) c.first_alike.ensures.on_board) in
    search rules

-- the first moves differ
pub write_move-returns-in-Differs-clause-puts : goal.write_move-returns-in-Differs-clause-puts
write_move-returns-in-Differs-clause-puts g t c = λ same ko asked. absurd (same refl)

-- of one allowance alone they do not
pub write_move-returns-in-Differs-clause-one : goal.write_move-returns-in-Differs-clause-one
write_move-returns-in-Differs-clause-one g t c = λ one e. c.first_alike.ensures.one one c.in-Differs.is

-- no move will do
pub write_move-returns-in-Nothing-clause-puts : goal.write_move-returns-in-Nothing-clause-puts
write_move-returns-in-Nothing-clause-puts g t c = λ same ko asked.
    nothing_put c.args.out.now _ (no_move_written c.args.plies c.args.won (under c.args.turn ko)
    (position_on g.L.Look.shows c.args.board.now) ((rw c.in-Nothing.is at c.first_alike.ensures.first) ko asked))
    c.requires.bytes

-- the board's size is that of the position after the moves
size_is : (g : Over) (t : ℕ) (c : write_move-After-size g t)
    → c.size.result ≡ (position_on g.L.Look.shows c.args.board.now).size
size_is g t c = c.size.ensures ∙ ap (λ (p : BoardState). p.size) c.first_alike.ensures.stays.shown
    ∙ sym (size-after (g.L.Look.shows c.args.board.now.look) c.args.board.now.moves)

-- there is no room for its word
pub write_move-returns-in_err-put_move-in-Move-clause-puts : goal.write_move-returns-in_err-put_move-in-Move-clause-puts
write_move-returns-in_err-put_move-in-Move-clause-puts g t c = λ same ko asked.
    let d = (goal.at.write_move-returns-in_err-put_move-in-Move-clause-puts g t c).After-size in
    move_refused c.args.plies c.args.won (under c.args.turn ko) (position_on g.L.Look.shows c.args.board.now)
    c.size.result c.in-Move.spot c.args.out.now c.put_move.new.out c.put_move.new.out
    c.in_err-put_move-in-Move.field-0.0 c.from_residual.result (size_is g t d)
    ((rw c.in-Move.is at c.first_alike.ensures.first) ko asked) c.from_residual.ensures.1
    c.in_err-put_move-in-Move.ensures

-- it is a play
pub write_move-returns-in-At-clause-puts : goal.write_move-returns-in-At-clause-puts
write_move-returns-in-At-clause-puts g t c = λ same ko asked.
    let d = (goal.at.write_move-returns-in-At-clause-puts g t c).After-size in
    let here = position_on g.L.Look.shows c.args.board.now in
    let node = under c.args.turn ko in
    let is = ap Some (sym c.in-At.is) ∙ (rw c.in-Move.is at c.first_alike.ensures.first) ko asked in
    move_written c.args.plies c.args.won node here c.size.result (At c.in-At.p) c.args.out.now
    c.put_move.new.out c.write_play.new.out (play_words c.args.plies c.args.won node here c.in-At.p)
    c.write_play.result (size_is g t d) is (c.in_ok-put_move-in-Move.ensures.0
    ∙ ap (λ (s : Spot). c.args.out.now ++ behind_blanks (move_word c.size.result s ∷ [])) c.in-At.is)
    (play_child c.args.plies c.args.won node here c.in-At.p is)
    (subst (λ (p : BoardState). Puts c.put_move.new.out (play_words c.args.plies c.args.won node p c.in-At.p)
    c.write_play.new.out c.write_play.result) (here_stays g.L.Look.shows g.L.Look.seen c.args.board.now
    c.first_alike.new.board c.first_alike.ensures.stays) (c.write_play.ensures.puts same ko asked))

-- it is the pass
pub write_move-returns-in-Pass-clause-puts : goal.write_move-returns-in-Pass-clause-puts
write_move-returns-in-Pass-clause-puts g t c = λ same ko asked.
    let d = (goal.at.write_move-returns-in-Pass-clause-puts g t c).After-size in
    let here = position_on g.L.Look.shows c.args.board.now in
    let node = under c.args.turn ko in
    let is = ap Some (sym c.in-Pass.is) ∙ (rw c.in-Move.is at c.first_alike.ensures.first) ko asked in
    move_written c.args.plies c.args.won node here c.size.result Pass c.args.out.now c.put_move.new.out
    c.write_pass.new.out (pass_words c.args.plies c.args.won node here) c.write_pass.result (size_is g t d) is
    (c.in_ok-put_move-in-Move.ensures.0
    ∙ ap (λ (s : Spot). c.args.out.now ++ behind_blanks (move_word c.size.result s ∷ [])) c.in-Pass.is)
    (pass_child c.args.plies c.args.won node here)
    (subst (λ (p : BoardState). Puts c.put_move.new.out (pass_words c.args.plies c.args.won node p)
    c.write_pass.new.out c.write_pass.result) (here_stays g.L.Look.shows g.L.Look.seen c.args.board.now
    c.first_alike.new.board c.first_alike.ensures.stays) (c.write_pass.ensures.puts same ko asked))

-- no ply is left
pub write-returns-then-plies-eq0-clause-puts : goal.write-returns-then-plies-eq0-clause-puts
write-returns-then-plies-eq0-clause-puts g t c = λ same ko asked.
    rw (dot_words c.args.plies c.args.won (under c.args.turn ko) (position_on g.L.Look.shows c.args.board.now)
    (inl c.if-plies-eq0.true)) c.put_dot.ensures.puts

-- under each asked allowance the defender takes back, so the word of his play is written, and the proof behind it
pub write-returns-in-Always-clause-puts : goal.write-returns-in-Always-clause-puts
write-returns-in-Always-clause-puts g t c = λ same ko asked.
    let node = under c.args.turn ko in
    let told = rw c.in-Always.is at c.back_success.ensures.success in
    rw (back_words c.args.plies c.args.won node (position_on g.L.Look.shows c.args.board.now) c.if-plies-eq0.false
    (told ko asked))
    (subst (λ (p : BoardState). Puts c.args.out.now (behind_blanks (move_word p.size (At c.args.turn.target)
    ∷ write_each (first_words (c.args.plies - 1) c.args.won) (option_to_list (child_of node p c.args.turn.target))))
    c.write_back.new.out c.write_back.result)
    (here_stays g.L.Look.shows g.L.Look.seen c.args.board.now c.back_success.new.board c.back_success.ensures.stays)
    (c.write_back.ensures.puts same ko asked))

-- under some of the asked alone he does
pub write-returns-in-Differs-clause-puts : goal.write-returns-in-Differs-clause-puts
write-returns-in-Differs-clause-puts g t c = λ same ko asked. absurd (same refl)

-- the table stays true
pub write-returns-in-Differs-clause-table : goal.write-returns-in-Differs-clause-table
write-returns-in-Differs-clause-table g t c = table_more c.requires.table c.back_success.ensures.stays.grows

-- of one allowance alone it does not differ
pub write-returns-in-Differs-clause-one : goal.write-returns-in-Differs-clause-one
write-returns-in-Differs-clause-one g t c = λ one e. c.back_success.ensures.one one c.in-Differs.is

-- under none of them he does
pub write-write_moves-requires : goal.write-write_moves-requires
write-write_moves-requires g t c κs within =
    let told = rw c.in-Never.is at c.back_success.ensures.success in
    let stays = c.back_success.ensures.stays in
    let here = here_stays g.L.Look.shows g.L.Look.seen c.args.board.now c.back_success.new.board stays in
    let none : (ko : Ko) → has c.args.asked ko ≡ true
    → taking_back (under c.args.turn ko) (position_on g.L.Look.shows c.back_success.new.board) ≡ None =
    λ ko asked. ap (taking_back (under c.args.turn ko)) here ∙ not_back _ (told ko asked) in
    let target = point_after stays c.args.turn.target c.requires.target in
    let table = table_more c.requires.table stays.grows in
    search rules

-- so the moves are written
pub write-returns-in-Never-clause-puts : goal.write-returns-in-Never-clause-puts
write-returns-in-Never-clause-puts g t c = λ same ko asked.
    subst (λ (p : BoardState). Puts c.args.out.now (behind_blanks (first_words c.args.plies c.args.won
    (under c.args.turn ko) p)) c.write_moves.new.out c.write_moves.result)
    (here_stays g.L.Look.shows g.L.Look.seen c.args.board.now c.back_success.new.board c.back_success.ensures.stays)
    (c.write_moves.ensures.puts same ko asked)

-- there is no room for the word of the play that takes back
pub write_back-returns-in_err-put_move-clause-puts : goal.write_back-returns-in_err-put_move-clause-puts
write_back-returns-in_err-put_move-clause-puts g t c = λ same ko asked.
    let here = position_on g.L.Look.shows c.args.board.now in
    word_refused c.size.result here.size
    (c.size.ensures ∙ sym (size-after (g.L.Look.shows c.args.board.now.look) c.args.board.now.moves))
    (At c.args.turn.target)
    (write_each (first_words c.args.plies c.args.won)
    (option_to_list (child_of (under c.args.turn ko) here c.args.turn.target))) c.args.out.now
    c.put_move.new.out c.put_move.new.out c.in_err-put_move.field-0.0 c.from_residual.result c.from_residual.ensures.1
    c.in_err-put_move.ensures

-- the proof at the child after it is written behind its word
pub write_back-returns-clause-puts : goal.write_back-returns-clause-puts
write_back-returns-clause-puts g t c = λ same ko asked.
    let here = position_on g.L.Look.shows c.args.board.now in
    word_written c.size.result here.size
    (c.size.ensures ∙ sym (size-after (g.L.Look.shows c.args.board.now.look) c.args.board.now.moves))
    (At c.args.turn.target)
    (write_each (first_words c.args.plies c.args.won)
    (option_to_list (child_of (under c.args.turn ko) here c.args.turn.target))) c.args.out.now
    c.put_move.new.out c.write_play.new.out c.write_play.result c.in_ok-put_move.ensures.0
    (c.write_play.ensures.puts same ko asked)

-- the claim is settled
pub write_moves-returns-then-is_settled-clause-puts : goal.write_moves-returns-then-is_settled-clause-puts
write_moves-returns-then-is_settled-clause-puts g t c = λ same ko asked.
    let here = position_on g.L.Look.shows c.args.board.now in
    rw (dot_words c.args.plies c.args.won (under c.args.turn ko) here
    (inr (sym (c.is_settled.ensures.answer ko (c.requires.none ko asked)) ∙ c.if-is_settled.true)))
    c.put_dot.ensures.puts

-- the side to play wants the claim
pub write_moves-returns-then-is_wanted-clause-puts : goal.write_moves-returns-then-is_wanted-clause-puts
write_moves-returns-then-is_wanted-clause-puts g t c = λ same ko asked.
    let here = position_on g.L.Look.shows c.args.board.now in
    let node = under c.args.turn ko in
    rw (move_words c.args.plies c.args.won node here c.requires.plies
    (sym (c.is_settled.ensures.answer ko (c.requires.none ko asked)) ∙ c.if-is_settled.false)
    (c.requires.none ko asked)
    (sym (ap (is_wanted c.args.won) c.node_of.ensures) ∙ sym c.is_wanted.ensures ∙ c.if-is_wanted.true))
    (subst (λ (p : BoardState). Puts c.args.out.now (behind_blanks (write_move
    (first_words (c.args.plies - 1) c.args.won) node p (first_move (c.args.plies - 1) node p)))
    c.write_move.new.out c.write_move.result)
    (here_stays g.L.Look.shows g.L.Look.seen c.args.board.now c.is_settled.new.board c.is_settled.ensures.stays)
    (c.write_move.ensures.puts same ko asked))

-- where the claim is neither settled nor wanted, its words are the star, those after the pass and those after the plays
star_words : (g : Over) (t : ℕ) (c : write_moves-After-put_word g t) (ko : Ko) → has c.args.asked ko ≡ true
    → let pos = position_on g.L.Look.shows c.args.board.now in
    behind_blanks (first_words c.args.plies c.args.won (under c.args.turn ko) pos) ≡ behind_blanks (codes "*" ∷ [])
    ++ (pass_words (c.args.plies - 1) c.args.won (under c.args.turn ko) pos
    ++ plays_words (c.args.plies - 1) c.args.won (under c.args.turn ko) pos)
star_words g t c ko asked =
    let pos = position_on g.L.Look.shows c.args.board.now in
    each_words c.args.plies c.args.won (under c.args.turn ko) pos c.requires.plies
    (sym (c.is_settled.ensures.answer ko (c.requires.none ko asked)) ∙ c.if-is_settled.false)
    (c.requires.none ko asked)
    (sym (ap (is_wanted c.args.won) c.node_of.ensures) ∙ sym c.is_wanted.ensures ∙ c.if-is_wanted.false)

-- there is no room for the star
pub write_moves-returns-in_err-put_word-clause-puts : goal.write_moves-returns-in_err-put_word-clause-puts
write_moves-returns-in_err-put_word-clause-puts g t c = λ same ko asked.
    let pos = position_on g.L.Look.shows c.args.board.now in
    let passed = pass_words (c.args.plies - 1) c.args.won (under c.args.turn ko) pos in
    let played = plays_words (c.args.plies - 1) c.args.won (under c.args.turn ko) pos in
    rw (star_words g t (goal.at.write_moves-returns-in_err-put_word-clause-puts g t c).After-put_word ko asked)
    (puts_up c.args.out.now c.put_word.new.out c.put_word.new.out (behind_blanks (codes "*" ∷ [])) (passed ++ played)
    c.in_err-put_word.field-0.0 c.from_residual.result c.from_residual.ensures.1 c.in_err-put_word.ensures)

-- there is none for the proof after the pass
pub write_moves-returns-in_err-alike-clause-puts : goal.write_moves-returns-in_err-alike-clause-puts
write_moves-returns-in_err-alike-clause-puts g t c = λ same ko asked.
    let pos = position_on g.L.Look.shows c.args.board.now in
    let node = under c.args.turn ko in
    let passed = pass_words (c.args.plies - 1) c.args.won node pos in
    let played = plays_words (c.args.plies - 1) c.args.won node pos in
    rw (star_words g t (goal.at.write_moves-returns-in_err-alike-clause-puts g t c).After-put_word ko asked)
    (puts_both c.args.out.now c.put_word.new.out c.write_pass.new.out (behind_blanks (codes "*" ∷ []))
    (passed ++ played) c.from_residual-in_err-alike.result c.in_ok-put_word.ensures.0
    (puts_up_told c.put_word.new.out c.write_pass.new.out c.write_pass.new.out passed played
    c.in_err-alike.field-0.0 c.from_residual-in_err-alike.result c.from_residual-in_err-alike.ensures.1
    (subst (λ (p : BoardState). Puts {T = Bool} c.put_word.new.out (pass_words (c.args.plies - 1) c.args.won node p)
    c.write_pass.new.out (Err c.in_err-alike.field-0.0))
    (here_stays g.L.Look.shows g.L.Look.seen c.args.board.now c.is_settled.new.board c.is_settled.ensures.stays)
    (c.in_err-alike.ensures.puts (λ e. cc) ko asked))))

-- there is room behind what is written after the pass
pub write_moves-write_plays-requires : goal.write_moves-write_plays-requires
write_moves-write_plays-requires g t c κs within =
    let one = some_of c.args.asked c.requires.some in
    let bytes : length c.write_pass.new.out ≤ most_bytes =
    (c.in_ok-alike.ensures.puts (yes_told c.in_ok-alike.alike c.if-not-alike.false) one.0 one.1).1 in
    search rules

-- the proofs after the pass differ
pub write_moves-returns-then-not-alike-clause-puts : goal.write_moves-returns-then-not-alike-clause-puts
write_moves-returns-then-not-alike-clause-puts g t c = λ same ko asked. absurd (same refl)

-- of one allowance alone they do not
pub write_moves-returns-then-not-alike-clause-one : goal.write_moves-returns-then-not-alike-clause-one
write_moves-returns-then-not-alike-clause-one g t c = λ one e. c.in_ok-alike.ensures.one one (ap Ok c.if-not-alike.true)

-- the star, the proof after the pass and those after the plays
pub write_moves-returns-clause-puts : goal.write_moves-returns-clause-puts
write_moves-returns-clause-puts g t c = λ same ko asked.
    let pos = position_on g.L.Look.shows c.args.board.now in
    let node = under c.args.turn ko in
    let passed = pass_words (c.args.plies - 1) c.args.won node in
    let played = plays_words (c.args.plies - 1) c.args.won node in
    let looked = here_stays g.L.Look.shows g.L.Look.seen c.args.board.now c.is_settled.new.board
    c.is_settled.ensures.stays in
    let walked = here_stays g.L.Look.shows g.L.Look.seen c.is_settled.new.board c.write_pass.new.board
    c.write_pass.ensures.stays ∙ looked in
    let first = c.in_ok-alike.ensures.puts (yes_told c.in_ok-alike.alike c.if-not-alike.false) ko asked in
    rw (star_words g t (goal.at.write_moves-returns-clause-puts g t c).After-put_word ko asked)
    (puts_both c.args.out.now c.put_word.new.out c.write_plays.new.out (behind_blanks (codes "*" ∷ []))
    (passed pos ++ played pos) c.write_plays.result c.in_ok-put_word.ensures.0
    (puts_both c.put_word.new.out c.write_pass.new.out c.write_plays.new.out (passed pos) (played pos)
    c.write_plays.result
    (subst (λ (p : BoardState). c.write_pass.new.out ≡ c.put_word.new.out ++ passed p) looked first.0)
    (subst (λ (p : BoardState). Puts c.write_pass.new.out (played p) c.write_plays.new.out c.write_plays.result) walked
    (c.write_plays.ensures.puts same ko asked))))

-- after a legal play the table is true of what was seen
pub write_play-write-done-requires : goal.write_play-write-done-requires
write_play-write-done-requires g t c κs within =
    let table = table_more c.requires.table c.make.ensures.grows in
    search rules

-- and after one by the own allowance
pub write_play-write-done-requires-in-Allowed : goal.write_play-write-done-requires-in-Allowed
write_play-write-done-requires-in-Allowed g t c κs within =
    let table = table_more c.requires.table c.make.ensures.grows in
    search rules

-- it stays so where nothing is written
pub write_play-returns-then-not-is_own_alone-clause-table : goal.write_play-returns-then-not-is_own_alone-clause-table
write_play-returns-then-not-is_own_alone-clause-table g t c =
    let table = table_more c.requires.table c.make.ensures.grows in
    search rules
