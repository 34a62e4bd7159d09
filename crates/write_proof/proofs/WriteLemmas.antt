-- What is written at a node, by what is written at the nodes to which its moves lead.
use Rattle.std.proofs.Common.{◌≡◌, ◌∙◌, ℕ, ◌-◌, ◌≤◌, Bool, true, false, cond, List, [], ◌∷◌, ◌++◌, length}
use Rattle.std.proofs.Common.{Option, Some, None, Result, Ok, Err, refl, sym, ap, subst, arith, ltb, eqb, ◌||◌, ◌&&◌}
use Rattle.std.proofs.Common.{◌+◌, ◌*◌, ◌/◌, ◌<◌, ◌≢◌, drop}
use Rattle.std.proofs.lemmas.Bool.{ne_eqb}
use Rattle.std.specs.List.{filter_map, filter, range_with_len}
use Rattle.std.specs.Option.{option_to_list}
use Rattle.std.specs.Result.{IsErrAnd}
use Rattle.std.proofs.lemmas.List.{append-nil}
use Rattle.go_rules.specs.Position.{BoardState}
use Rattle.go_rules.specs.Play.{pass}
use Rattle.go_rules.specs.Strings.{liberties}
use Rattle.go_base.specs.Facts.{Fact}
use Rattle.trial_board.specs.Trials.{Trying, KeepsTrial}
use Rattle.read_rules.proofs.CandidateLaws.{candidate_on}
use Rattle.read_rules.specs.Candidates.{is_candidate}
use Rattle.read_rules.specs.declared.node.Node.{Node}
use Rattle.read_rules.specs.declared.question.Spot.{Spot}
use Rattle.read_rules.specs.declared.question.Spot.TheVariants.{At, Pass}
use Rattle.read_rules.specs.Trees.{most_narrow}
use Rattle.read_rules.specs.GameTree.{child_of, next_node, allowance_of, first_move, is_captured, has_many_liberties}
use Rattle.read_rules.specs.GameTree.{taking_back}
use Rattle.read_rules.proofs.RuleLemmas.{first_move_gives}
use Rattle.read_tree.specs.Nodes.{LeadsTo}
use Rattle.read_proof.specs.Proves.{child_after, passed, pass_children, play_children, is_settled, has_too_many}
use Rattle.read_proof.specs.Tokens.{Word}
use Rattle.read_proof.specs.FirstProof.{Writer, move_word, write_child, write_each, write_move, first_words}
use Rattle.write_proof.specs.declared.text.NoRoom.{NoRoom}
use Rattle.write_proof.specs.Printed.{behind_blanks, Puts, position_on}
use Rattle.write_proof.specs.Room.{most_bytes}
use Rattle.write_proof.proofs.PutLemmas.{puts_both, puts_up, blanks_both, one_less, walk_words}

-- where the trial moves and the position shown stay, so does the position after the moves
pub here_stays : {L : Type 0} (shows : L → BoardState) (seen : L → Fact → Bool) (old new : Trying L)
    → KeepsTrial shows seen old new → position_on shows new ≡ position_on shows old
here_stays shows seen old new stays = grind arith

-- nothing is put where nothing is to be written
pub nothing_put : (out more : List ℕ) → [] ≡ more → length out ≤ most_bytes → Puts {T = Unit {0}} out more out (Ok tt)
nothing_put out more none room = (sym (append-nil out) ∙ ap (λ t. out ++ t) none, room)

-- the words at one child, where there is one
pub child_each : (write : Writer) (o : Option (Node × BoardState))
    → write_child write o ≡ write_each write (option_to_list o)
child_each write None = refl
child_each write (Some child) = sym (append-nil (write child.0 child.1))

-- the words at the child after the pass, where there is one
pass_each : (write : Writer) (attacker : Bool) (child : Node × BoardState)
    → write_child write (cond attacker None (Some child)) ≡ write_each write (cond attacker [] (child ∷ []))
pass_each write true child = refl
pass_each write false child = sym (append-nil (write child.0 child.1))

-- The first proof of a claim at a node, with n plies left after its move.
module _ (n : ℕ) (won : Bool) (node : Node) (here : BoardState) where
  -- what is written after the play at p
  abbrev pub play_words : ℕ → List ℕ
  play_words p = behind_blanks (write_each (first_words n won) (option_to_list (child_of node here p)))

  -- what is written after the plays at the candidates from a point on
  abbrev pub words_from : ℕ → List ℕ
  words_from from = behind_blanks (write_each (first_words n won) (filter_map (child_of node here)
      (filter (is_candidate node.turn here) (range_with_len from (here.size * here.size - from)))))

  -- what is written after the pass
  abbrev pub pass_words : List ℕ
  pass_words = behind_blanks (write_each (first_words n won) (pass_children node here))

  -- and after all plays
  abbrev pub plays_words : List ℕ
  plays_words = behind_blanks (write_each (first_words n won) (play_children node here))

  -- from a point on it is what the play at the next candidate gives, and what is written from behind that on
  pub next_words : (from p : ℕ) → from ≤ p → is_candidate node.turn here p ≡ true
      → ((k : ℕ) → from ≤ k → k < p → is_candidate node.turn here k ≡ false)
      → words_from from ≡ play_words p ++ words_from (p + 1)
  next_words from p low is none = grind (arith, walk_words, candidate_on)

  -- what is written after a play that was made
  pub play_written : {T : Type 0} (p : ℕ) (child : Option Node) (next : Node) (new : BoardState) (old out : List ℕ)
      (r : Result T NoRoom) → LeadsTo node here p child new → child ≡ Some next
      → Puts old (behind_blanks (first_words n won next new)) out r
      → Puts old (behind_blanks (write_each (first_words n won) (option_to_list (child_of node here p)))) out r
  play_written p child next new old out r leads is h = grind (arith, append-nil)

  -- nothing is written after one that was not
  pub refused_written : (p : ℕ) (child : Option Node) (new : BoardState) → LeadsTo node here p child new → child ≡ None
      → [] ≡ behind_blanks (write_each (first_words n won) (option_to_list (child_of node here p)))
  refused_written p child new leads is = grind arith

  -- the attacker does not pass
  pub no_pass_written : node.turn.attacker_to_play ≡ true
      → [] ≡ behind_blanks (write_each (first_words n won) (pass_children node here))
  no_pass_written e = grind arith

  -- what is written after the defender's pass
  pub pass_written : {T : Type 0} (old out : List ℕ) (r : Result T NoRoom) → node.turn.attacker_to_play ≡ false
      → Puts old (behind_blanks (first_words n won (next_node node (allowance_of node)) (pass here))) out r
      → Puts old (behind_blanks (write_each (first_words n won) (pass_children node here))) out r
  pass_written old out r e h = grind (arith, append-nil)

  -- the words of a move are its own, and those at its child
  move_parts : (size : ℕ) (spot : Spot) → size ≡ here.size → Some spot ≡ first_move n node here
      → behind_blanks (move_word size spot ∷ [])
      ++ behind_blanks (write_child (first_words n won) (child_after node here spot))
      ≡ behind_blanks (write_move (first_words n won) node here (first_move n node here))
  move_parts size spot same is =
      sym (blanks_both (move_word size spot ∷ []) (write_child (first_words n won) (child_after node here spot)))
      ∙ ap (λ s. behind_blanks (move_word s spot ∷ write_child (first_words n won) (child_after node here spot))) same
      ∙ ap (λ o. behind_blanks (write_move (first_words n won) node here o)) is

  -- what is written at the child of the first move, behind its word
  pub move_written : {T : Type 0} (size : ℕ) (spot : Spot) (old mid out more : List ℕ) (r : Result T NoRoom)
      → size ≡ here.size → Some spot ≡ first_move n node here → mid ≡ old ++ behind_blanks (move_word size spot ∷ [])
      → more ≡ behind_blanks (write_child (first_words n won) (child_after node here spot))
      → Puts mid more out r
      → Puts old (behind_blanks (write_move (first_words n won) node here (first_move n node here))) out r
  move_written size spot old mid out more r same is behind words h =
      subst (λ ws. Puts old ws out r) (move_parts size spot same is)
      (puts_both old mid out (behind_blanks (move_word size spot ∷ []))
      (behind_blanks (write_child (first_words n won) (child_after node here spot))) r behind
      (subst (λ ws. Puts mid ws out r) words h))

  -- there was no room for its word
  pub move_refused : {T : Type 0} (size : ℕ) (spot : Spot) (old out end : List ℕ) (e : NoRoom)
      (r : Result T NoRoom) → size ≡ here.size → Some spot ≡ first_move n node here → IsErrAnd r (λ k. k ≡ e)
      → Puts {T = Unit {0}} old (behind_blanks (move_word size spot ∷ [])) out (Err e)
      → Puts old (behind_blanks (write_move (first_words n won) node here (first_move n node here))) end r
  move_refused size spot old out end e r same is up h =
      subst (λ ws. Puts old ws end r) (move_parts size spot same is)
      (puts_up old out end (behind_blanks (move_word size spot ∷ []))
      (behind_blanks (write_child (first_words n won) (child_after node here spot))) e r up h)

  -- no move is written where none will do
  pub no_move_written : None ≡ first_move n node here
      → [] ≡ behind_blanks (write_move (first_words n won) node here (first_move n node here))
  no_move_written is = ap (λ o. behind_blanks (write_move (first_words n won) node here o)) is

  -- the child after a play that is the first move
  pub play_child : (p : ℕ) → Some (At p) ≡ first_move n node here
      → behind_blanks (write_each (first_words n won) (option_to_list (child_of node here p)))
      ≡ behind_blanks (write_child (first_words n won) (child_after node here (At p)))
  unfolding child_after
  play_child p is =
      grind (arith, first_move_gives n node here (At p) (sym is), child_each (first_words n won) (child_of node here p))

  -- the child after the pass
  pub pass_child : behind_blanks (write_each (first_words n won) (pass_children node here))
      ≡ behind_blanks (write_child (first_words n won) (child_after node here Pass))
  unfolding child_after
  pass_child = ap behind_blanks (sym (pass_each (first_words n won) node.turn.attacker_to_play (passed node here)))

-- The word of a move on a board of this size, and the words behind it.
module _ (size s : ℕ) (same : size ≡ s) (spot : Spot) (more : List Word) (old : List ℕ) where
  -- a word behind a blank and the others are all of them
  word_parts : behind_blanks (move_word size spot ∷ []) ++ behind_blanks more ≡ behind_blanks (move_word s spot ∷ more)
  word_parts =
      sym (blanks_both (move_word size spot ∷ []) more) ∙ ap (λ m. behind_blanks (move_word m spot ∷ more)) same

  -- what is written behind its word
  pub word_written : {T : Type 0} (mid out : List ℕ) (r : Result T NoRoom)
      → mid ≡ old ++ behind_blanks (move_word size spot ∷ []) → Puts mid (behind_blanks more) out r
      → Puts old (behind_blanks (move_word s spot ∷ more)) out r
  word_written mid out r behind h =
      subst (λ ws. Puts old ws out r) word_parts
      (puts_both old mid out (behind_blanks (move_word size spot ∷ [])) (behind_blanks more) r behind h)

  -- there was no room for its word
  pub word_refused : {T : Type 0} (out end : List ℕ) (e : NoRoom) (r : Result T NoRoom) → IsErrAnd r (λ k. k ≡ e)
      → Puts {T = Unit {0}} old (behind_blanks (move_word size spot ∷ [])) out (Err e)
      → Puts old (behind_blanks (move_word s spot ∷ more)) end r
  word_refused out end e r up h =
      subst (λ ws. Puts old ws end r) word_parts
      (puts_up old out end (behind_blanks (move_word size spot ∷ [])) (behind_blanks more) e r up h)

-- before the first candidate everything is left to write
pub all_left : (write : Writer) (f : ℕ → Option (Node × BoardState)) (g : ℕ → Bool) (n : ℕ) (out : List ℕ)
    → out ++ behind_blanks (write_each write (filter_map f (filter g (range_with_len 0 (n - 0)))))
    ≡ out ++ behind_blanks (write_each write (filter_map f (filter g (range_with_len 0 n))))
all_left write f g n out = grind arith

-- The claim at a node with n plies left at which the defender cannot take back, by what was found of the target.
module _ (n : ℕ) (node : Node) (here : BoardState) (captured : Bool)
    (found : captured ≡ is_captured here node.turn.target) (none : taking_back node here ≡ None) where
  -- the claim is settled by whether the target is taken, how many plies are left, and how many liberties it has
  settled_by : (won : Bool) → is_settled n won node here ≡ cond won (captured && true)
      (cond captured (eqb n 0 && false) (eqb n 0 || has_too_many n node here))
  unfolding is_settled
  settled_by won = grind arith

  -- that the attacker wins is settled where the target is captured
  pub settled_won : (won : Bool) → won ≡ true → captured ≡ is_settled n won node here
  settled_won won e = grind (arith, settled_by)

  -- that he does not is not, where it is
  pub settled_captured : (won : Bool) → won ≡ false → captured ≡ true → false ≡ is_settled n won node here
  settled_captured won e taken = grind (arith, settled_by)

  -- it is where no ply is left
  pub settled_end : (won : Bool) → won ≡ false → captured ≡ false → n ≡ 0 → true ≡ is_settled n won node here
  settled_end won e stands over = grind (arith, settled_by)

  -- or the target has too many liberties
  pub settled_many : (won : Bool) (many : ℕ) → won ≡ false → captured ≡ false → n ≢ 0
      → many ≡ liberties here.size here.cells node.turn.target
      → cond node.turn.attacker_to_play (ltb ((n + 1) / 2) many
      || (ltb 4 many || (eqb node.turn.wide 0 && ltb (most_narrow node.turn.tree) many)))
      (ltb (n / 2) many) ≡ is_settled n won node here
  unfolding has_too_many has_many_liberties
  settled_many won many e stands some is = grind (arith, settled_by, ne_eqb)

-- The whole text, by its words behind blanks.
module _ (bytes text : List ℕ) (is : drop 1 bytes ≡ text) where
  -- it is not too long if these are not
  pub short_text : length bytes ≤ most_bytes → length text ≤ 60000
  short_text few = grind arith

  -- and it is if these are
  pub long_text : most_bytes < length bytes → 60000 < length text
  long_text many = grind (arith, one_less)
