-- What a proof is by its first word, and the walk over the replies.
use Rattle.std.proofs.Common.{◌≡◌, ◌≢◌, ◌∙◌, ℕ, zero, suc, ◌+◌, ◌-◌, ◌*◌, ◌<◌, ◌≤◌, Bool, true, false, cond, List, [], ◌∷◌}
use Rattle.std.proofs.Common.{Option, Some, None, refl, ap, arith}
use Rattle.std.specs.List.{filter, range_with_len}
use Rattle.std.specs.Option.{option_and_then}
use Rattle.std.specs.Prelude.{codes}
use Rattle.std.specs.Str.{bytes_eq}
use Rattle.go_rules.specs.Position.{BoardState}
use Rattle.read_rules.specs.declared.node.Node.{Node}
use Rattle.read_rules.specs.GameTree.{child_of}
use Rattle.read_proof.specs.Tokens.{Word}
use Rattle.read_proof.proofs.ChildLemmas.{walk_next}
use Rattle.read_rules.specs.GameTree.{next_node, allowance_of, taking_back}
use Rattle.read_rules.specs.Turns.{mover_of}
use Rattle.go_rules.specs.Play.{pass}
use Rattle.go_rules.specs.Position.{other}
use Rattle.vertices.specs.Vertices.{target_of as target_named}
use Rattle.sure_rules.specs.Nodes.{is_attackers, is_gone, has_too_many, target_of}
use Rattle.std.specs.Option.{option_map}
use Rattle.std.specs.FinSet as sets
use Rattle.std.proofs.Common.{◌||◌}
use Rattle.sure_proof.specs.Rests.{Points, candidate_rests_on, loss_rests_on, guard_of, asked_of}
use Rattle.sure_proof.specs.SureProofs.{Proved, Prover, proved_by, points_in, behind_word, behind_vertex}
use Rattle.sure_proof.specs.SureProofs.{is_to, by_capture, by_back, by_child, by_move, by_replies, by_turn, behind_pass}
use Rattle.sure_proof.specs.SureProofs.{move_rests_on, with_move, with_candidate}
use Rattle.sure_proof.specs.SureProofs.{at_reply, at_replies, proves_surely}

-- A node, and the words at it.
module _ (node : Node) (pos : BoardState) (words : List Word) where
  -- where there is no word there is no proof
  pub no_words : (n : ℕ) → words ≡ [] → proves_surely n node pos words ≡ None
  unfolding proves_surely
  no_words zero e = ap (proves_surely zero node pos) e
  no_words (suc n) e = ap (proves_surely (suc n) node pos) e

  -- The first word.
  module _ (word : Word) (rest : List Word) (first : words ≡ word ∷ rest) where
    -- if it is `.`, the target is captured
    pub capture_word : (n : ℕ) → bytes_eq word (codes ".") ≡ true
        → proves_surely n node pos words ≡ by_capture node pos rest
    unfolding proves_surely
    capture_word zero is = grind arith
    capture_word (suc n) is = grind arith

    -- if it is another word, a ply must be left
    pub out_of_plies : (n : ℕ) → bytes_eq word (codes ".") ≡ false → n ≡ 0 → proves_surely n node pos words ≡ None
    unfolding proves_surely
    out_of_plies zero is none = grind arith
    out_of_plies (suc n) is none = absurd (let wrong = none in cc)

    -- and it says what its side does
    pub turn_word : (n : ℕ) → bytes_eq word (codes ".") ≡ false → n ≢ 0
        → proves_surely n node pos words ≡ by_turn (proves_surely (n - 1)) node pos word rest
    unfolding proves_surely
    turn_word zero is some = absurd (some refl)
    turn_word (suc n) is some =
        let less : n ≡ suc n - 1 = omega arith in
        ap (proves_surely (suc n) node pos) first
        ∙ ap (λ b. cond b (by_capture node pos rest) (by_turn (proves_surely n) node pos word rest)) is
        ∙ ap (λ m. by_turn (proves_surely m) node pos word rest) less

-- a walk over numbers of which none passes finds none
none_passes : (g : ℕ → Bool) (m a : ℕ) → ((k : ℕ) → a ≤ k → k < a + m → g k ≡ false)
    → filter g (range_with_len a m) ≡ []
none_passes g zero a none = refl
none_passes g (suc m) a none = grind (arith, none_passes g m (a + 1))

-- The replies from a number on, of those below n that pass the test.
module _ (prove : Prover) (node : Node) (pos : BoardState) (g : ℕ → Bool) (n a : ℕ) (so_far : Proved)
    (whole : Option Proved)
    (is : at_replies prove node pos (filter g (range_with_len a (n - a))) so_far ≡ whole) where
  -- if no more passes, what was proved so far is all
  pub replies_end : ((k : ℕ) → a ≤ k → k < n → g k ≡ false) → whole ≡ Some so_far
  replies_end none = grind (arith, none_passes)

  -- The next that passes.
  module _ (p : ℕ) (low : a ≤ p) (high : p < n) (here : g p ≡ true)
      (none : (k : ℕ) → a ≤ k → k < p → g k ≡ false) where
    -- behind it come the others
    replies_split : option_and_then (at_replies prove node pos (filter g (range_with_len (p + 1) (n - (p + 1)))))
        (at_reply prove node pos p (child_of node pos p) so_far) ≡ whole
    replies_split = grind (arith, walk_next g (n - a) a p low)

    -- if it is proved they are what is left
    pub replies_on : (found : Proved) → at_reply prove node pos p (child_of node pos p) so_far ≡ Some found
        → at_replies prove node pos (filter g (range_with_len (p + 1) (n - (p + 1)))) found ≡ whole
    replies_on found e = grind (arith, replies_split)

    -- if it is not, nothing is
    pub replies_fail : at_reply prove node pos p (child_of node pos p) so_far ≡ None → whole ≡ None
    replies_fail e = grind (arith, replies_split)

-- The proof of the node after a play of the attacker.
module _ (prove : Prover) (node : Node) (pos : BoardState) (p : ℕ) (o : Option (Node × BoardState))
    (words : List Word) where
  -- a play that cannot be made proves nothing
  pub play_refused : o ≡ None → by_child prove node pos p o words ≡ None
  play_refused e = ap (λ v. by_child prove node pos p v words) e

  module _ (child : Node × BoardState) (is : o ≡ Some child) where
    -- nor does one behind which no proof comes
    pub play_fails : prove child.0 child.1 words ≡ None → by_child prove node pos p o words ≡ None
    play_fails e = ap (λ v. by_child prove node pos p v words) is ∙ ap (option_map (with_candidate node pos p)) e

    -- with a proof behind it, it rests on its points and on those of that proof
    pub play_holds : (rest : List Word) (zone : Points) → prove child.0 child.1 words ≡ Some (proved_by rest zone)
        → by_child prove node pos p o words ≡ Some (proved_by rest
        (sets.union (sets.union (candidate_rests_on node.turn pos p) (move_rests_on node pos p zone)) zone))
    play_holds rest zone e = grind arith

-- The proof of the node after the play that takes back.
module _ (prove : Prover) (node : Node) (pos : BoardState) (word : Word) (o : Option (Node × BoardState))
    (words : List Word) where
  -- if the defender cannot take back there is none
  pub back_refused : o ≡ None → by_back prove node pos word o words ≡ None
  back_refused e = ap (λ v. by_back prove node pos word v words) e

  module _ (child : Node × BoardState) (is : o ≡ Some child) where
    -- another word than the vertex of the target's point proves nothing
    pub back_unnamed : is_to (target_named pos.size word) (target_of node) ≡ false
        → by_back prove node pos word o words ≡ None
    back_unnamed f = grind arith

    -- nor does the vertex behind which no proof comes
    pub back_fails : is_to (target_named pos.size word) (target_of node) ≡ true
        → prove child.0 child.1 words ≡ None → by_back prove node pos word o words ≡ None
    back_fails t e = grind arith

    -- with a proof behind it, it rests on its points and on those of that proof
    pub back_holds : is_to (target_named pos.size word) (target_of node) ≡ true → (rest : List Word) (zone : Points)
        → prove child.0 child.1 words ≡ Some (proved_by rest zone)
        → by_back prove node pos word o words ≡ Some (proved_by rest (sets.union (loss_rests_on node pos) zone))
    back_holds t rest zone e = grind arith

-- The proof of the node after a reply.
module _ (prove : Prover) (node : Node) (pos : BoardState) (p : ℕ) (o : Option (Node × BoardState)) (words : List Word)
    (Z : Points) where
  -- a reply that cannot be made needs no words
  pub reply_refused : o ≡ None → at_reply prove node pos p o (proved_by words Z)
      ≡ Some (proved_by words (with_move node pos p Z))
  reply_refused e = ap (λ v. at_reply prove node pos p v (proved_by words Z)) e

  module _ (child : Node × BoardState) (is : o ≡ Some child) where
    -- another needs its vertex
    pub reply_unnamed : behind_vertex pos.size p words ≡ None → at_reply prove node pos p o (proved_by words Z) ≡ None
    reply_unnamed e = grind arith

    -- and behind that a proof
    pub reply_fails : (left : List Word) → behind_vertex pos.size p words ≡ Some left
        → prove child.0 child.1 left ≡ None → at_reply prove node pos p o (proved_by words Z) ≡ None
    reply_fails left e none = grind arith

    -- on whose points it rests too
    pub reply_holds : (left rest : List Word) (zone : Points) → behind_vertex pos.size p words ≡ Some left
        → prove child.0 child.1 left ≡ Some (proved_by rest zone)
        → at_reply prove node pos p o (proved_by words Z)
        ≡ Some (proved_by rest (with_move node pos p (sets.union Z zone)))
    reply_holds left rest zone e holds = grind arith

-- The proof at the defender's turn.
module _ (prove : Prover) (node : Node) (pos : BoardState) (words : List Word) where
  -- behind no proof of the pass there is none
  pub pass_fails : prove (next_node node (allowance_of node)) (pass pos) words ≡ None
      → by_replies prove node pos words ≡ None
  pass_fails e = ap (option_and_then (behind_pass prove node pos)) e

  -- The words behind the proof after the pass, and its zone.
  module _ (left : List Word) (P : Points)
      (passed : prove (next_node node (allowance_of node)) (pass pos) words ≡ Some (proved_by left P)) where
    -- the zone that the replies come to
    abbrev pub begun : Proved
    begun = proved_by left (sets.union P (guard_of pos.size pos.cells (other (mover_of node.turn)) P))

    -- without the replies there is no proof
    pub replies_missing : at_replies prove node pos
        (points_in pos.size (asked_of pos.size pos.cells (other (mover_of node.turn)) P)) begun ≡ None
        → by_replies prove node pos words ≡ None
    replies_missing e = grind arith

    -- The words behind the replies, and the zone.
    module _ (more : List Word) (Z : Points) (replied : at_replies prove node pos
        (points_in pos.size (asked_of pos.size pos.cells (other (mover_of node.turn)) P)) begun
        ≡ Some (proved_by more Z)) where
      -- without the end there is no proof
      pub end_missing : behind_word (codes ";") more ≡ None → by_replies prove node pos words ≡ None
      end_missing e = grind arith

      -- with it there is
      pub end_comes : (rest : List Word) → behind_word (codes ";") more ≡ Some rest
          → by_replies prove node pos words ≡ Some (proved_by rest Z)
      end_comes rest e = grind arith

-- What the first word says by the turn.
module _ (prove : Prover) (node : Node) (pos : BoardState) (word : Word) (rest : List Word) where
  -- by whose turn it is, whether the attacker is barred, and whether the word is `*`
  by_three : (turn barred every : Bool) → is_attackers node ≡ turn
      → (is_gone node pos || has_too_many node pos) ≡ barred → bytes_eq word (codes "*") ≡ every
      → by_turn prove node pos word rest ≡ cond turn
      (cond barred None (by_move prove node pos (target_named pos.size word) rest))
      (cond every (by_replies prove node pos rest) (by_back prove node pos word (taking_back node pos) rest))
  by_three turn barred every a b c = grind arith

  -- an attacker that is barred proves nothing
  pub turn_barred : is_attackers node ≡ true → (is_gone node pos || has_too_many node pos) ≡ true
      → by_turn prove node pos word rest ≡ None
  turn_barred a b = by_three true true (bytes_eq word (codes "*")) a b refl

  -- another plays
  pub turn_moves : is_attackers node ≡ true → (is_gone node pos || has_too_many node pos) ≡ false
      → by_turn prove node pos word rest ≡ by_move prove node pos (target_named pos.size word) rest
  turn_moves a b = by_three true false (bytes_eq word (codes "*")) a b refl

  -- a defender without `*` takes back
  pub turn_back : is_attackers node ≡ false → bytes_eq word (codes "*") ≡ false
      → by_turn prove node pos word rest ≡ by_back prove node pos word (taking_back node pos) rest
  turn_back a c = by_three false (is_gone node pos || has_too_many node pos) false a refl c

  -- with it he passes and replies
  pub turn_replies : is_attackers node ≡ false → bytes_eq word (codes "*") ≡ true
      → by_turn prove node pos word rest ≡ by_replies prove node pos rest
  turn_replies a c = by_three false (is_gone node pos || has_too_many node pos) true a refl c
