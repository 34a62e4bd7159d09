-- What is put behind a text, piece by piece.
use Rattle.std.proofs.Common.{◌≡◌, ◌≢◌, ◌∙◌, ℕ, zero, suc, ◌+◌, ◌-◌, ◌<◌, ◌≤◌, Bool, true, false, List}
use Rattle.std.proofs.Common.{[], ◌∷◌, ◌++◌, length, Option, Some, None, Result, Ok, Err, refl, sym, ap, subst, inl}
use Rattle.std.proofs.Common.{inr, arith, append_assoc, length-append, codes, ◌⊎◌, drop}
use Rattle.std.specs.List.{filter_map, cons_option, filter, range_with_len, join_with_byte}
use Rattle.std.specs.Result.{IsErrAnd}
use Rattle.std.proofs.lemmas.Bool.{cases_eq, eq-eqb, ne_eqb}
use Rattle.std.specs.Option.{option_to_list}
use Rattle.std.proofs.lemmas.List.{append-nil}
use Rattle.go_rules.specs.Position.{BoardState}
use Rattle.vertices.specs.Words.{blank}
use Rattle.read_rules.specs.declared.node.Node.{Node}
use Rattle.read_rules.specs.declared.question.ReadingQuestion.{ReadingQuestion}
use Rattle.read_rules.specs.Answer.{first_node, code_of}
use Rattle.read_rules.specs.GameTree.{first_move, child_of, taking_back}
use Rattle.read_rules.specs.declared.question.Spot.TheVariants.{At}
use Rattle.read_rules.proofs.RuleLemmas.{there, taking_back_gives}
use Rattle.write_proof.specs.declared.text.NoRoom.{NoRoom}
use Rattle.read_proof.specs.Tokens.{Word}
use Rattle.read_proof.specs.Proves.{can_take_back, is_settled, is_wanted, pass_children, play_children, children_of}
use Rattle.read_proof.specs.FirstProof.{Writer, move_word, write_each, write_move, first_words, first_words_of}
use Rattle.read_proof.specs.FirstProof.{first_text}
use Rattle.read_proof.specs.ProofOf.{codes_down_to, claim_under, letter_of}
use Rattle.write_proof.specs.Printed.{behind_blanks, Puts}
use Rattle.write_proof.specs.Room.{most_bytes}
use Rattle.read_proof.proofs.ChildLemmas.{walk_next, walk_over}
use Rattle.read_proof.proofs.FirstLemmas.{words-settled, words-moves, words-back}

-- what is put behind what was put
pub puts_both : {T : Type 0} (old mid new x y : List ℕ) (r : Result T NoRoom) → mid ≡ old ++ x → Puts mid y new r
    → Puts old (x ++ y) new r
puts_both old mid new x y (Ok done) e h = (h.0 ∙ ap (λ m. m ++ y) e ∙ append_assoc old x y, h.1)
puts_both old mid new x y (Err why) e h = grind (arith, append_assoc)

-- where the first piece is too long, so is the whole
pub puts_fails : {T U : Type 0} (old new after x y : List ℕ) (r : Result T NoRoom) (s : Result U NoRoom)
    (e : NoRoom) → r ≡ Err e → s ≡ Err e → Puts old x new r → Puts old (x ++ y) after s
puts_fails {T} {U} old new after x y r s e is same h = grind (arith, length-append, append_assoc)

-- the words of two rows behind blanks
pub blanks_both : (xs ys : List Word) → behind_blanks (xs ++ ys) ≡ behind_blanks xs ++ behind_blanks ys
blanks_both [] ys = refl
blanks_both (x ∷ xs) ys = grind (arith, blanks_both xs ys, append_assoc)

-- the words of the proofs at the children of two rows
pub each_both : (write : Writer) (xs ys : List (Node × BoardState))
    → write_each write (xs ++ ys) ≡ write_each write xs ++ write_each write ys
each_both write [] ys = refl
each_both write (x ∷ xs) ys = grind (arith, each_both write xs ys, append_assoc)

-- `.` is written where no ply is left or the claim is settled
pub dot_words : (n : ℕ) (won : Bool) (node : Node) (pos : BoardState) → (n ≡ 0) ⊎ (is_settled n won node pos ≡ true)
    → first_words n won node pos ≡ codes "." ∷ []
unfolding first_words
dot_words zero won node pos h = refl
dot_words (suc n) won node pos (inl none) = absurd (let w = none in cc)
dot_words (suc n) won node pos (inr settled) = words-settled n won node pos settled

-- where the defender takes back, the word of his play is written, and then the proof at the child to which it leads
pub back_words : (n : ℕ) (won : Bool) (node : Node) (pos : BoardState) → n ≢ 0 → can_take_back node pos ≡ true
    → first_words n won node pos ≡ move_word pos.size (At node.turn.target)
    ∷ write_each (first_words (n - 1) won) (option_to_list (child_of node pos node.turn.target))
back_words zero won node pos some back = absurd (some refl)
back_words (suc n) won node pos some back =
    let less : n ≡ suc n - 1 = omega arith in
    let child = there (taking_back node pos) back in
    let played = (taking_back_gives node pos child.0 child.1).1 in
    let word = move_word pos.size (At node.turn.target) in
    words-back n won node pos child.0 child.1
    ∙ ap (λ ws. word ∷ ws) (sym (append-nil (first_words n won child.0.0 child.0.1))
    ∙ sym (ap (λ o. write_each (first_words n won) (option_to_list o)) played))
    ∙ ap (λ m. word ∷ write_each (first_words m won) (option_to_list (child_of node pos node.turn.target))) less

-- a move is written where the side to play wants the claim
pub move_words : (n : ℕ) (won : Bool) (node : Node) (pos : BoardState) → n ≢ 0 → is_settled n won node pos ≡ false
    → taking_back node pos ≡ None → is_wanted won node ≡ true → first_words n won node pos
    ≡ write_move (first_words (n - 1) won) node pos (first_move (n - 1) node pos)
move_words zero won node pos some settled none wanted = absurd (some refl)
move_words (suc n) won node pos some settled none wanted =
    grind (arith, words-moves n won node pos true settled none wanted)

-- else `*`, and then the proofs after the pass and after the plays
pub each_words : (n : ℕ) (won : Bool) (node : Node) (pos : BoardState) → n ≢ 0 → is_settled n won node pos ≡ false
    → taking_back node pos ≡ None → is_wanted won node ≡ false → behind_blanks (first_words n won node pos)
    ≡ behind_blanks (codes "*" ∷ []) ++ (behind_blanks (write_each (first_words (n - 1) won) (pass_children node pos))
    ++ behind_blanks (write_each (first_words (n - 1) won) (play_children node pos)))
unfolding children_of
each_words zero won node pos some settled none wanted = absurd (some refl)
each_words (suc n) won node pos some settled none wanted =
    grind (arith, words-moves n won node pos false settled none wanted, each_both, blanks_both)

-- the first child of a row, where there is one
one_row : (write : Writer) (o : Option (Node × BoardState)) (more : List (Node × BoardState))
    → write_each write (cons_option o more) ≡ write_each write (option_to_list o) ++ write_each write more
one_row write None more = refl
one_row write (Some child) more = ap (λ t. t ++ write_each write more) (sym (append-nil (write child.0 child.1)))

-- what is left to write from a number on is what the next candidate gives and what is left behind it
pub walk_words : (write : Writer) (f : ℕ → Option (Node × BoardState)) (g : ℕ → Bool) (n a p : ℕ) → a ≤ p → p < n
    → g p ≡ true → ((k : ℕ) → a ≤ k → k < p → g k ≡ false)
    → behind_blanks (write_each write (filter_map f (filter g (range_with_len a (n - a)))))
    ≡ behind_blanks (write_each write (option_to_list (f p)))
    ++ behind_blanks (write_each write (filter_map f (filter g (range_with_len (p + 1) (n - (p + 1))))))
walk_words write f g n a p low high here none =
    grind (
      arith,
      walk_next g (n - a) a p low,
      one_row write (f p),
      blanks_both (write_each write (option_to_list (f p))),
    )

-- where no candidate is left nothing is left to write
pub walk_written : (write : Writer) (f : ℕ → Option (Node × BoardState)) (g : ℕ → Bool) (m a : ℕ) (out whole : List ℕ)
    → ((k : ℕ) → a ≤ k → g k ≡ false)
    → out ++ behind_blanks (write_each write (filter_map f (filter g (range_with_len a m)))) ≡ whole → out ≡ whole
walk_written write f g m a out whole none e = grind (arith, append-nil, walk_over)

-- an error that is handed up is that of the first piece
pub puts_up : {U : Type 0} (old new after x y : List ℕ) (e : NoRoom) (s : Result U NoRoom)
    → IsErrAnd s (λ k. k ≡ e)
    → Puts {T = Unit {0}} old x new (Err e) → Puts old (x ++ y) after s
puts_up old new after x y e (Ok done) same h = absurd same
puts_up {U} old new after x y e (Err k) same h =
    puts_fails {T = Unit {0}} {U = U} old new after x y (Err e) (Err k) e refl (ap Err same) h

-- what is put depends on the whole text alone
pub puts_same : {T : Type 0} (old old' new x y : List ℕ) (r : Result T NoRoom) → old ++ x ≡ old' ++ y
    → Puts old x new r → Puts old' y new r
puts_same old old' new x y (Ok done) e h = (h.0 ∙ e, h.1)
puts_same old old' new x y (Err why) e h = subst (λ t. most_bytes < length t) e h

-- The claims of a proof of the code.
module _ (q : ReadingQuestion) (pos : BoardState) (code : ℕ) where
  -- what is written under one code: the letter of the claim, and its proof
  pub under_words : (more : ℕ) → behind_blanks (first_words_of q pos code (more ∷ []))
      ≡ behind_blanks (letter_of (claim_under q code more) ∷ [])
      ++ behind_blanks (first_words q.plies (claim_under q code more) (first_node q more) pos)
  unfolding first_words_of
  under_words more = grind (arith, append-nil, blanks_both)

  -- what is written under some codes, and under those behind the first
  pub split_words : (more : ℕ) (others : List ℕ) → behind_blanks (first_words_of q pos code (more ∷ others))
      ≡ behind_blanks (first_words_of q pos code (more ∷ [])) ++ behind_blanks (first_words_of q pos code others)
  unfolding first_words_of
  split_words more others = grind (arith, blanks_both, append-nil)

  -- what is written under a code
  abbrev pub part : ℕ → List ℕ
  part more = behind_blanks (first_words_of q pos code (more ∷ []))

  -- the whole of code 3
  pub whole_three : code ≡ 3 → behind_blanks (first_words_of q pos code (codes_down_to code)) ≡ part 3
  whole_three is = grind (arith, eq-eqb)

  -- of code 2
  pub whole_two : code ≡ 2 → behind_blanks (first_words_of q pos code (codes_down_to code)) ≡ part 3 ++ part 2
  whole_two is = grind (arith, ne_eqb, eq-eqb, split_words)

  -- of another
  pub whole_one : code ≢ 3 → code ≢ 2
      → behind_blanks (first_words_of q pos code (codes_down_to code)) ≡ part 3 ++ (part 2 ++ part 1)
  whole_one not_3 not_2 = grind (arith, ne_eqb, split_words)

  -- whatever the code, the part of code 3 stands in front
  pub whole_first : (rest : List ℕ) × (behind_blanks (first_words_of q pos code (codes_down_to code)) ≡ part 3 ++ rest)
  whole_first = grind (arith, cases_eq, whole_three, append-nil, whole_two, whole_one)

  -- and that of code 2 behind it, where the code is another
  pub whole_second : code ≢ 3
      → (rest : List ℕ) × (behind_blanks (first_words_of q pos code (codes_down_to code)) ≡ part 3 ++ (part 2 ++ rest))
  whole_second not_3 = grind (arith, cases_eq, whole_two, append-nil, whole_one)

-- words with one blank between each two are these words behind blanks, without the first blank
pub joined_words : (words : List Word) → drop 1 (behind_blanks words) ≡ join_with_byte blank words
joined_words [] = refl
joined_words (word ∷ []) = append-nil word
joined_words (word ∷ (next ∷ more)) = ap (λ t. word ++ (blank ∷ t)) (joined_words (next ∷ more))

-- the first text, without the blank in front
pub text_words : (q : ReadingQuestion) (pos : BoardState) (code : ℕ) → code ≡ code_of q pos
    → drop 1 (behind_blanks (first_words_of q pos code (codes_down_to code))) ≡ first_text q pos
unfolding first_text
text_words q pos code e = grind (arith, joined_words)

-- something is written
pub some_text : (q : ReadingQuestion) (pos : BoardState) (code : ℕ)
    → 0 < length (behind_blanks (first_words_of q pos code (codes_down_to code)))
some_text q pos code = grind (arith, whole_first q pos code, under_words q pos code 3)

-- a list without its first element is shorter by one
pub one_less : (text : List ℕ) → 0 < length text → length text ≡ length (drop 1 text) + 1
one_less [] some = absurd (omega arith)
one_less (x ∷ xs) some = omega arith
