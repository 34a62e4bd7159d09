use Rattle.std.proofs.Common.{◌≡◌, ℕ, Bool, List, ◌++◌, [], ◌∷◌, refl, ap, arith}
use Rattle.go_rules.specs.Position.{BoardState}
use Rattle.read_rules.specs.Answer.{first_turn}
use Rattle.read_rules.specs.declared.question.ReadingQuestion.{ReadingQuestion}
use Rattle.read_rules.specs.declared.turn.Turn.{Turn}
use Rattle.read_tree.specs.Allowances.{Ko, under}
use Rattle.read_proof.specs.FirstProof.{first_words}
use Rattle.read_proof.specs.ProofOf.{letter_of}
use Rattle.write_proof.specs.Alike.{claim_words}
use Rattle.write_proof.specs.Printed.{behind_blanks, position_on}
use Rattle.write_proof.proofs.PutLemmas.{puts_both, puts_up, puts_same, blanks_both}
use Rattle.write_proof.proofs.codes.write_claim.Goals as goal

-- the words of a claim are its letter and the first proof at the question's first turn
claim_parts : (q : ReadingQuestion) (pos : BoardState) (won : Bool) (ko : Ko) (letter : List ℕ) (turn : Turn)
    → letter ≡ letter_of won → turn ≡ first_turn q
    → behind_blanks (letter ∷ []) ++ behind_blanks (first_words q.plies won (under turn ko) pos)
    ≡ behind_blanks (claim_words q pos won ko)
claim_parts q pos won ko letter turn is first = grind (arith, blanks_both)

-- there is no room for the letter
pub returns-in_err-put_word-clause-puts : goal.returns-in_err-put_word-clause-puts
returns-in_err-put_word-clause-puts g c = λ same ko asked.
    let q = c.args.question.now in
    let pos = position_on g.L.Look.shows c.args.board.now in
    let letter = behind_blanks (c.letter.result.now ∷ []) in
    let proof = behind_blanks (first_words q.plies c.args.won (under (first_turn q) ko) pos) in
    puts_same c.args.out.now c.args.out.now c.put_word.new.out (letter ++ proof) _ c.from_residual.result
    (ap (λ t. c.args.out.now ++ t) (claim_parts q pos c.args.won ko _ (first_turn q) c.letter.ensures refl))
    (puts_up c.args.out.now c.put_word.new.out c.put_word.new.out letter proof c.in_err-put_word.field-0.0
    c.from_residual.result c.from_residual.ensures.1 c.in_err-put_word.ensures)

-- the letter and the proof
pub returns-clause-puts : goal.returns-clause-puts
returns-clause-puts g c = λ same ko asked.
    let q = c.args.question.now in
    let pos = position_on g.L.Look.shows c.args.board.now in
    let letter = behind_blanks (c.letter.result.now ∷ []) in
    let proof = behind_blanks (first_words q.plies c.args.won (under c.first_turn.result ko) pos) in
    puts_same c.args.out.now c.args.out.now c.write.new.out (letter ++ proof) _ c.write.result
    (ap (λ t. c.args.out.now ++ t)
    (claim_parts q pos c.args.won ko _ c.first_turn.result c.letter.ensures c.first_turn.ensures))
    (puts_both c.args.out.now c.put_word.new.out c.write.new.out letter proof c.write.result
    c.in_ok-put_word.ensures.0 (c.write.ensures.puts same ko asked))
