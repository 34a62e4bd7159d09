-- What was written is the first text, and a proof of the code.
use Rattle.std.proofs.Common.{◌≡◌, ◌∙◌, ℕ, ◌<◌, List, [], ◌++◌, length, drop, ap, sym, subst}
use Rattle.go_rules.specs.Position.{BoardState}
use Rattle.read_rules.specs.declared.question.ReadingQuestion.{ReadingQuestion}
use Rattle.read_rules.specs.Answer.{answer_of, asked_in}
use Rattle.read_rules.proofs.RuleLemmas.{code-answer_of}
use Rattle.read_proof.specs.ProofOf.{codes_down_to, IsProofOf}
use Rattle.read_proof.specs.FirstProof.{first_words_of, first_text}
use Rattle.read_proof.proofs.QuestionLemmas.{about_asked}
use Rattle.read_proof.proofs.TextLemmas.{first_text_proves}
use Rattle.write_proof.specs.Printed.{behind_blanks}
use Rattle.write_proof.specs.Room.{most_bytes}
use Rattle.write_proof.proofs.PutLemmas.{text_words, some_text}
use Rattle.write_proof.proofs.WriteLemmas.{short_text, long_text}
use Rattle.write_proof.proofs.first.write_first.Goals as goal

-- the first text by the question that was asked and the code that was found
text_of : (q asked : ReadingQuestion) (pos : BoardState) (code : ℕ) → q ≡ asked → code ≡ (answer_of asked pos).code
    → drop 1 (behind_blanks (first_words_of q pos code (codes_down_to code))) ≡ first_text asked pos
text_of q asked pos code e is =
    ap (λ (m : ReadingQuestion). drop 1 (behind_blanks (first_words_of m pos code (codes_down_to code)))) e
    ∙ text_words asked pos code (is ∙ code-answer_of asked pos)

-- what was written are the words of the first proof, since nothing stood in front
words_put : (old new words : List ℕ) → old ≡ [] → new ≡ old ++ words → new ≡ words
words_put old new words none e = e ∙ ap (λ t. t ++ words) none

-- they have a first byte
pub returns-in-Ok-clause-some : goal.returns-in-Ok-clause-some
returns-in-Ok-clause-some c =
    let words = behind_blanks (first_words_of c.question_on-question.result c.args.pos.now c.code_of-code.result
    (codes_down_to c.code_of-code.result)) in
    subst (λ t. 0 < length t) (sym (words_put c.args.out.now c.words_of.new.out words c.requires.empty c.in-Ok.ensures.0))
    (some_text c.question_on-question.result c.args.pos.now c.code_of-code.result)

-- without it, they are the first text
pub returns-in-Ok-clause-text : goal.returns-in-Ok-clause-text
returns-in-Ok-clause-text c =
    let words = behind_blanks (first_words_of c.question_on-question.result c.args.pos.now c.code_of-code.result
    (codes_down_to c.code_of-code.result)) in
    ap (drop 1) (words_put c.args.out.now c.words_of.new.out words c.requires.empty c.in-Ok.ensures.0)
    ∙ text_of c.question_on-question.result
    (asked_in c.args.depths.tree c.args.pos.now c.args.of c.args.target c.args.depths.plies c.args.depths.wide)
    c.args.pos.now
    c.code_of-code.result c.question_on-question.ensures c.code_of-code.ensures.value

-- which is short
pub returns-in-Ok-clause-short : goal.returns-in-Ok-clause-short
returns-in-Ok-clause-short c =
    short_text c.words_of.new.out _ (returns-in-Ok-clause-text c) c.in-Ok.ensures.1

-- and a proof of the code
pub returns-in-Ok-clause-accepted : goal.returns-in-Ok-clause-accepted
returns-in-Ok-clause-accepted c =
    let pos = c.args.pos.now in
    let q = asked_in c.args.depths.tree pos c.args.of c.args.target c.args.depths.plies c.args.depths.wide in
    let here = c.size.ensures.position in
    subst (λ k. IsProofOf q pos k (drop 1 c.words_of.new.out)) (sym c.code_of-code.ensures.value)
    (subst (λ t. IsProofOf q pos (answer_of q pos).code t) (sym (returns-in-Ok-clause-text c))
    (first_text_proves q pos (record { at_least = here.size_at_least; at_most = here.size_at_most })
    c.requires.on_board
    (about_asked c.args.depths.tree pos c.args.of c.args.target c.args.depths.plies c.args.depths.wide
    c.requires.stone)))

-- there was no room for the words, so the text is too long
pub returns-in-Err-clause-too_long : goal.returns-in-Err-clause-too_long
returns-in-Err-clause-too_long c =
    let words = behind_blanks (first_words_of c.question_on-question.result c.args.pos.now c.code_of-code.result
    (codes_down_to c.code_of-code.result)) in
    long_text words _
    (text_of c.question_on-question.result
    (asked_in c.args.depths.tree c.args.pos.now c.args.of c.args.target c.args.depths.plies c.args.depths.wide)
    c.args.pos.now
    c.code_of-code.result c.question_on-question.ensures c.code_of-code.ensures.value)
    (subst (λ t. most_bytes < length (t ++ words)) c.requires.empty c.in-Err.ensures)
