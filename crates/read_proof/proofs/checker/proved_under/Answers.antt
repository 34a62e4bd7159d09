use Rattle.std.proofs.Common.{◌∙◌, ap, sym, true, false, arith}
use Rattle.std.specs.Str.{bytes_eq}
use Rattle.vertices.specs.Words.{kept}
use Rattle.read_rules.specs.declared.node.Node.{Node}
use Rattle.read_proof.specs.Tokens.{words_in}
use Rattle.read_proof.specs.Proves.{proves}
use Rattle.read_proof.specs.ProofOf.{claim_under, letter_of}
use Rattle.read_proof.proofs.StepLemmas.{under_none, under_letter}
use Rattle.read_proof.proofs.checker.proved_under.Goals as goal

-- no word is left
pub returns-in_err-word : goal.returns-in_err-word
returns-in_err-word c = grind (arith, under_none)

-- the word is not the letter of the claim
pub returns-then-not-is_letter : goal.returns-then-not-is_letter
returns-then-not-is_letter c =
    under_letter c.args.question.now c.args.pos.now _ c.args.more (words_in c.args.text.now) _ _ false
    c.in_ok-word.ensures (ap (λ b. bytes_eq (kept c.in_ok-word.word.now) (letter_of b)) (sym c.claim_under-won.ensures)
    ∙ sym c.is_letter.ensures ∙ c.if-not-is_letter.true)

-- it is, and the rest is the proof at the first node
pub returns : goal.returns
returns c =
    let same = ap (λ won. proves c.args.question.now.plies won c.first_node.result c.args.pos.now
    (words_in c.in_ok-word.rest.now)) c.claim_under-won.ensures
    ∙ ap (λ (m : Node). proves c.args.question.now.plies (claim_under c.args.question.now c.args.code c.args.more) m
    c.args.pos.now (words_in c.in_ok-word.rest.now)) c.first_node.ensures in
    rw (under_letter c.args.question.now c.args.pos.now _ c.args.more (words_in c.args.text.now) _ _ true
    c.in_ok-word.ensures (ap (λ b. bytes_eq (kept c.in_ok-word.word.now) (letter_of b)) (sym c.claim_under-won.ensures)
    ∙ sym c.is_letter.ensures ∙ c.if-not-is_letter.false) ∙ sym same) c.proved.ensures
