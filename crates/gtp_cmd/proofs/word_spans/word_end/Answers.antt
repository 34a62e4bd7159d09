-- How a word is read to its end.
use Rattle.std.proofs.Common.{sym, subst, ◌∙◌, ◌+◌}
use Rattle.gtp_cmd.proofs.SpanLemmas.{ReadsWord, ReadsWord-first, ReadsWord-step, ReadsWord-parting, ReadsWord-end}
use Rattle.gtp_cmd.proofs.word_spans.word_end.Goals as goal

-- its first byte is read
pub loop-i-init : goal.loop-i-init
loop-i-init c = ReadsWord-first c.args.text.now c.args.start c.requires.inside c.requires.word

-- one more byte is read
pub loop-i-preserved : goal.loop-i-preserved
loop-i-preserved c =
    subst (λ end. ReadsWord c.args.text.now c.args.start end (c.loop-i.i + 1)) (sym c.end_after-end.ensures)
    (ReadsWord-step c.args.text.now c.args.start c.loop-i.end c.loop-i.i c.loop-i-test.true
    (sym c.is_parting.ensures ∙ c.if-is_parting.false) c.loop-i.invariant)

-- the word ends before this byte
pub returns-then-is_parting-clause-spans : goal.returns-then-is_parting-clause-spans
returns-then-is_parting-clause-spans c =
    ReadsWord-parting c.args.text.now c.args.start c.loop-i.end c.loop-i.i c.loop-i-test.true
    (sym c.is_parting.ensures ∙ c.if-is_parting.true) c.loop-i.invariant

-- the word ends with the text
pub returns-clause-spans : goal.returns-clause-spans
returns-clause-spans c =
    ReadsWord-end c.args.text.now c.args.start c.loop-i.end c.loop-i.i c.loop-i-test.false c.loop-i.invariant
