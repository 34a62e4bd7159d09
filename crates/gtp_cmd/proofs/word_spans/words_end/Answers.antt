-- How words are read to the end of the text.
use Rattle.std.proofs.Common.{sym, subst, ◌+◌}
use Rattle.gtp_cmd.proofs.SpanLemmas.{ReadsWords, ReadsWords-first, ReadsWords-step, ReadsWords-end}
use Rattle.gtp_cmd.proofs.word_spans.words_end.Goals as goal

-- the first byte is read
pub loop-i-init : goal.loop-i-init
loop-i-init c = ReadsWords-first c.args.text.now c.args.start c.requires.inside c.requires.word

-- one more byte is read
pub loop-i-preserved : goal.loop-i-preserved
loop-i-preserved c =
    subst (λ end. ReadsWords c.args.text.now c.args.start end (c.loop-i.i + 1)) (sym c.word_end_after-end.ensures)
    (ReadsWords-step c.args.text.now c.args.start c.loop-i.end c.loop-i.i c.loop-i-test.true c.loop-i.invariant)

-- the last word ends with the text or before
pub returns-clause-spans : goal.returns-clause-spans
returns-clause-spans c =
    ReadsWords-end c.args.text.now c.args.start c.loop-i.end c.loop-i.i c.loop-i-test.false c.loop-i.invariant
