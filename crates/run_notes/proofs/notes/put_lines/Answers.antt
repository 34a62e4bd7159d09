-- The lines before went out whole, and a front of the line at which the sink failed.
use Rattle.std.proofs.Common.{◌++◌}
use Rattle.std.proofs.lemmas.Result.{on_err_weaker}
use Rattle.std.specs.List.{concat}
use Rattle.std.proofs.KnownBytes.{Appends-trans}
use Rattle.run_notes.specs.Notes.{counts_line, sent_line}
use Rattle.run_notes.proofs.PutLemmas.{fails_early, fails_later, on_err_from}
use Rattle.run_notes.proofs.notes.put_lines.Goals as goal

-- if the sink fails in the line of the counts, it got a front of that line
pub returns-in_err-put_some_counts-clause-part : goal.returns-in_err-put_some_counts-clause-part
returns-in_err-put_some_counts-clause-part g c =
    let a = g.D.Sink.written c.args.notes.now in
    let b = g.D.Sink.written c.put_some_counts.new.notes in
    on_err_from _ (fails_early a b (counts_line c.args.counts ++ sent_line c.args.sent) (concat c.args.last.now)
    (fails_early a b (counts_line c.args.counts) (sent_line c.args.sent) c.in_err-put_some_counts.ensures.part))

-- if it fails in the line of what was sent, it got the counts and a front of that line
pub returns-in_err-put_some_sent-clause-part : goal.returns-in_err-put_some_sent-clause-part
returns-in_err-put_some_sent-clause-part g c =
    let a = g.D.Sink.written c.args.notes.now in
    let b = g.D.Sink.written c.put_some_counts.new.notes in
    let d = g.D.Sink.written c.put_some_sent.new.notes in
    on_err_from _ (fails_early a d (counts_line c.args.counts ++ sent_line c.args.sent) (concat c.args.last.now)
    (fails_later a b d (counts_line c.args.counts)
    (sent_line c.args.sent) c.in_ok-put_some_counts.ensures.ok c.in_err-put_some_sent.ensures.part))

-- if it fails in the last line, it got the lines before and a front of the last
pub returns-clause-part : goal.returns-clause-part
returns-clause-part g c =
    let a = g.D.Sink.written c.args.notes.now in
    let b = g.D.Sink.written c.put_some_counts.new.notes in
    let d = g.D.Sink.written c.put_some_sent.new.notes in
    let e = g.D.Sink.written c.put_pieces.new.sink in
    on_err_weaker c.put_pieces.result
    (λ part. fails_later a d e (counts_line c.args.counts ++ sent_line c.args.sent) (concat c.args.last.now)
    (Appends-trans a b d (counts_line c.args.counts)
    (sent_line c.args.sent) c.in_ok-put_some_counts.ensures.ok c.in_ok-put_some_sent.ensures.ok) part)
    c.put_pieces.ensures.part
