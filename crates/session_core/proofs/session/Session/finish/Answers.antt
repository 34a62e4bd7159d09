-- What may take long was done, and its line is answered.
use Rattle.gtp_lex.specs.Raw.{raw_line}
use Rattle.session_core.specs.SlowLines.{said_by}
use Rattle.session_core.proofs.LineAnswers.{answers-line-by}
use Rattle.session_core.proofs.session.Session.finish.Goals as goal

-- the line that says this is answered
pub returns-clause-answers : goal.returns-clause-answers
returns-clause-answers g c =
    let done = c.finish.ensures.answers in
    answers-line-by _ _ _ (raw_line c.args.raw) (said_by c.args.slow) c.finish.result _ c.bytes_of.result.now done.0
    c.bytes_of.ensures c.requires.says done.1 done.2
