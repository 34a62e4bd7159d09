-- A line is answered at once, or by what was left of it.
use Rattle.std.proofs.Common.{ap, ◌∙◌}
use Rattle.gtp_lex.specs.Raw.{raw_line}
use Rattle.machine_rules.specs.Heard.{heard}
use Rattle.session_core.specs.Kept.{Kept, machine_of}
use Rattle.session_core.proofs.LineAnswers.{answers-line-left}
use Rattle.session_core.proofs.session.Session.line.Goals as goal

-- a line was answered at once, and no file was loaded
pub returns-in-Ok-clause-answers : goal.returns-in-Ok-clause-answers
returns-in-Ok-clause-answers g c =
    c.in-Ok.ensures.answers (g.L.Loader.contents c.args.files.now) (g.L.Loader.missed c.args.files.now)

-- the points that a line names are on the board
pub finish-requires-clause-within : goal.finish-requires-clause-within
finish-requires-clause-within g c = (c.in-Err.ensures.left (g.L.Loader.missed c.args.files.now)).within

-- and its parts lie in it
pub finish-requires-clause-spans : goal.finish-requires-clause-spans
finish-requires-clause-spans g c = (c.in-Err.ensures.left (g.L.Loader.missed c.args.files.now)).spans

-- the line says what was left
pub finish-requires-clause-says : goal.finish-requires-clause-says
finish-requires-clause-says g c =
    let left = c.in-Err.ensures.left (g.L.Loader.missed c.args.files.now) in
    ap (λ (k : Kept). heard (machine_of k) (raw_line c.args.raw)) left.same ∙ left.says

-- a line that was left is answered
pub returns-in-Err-clause-answers : goal.returns-in-Err-clause-answers
returns-in-Err-clause-answers g c =
    answers-line-left _ _ (g.L.Loader.contents c.args.files.now) _ _ (raw_line c.args.raw) c.finish.result _
    c.try_line.ensures.matcher (c.in-Err.ensures.left (g.L.Loader.missed c.args.files.now)).same
    c.finish.ensures.answers
