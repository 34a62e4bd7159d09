-- The line is answered by the step, and its reply is put.
use Rattle.std.proofs.Common.{Bool, sym, subst}
use Rattle.gtp_lex.specs.Raw.{raw_line}
use Rattle.gtp_rules.specs.Transcript.{MayAnswer}
use Rattle.sure_lines.specs.Replies.{reply_bytes}
use Rattle.sure_lines.specs.SureStep.{step}
use Rattle.sure_lines.proofs.SessionLemmas.{if_ok_map, answered-one}
use Rattle.sure_lines.proofs.session.answer.Goals as goal

-- one line was answered
pub returns-clause-answered : goal.returns-clause-answered
returns-clause-answered g c =
    let contents = g.L.Loader.contents c.args.files.now in
    let old = c.args.machine.now in
    let new = c.line-reply.new.self in
    let line = raw_line c.args.raw in
    let out = reply_bytes c.line-reply.result in
    if_ok_map c.send.result
    (λ ends said. answered-one contents old new line out _ _ ends
    (subst (λ (e : Bool). MayAnswer (step contents) old line out new e) (sym said.0) c.line-reply.ensures.answers)
    said.1)
    c.send.ensures
