-- The reply is one that the machine may give, and it is out or waits, or a reply broke off.
use Rattle.std.proofs.Common.{refl, ap, ◌∙◌, arith}
use Rattle.gtp_lex.specs.Raw.{raw_line}
use Rattle.machine_rules.specs.Heard.{heard}
use Rattle.session_core.specs.Kept.{Kept, machine_of}
use Rattle.session_core.specs.SessionView.{kept_of}
use Rattle.session_core.proofs.LineAnswers.{answers-line-left, if_err_map}
use Rattle.session.specs.Waiting.{output_of}
use Rattle.session.proofs.ReplyBytes.{turn-answered, turn-breaks}
use Rattle.session.proofs.ServeLemmas.{Answered-after, BreaksIn-after}
use Rattle.session.proofs.WaitingReplies.{if_ok_is, passed_up, none-stops}
use Rattle.session.proofs.serve.answer.Goals as goal

-- a line that was answered at once
pub returns-in-Ok-clause-ok : goal.returns-in-Ok-clause-ok
returns-in-Ok-clause-ok g c =
    let contents = g.L.Loader.contents c.args.files.now in
    let missed = g.L.Loader.missed c.args.files.now in
    let old = kept_of (λ z. (goal.Helper-dyn g z).state z.1) c.args.server.now.session missed in
    let new = kept_of (λ z. (goal.Helper-dyn g z).state z.1) c.try_line.new.self missed in
    if_ok_is _ c.send.result _ c.send.ensures.ends c.send.ensures.ok
    (λ sends. turn-answered _ old new (raw_line c.args.raw) _ _ c.stats.result c.in-Ok.reply
    (c.in-Ok.ensures.answers contents missed) c.stats.ensures (λ _ _. refl) sends)

-- the output failed within its reply, or before it
pub returns-in-Ok-clause-part : goal.returns-in-Ok-clause-part
returns-in-Ok-clause-part g c =
    let contents = g.L.Loader.contents c.args.files.now in
    let missed = g.L.Loader.missed c.args.files.now in
    let old = kept_of (λ z. (goal.Helper-dyn g z).state z.1) c.args.server.now.session missed in
    let new = kept_of (λ z. (goal.Helper-dyn g z).state z.1) c.try_line.new.self missed in
    let out = output_of (g.K.Sink.written c.args.output.now) c.args.server.now.outbox in
    if_err_map c.send.result
    (λ noted may. turn-breaks _ old new (raw_line c.args.raw) out out c.stats.result c.in-Ok.reply
    (c.in-Ok.ensures.answers contents missed) _ c.stats.ensures (λ _. refl) may)
    c.send.ensures.part

-- what waited broke off, and the line was not answered
pub returns-in_err-flush-in-Err-clause-part : goal.returns-in_err-flush-in-Err-clause-part
returns-in_err-flush-in-Err-clause-part g c = grind (arith, passed_up)

-- the points that a line names are on the board
pub finish-reply-requires-clause-within : goal.finish-reply-requires-clause-within
finish-reply-requires-clause-within g c = (c.in-Err.ensures.left (g.L.Loader.missed c.args.files.now)).within

-- and its parts lie in it
pub finish-reply-requires-clause-spans : goal.finish-reply-requires-clause-spans
finish-reply-requires-clause-spans g c = (c.in-Err.ensures.left (g.L.Loader.missed c.args.files.now)).spans

-- the line says what was left
pub finish-reply-requires-clause-says : goal.finish-reply-requires-clause-says
finish-reply-requires-clause-says g c =
    let left = c.in-Err.ensures.left (g.L.Loader.missed c.args.files.now) in
    ap (λ (k : Kept). heard (machine_of k) (raw_line c.args.raw)) left.same ∙ left.says

-- a line that was left was answered after what waited
pub returns-in_ok-flush-in-Err-clause-ok : goal.returns-in_ok-flush-in-Err-clause-ok
returns-in_ok-flush-in-Err-clause-ok g c =
    let contents = g.L.Loader.contents c.args.files.now in
    let missed = g.L.Loader.missed c.args.files.now in
    let line = raw_line c.args.raw in
    let old = kept_of (λ z. (goal.Helper-dyn g z).state z.1) c.args.server.now.session missed in
    let new = kept_of (λ z. (goal.Helper-dyn g z).state z.1) c.finish-reply.new.self
    (g.L.Loader.missed c.finish-reply.new.files) in
    let is = answers-line-left _ _ contents _ old line c.finish-reply.result new c.try_line.ensures.matcher
    (c.in-Err.ensures.left missed).same c.finish-reply.ensures.answers in
    if_ok_is _ c.send-in-Err.result _ c.send-in-Err.ensures.ends c.send-in-Err.ensures.ok
    (λ sends. Answered-after _ _ _ old _ _ _ c.in_ok-flush-in-Err.ensures.ok
    (turn-answered _ old new line
    (output_of (g.K.Sink.written c.flush.new.output) c.flush.new.self) _ c.stats-in-Err.result c.finish-reply.result is
    c.stats-in-Err.ensures
    (λ other there. absurd (none-stops _ other c.in_ok-flush-in-Err.ensures.none there)) sends))

-- the output failed within its reply
pub returns-in_ok-flush-in-Err-clause-part : goal.returns-in_ok-flush-in-Err-clause-part
returns-in_ok-flush-in-Err-clause-part g c =
    let contents = g.L.Loader.contents c.args.files.now in
    let missed = g.L.Loader.missed c.args.files.now in
    let line = raw_line c.args.raw in
    let old = kept_of (λ z. (goal.Helper-dyn g z).state z.1) c.args.server.now.session missed in
    let new = kept_of (λ z. (goal.Helper-dyn g z).state z.1) c.finish-reply.new.self
    (g.L.Loader.missed c.finish-reply.new.files) in
    let is = answers-line-left _ _ contents _ old line c.finish-reply.result new c.try_line.ensures.matcher
    (c.in-Err.ensures.left missed).same c.finish-reply.ensures.answers in
    let out = output_of (g.K.Sink.written c.flush.new.output) c.flush.new.self in
    if_err_map c.send-in-Err.result
    (λ noted may. BreaksIn-after _ _ old _ _ _ _ c.in_ok-flush-in-Err.ensures.ok
    (turn-breaks _ old new line out out c.stats-in-Err.result c.finish-reply.result is _ c.stats-in-Err.ensures
    (λ there. absurd (none-stops _ _ c.in_ok-flush-in-Err.ensures.none there)) may))
    c.send-in-Err.ensures.part
