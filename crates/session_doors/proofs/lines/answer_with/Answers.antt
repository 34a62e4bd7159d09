-- A line is answered without helpers, where each file is empty.
use Rattle.std.proofs.Common.{refl}
use Rattle.session_doors.proofs.Alone.{answers-held, on_empty_shelf}
use Rattle.session_doors.proofs.lines.answer_with.Goals as goal

-- the line was answered
pub returns : goal.returns
returns g c = record {
  line = answers-held (λ z. (goal.Helper-dyn g z).state z.1) _
      (record { engine = c.args.session.engine; matcher = c.args.session.matcher; helpers = c.args.helpers })
      c.line-reply.new.self _ _ _ _ _
      (on_empty_shelf _ _ _ _ _ c.new-files.ensures c.new.ensures.items c.new-2.ensures.items) c.requires refl refl
      c.raw_of.ensures c.line-reply.ensures.answers;
  matcher = c.line-reply.ensures.matcher;
}
