use Rattle.std.proofs.Common.{◌≡◌, length, false}
use Rattle.session_core.specs.AfterLine.{IsAfterLine}
use Rattle.session_core.specs.SessionView.{machine_now, kept_of, step_of}
use Rattle.session.specs.Serving.{progress_of}
use Rattle.session.specs.Waiting.{none_wait}
use Rattle.session.proofs.RunEnds.{Served}
use Rattle.session.proofs.serve.serve.Given as goal

-- the lines of the bytes taken so far were answered up to the one that is held, and nothing failed
abbrev pub invariant-loop-room : goal.invariant-loop-room
invariant-loop-room g l = record {
  served : Served (step_of l.fn.server.session (g.L.Loader.contents l.fn.files)) IsAfterLine
      (machine_now (λ z. (goal.Helper-dyn g z).state z.1) l.fn.server.session)
      (machine_now (λ z. (goal.Helper-dyn g z).state z.1) l.server.session)
      (g.S.Source.left l.fn.input) (g.S.Source.left l.input)
      (progress_of (g.K.Sink.written l.fn.output)
      (kept_of (λ z. (goal.Helper-dyn g z).state z.1) l.fn.server.session (g.L.Loader.missed l.fn.files))
      l.fn.server.outbox.sent)
      (progress_of (g.K.Sink.written l.output)
      (kept_of (λ z. (goal.Helper-dyn g z).state z.1) l.server.session (g.L.Loader.missed l.files)) l.server.outbox.sent)
      l.lines.held l.room;
  same : l.server.session.matcher ≡ l.fn.server.session.matcher;
  contents : g.L.Loader.contents l.files ≡ g.L.Loader.contents l.fn.files;
  open_ended : l.lines.waits ≡ false;
  none : l.server.outbox.waiting ≡ none_wait;
  buffer : length l.buf ≡ 4096;
  input_faults : g.S.Source.faults l.input ≡ g.S.Source.faults l.fn.input;
  output_faults : g.K.Sink.faults l.output ≡ g.K.Sink.faults l.fn.output;
}

-- each piece has a byte
abbrev pub decreases-loop-room : goal.decreases-loop-room
decreases-loop-room g l = l.room
