use Rattle.std.proofs.Common.{◌≡◌, length, false}
use Rattle.gtp_lex.specs.Held.{lines_from, held_from}
use Rattle.session_core.specs.SessionView.{kept_of, step_of}
use Rattle.session.specs.Answered.{standing}
use Rattle.session.proofs.ServeLemmas.{PieceSoFar}
use Rattle.session.proofs.serve.answer_piece.Given as goal

-- some of the piece's lines were answered, and those of the rest are left
abbrev pub invariant-loop-rest : goal.invariant-loop-rest
invariant-loop-rest g l = record {
  answered : PieceSoFar (step_of l.fn.server.session (g.L.Loader.contents l.fn.files))
      (lines_from l.fn.lines.held l.fn.piece) (lines_from l.lines.held l.rest)
      (standing (kept_of (λ z. (goal.Helper-dyn g z).state z.1) l.fn.server.session (g.L.Loader.missed l.fn.files))
      (g.K.Sink.written l.fn.output) l.fn.server.outbox)
      (standing (kept_of (λ z. (goal.Helper-dyn g z).state z.1) l.server.session (g.L.Loader.missed l.files))
      (g.K.Sink.written l.output) l.server.outbox);
  held : held_from l.fn.lines.held l.fn.piece ≡ held_from l.lines.held l.rest;
  same : l.server.session.matcher ≡ l.fn.server.session.matcher;
  contents : g.L.Loader.contents l.files ≡ g.L.Loader.contents l.fn.files;
  open_ended : l.lines.waits ≡ false;
  faults : g.K.Sink.faults l.output ≡ g.K.Sink.faults l.fn.output;
}

-- each turn takes a byte
abbrev pub decreases-loop-rest : goal.decreases-loop-rest
decreases-loop-rest g l = length l.rest
