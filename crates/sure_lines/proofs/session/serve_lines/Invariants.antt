-- The loop over the pieces of a source.
use Rattle.std.proofs.Common.{◌≡◌, length, false}
use Rattle.sure_lines.proofs.SessionLemmas.{IsSoFar}
use Rattle.sure_lines.proofs.session.serve_lines.Given as goal

-- the lines of the bytes taken so far were answered up to the one that is held
abbrev pub invariant-pieces : goal.invariant-pieces
invariant-pieces g l = record {
  so_far : IsSoFar (g.L.Loader.contents l.fn.files) l.fn.machine l.machine (g.S.Source.left l.fn.input)
      (g.S.Source.left l.input) (g.K.Sink.written l.fn.output) (g.K.Sink.written l.output) l.lines.held;
  contents : g.L.Loader.contents l.files ≡ g.L.Loader.contents l.fn.files;
  open_ended : l.lines.waits ≡ false;
  buffer : length l.buf ≡ 4096;
}

-- each piece has a byte
abbrev pub decreases-pieces : goal.decreases-pieces
decreases-pieces g l = l.room
