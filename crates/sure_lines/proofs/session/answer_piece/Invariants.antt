-- The loop over the lines that end in a piece.
use Rattle.std.proofs.Common.{◌≡◌, length, false}
use Rattle.gtp_lex.specs.Held.{lines_from, held_from}
use Rattle.sure_lines.proofs.SessionLemmas.{IsPieceSoFar}
use Rattle.sure_lines.proofs.session.answer_piece.Given as goal

-- some of the piece's lines were answered, and those of the rest are left
abbrev pub invariant-lines : goal.invariant-lines
invariant-lines g l = record {
  so_far : IsPieceSoFar (g.L.Loader.contents l.fn.files) l.fn.machine l.machine
      (lines_from l.fn.lines.held l.fn.piece) (lines_from l.lines.held l.rest) (g.K.Sink.written l.fn.output)
      (g.K.Sink.written l.output);
  held : held_from l.fn.lines.held l.fn.piece ≡ held_from l.lines.held l.rest;
  contents : g.L.Loader.contents l.files ≡ g.L.Loader.contents l.fn.files;
  open_ended : l.lines.waits ≡ false;
}

-- each turn takes a byte
abbrev pub decreases-lines : goal.decreases-lines
decreases-lines g l = length l.rest
