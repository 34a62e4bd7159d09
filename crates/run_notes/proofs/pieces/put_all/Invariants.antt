use Rattle.std.proofs.Common.{◌≡◌, List, ℕ, ◌++◌, length}
use Rattle.std.specs.Io.KnownBytes.{Appends}
use Rattle.run_notes.proofs.pieces.put_all.Given as goal

-- some bytes were put, and the rest is left
abbrev pub invariant-loop-rest : goal.invariant-loop-rest
invariant-loop-rest g l = record {
  put : (done : List ℕ) × (l.fn.bytes ≡ done ++ l.rest)
      × Appends (g.K.Sink.written l.fn.sink) (g.K.Sink.written l.sink) done;
  faults : g.K.Sink.faults l.sink ≡ g.K.Sink.faults l.fn.sink;
}

-- each put takes a byte
abbrev pub decreases-loop-rest : goal.decreases-loop-rest
decreases-loop-rest g l = length l.rest
