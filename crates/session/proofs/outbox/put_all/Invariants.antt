use Rattle.std.proofs.Common.{◌≡◌, ◌≤◌, ◌-◌, length, take}
use Rattle.session.specs.Serving.{Puts}
use Rattle.session.proofs.outbox.put_all.Given as goal

-- the first bytes were put
abbrev pub invariant-loop-done : goal.invariant-loop-done
invariant-loop-done g l = record {
  put : Puts (g.K.Sink.written l.fn.output) (g.K.Sink.written l.output) l.fn.sent l.sent (take l.done l.bytes);
  within : l.done ≤ length l.bytes;
  faults : g.K.Sink.faults l.output ≡ g.K.Sink.faults l.fn.output;
}

-- each put takes a byte
abbrev pub decreases-loop-done : goal.decreases-loop-done
decreases-loop-done g l = length l.bytes - l.done
