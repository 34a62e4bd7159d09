-- The loop over the bytes.
use Rattle.std.proofs.Common.{◌≤◌, ◌-◌, length, take}
use Rattle.std.specs.Io.KnownBytes.{Appends}
use Rattle.sure_lines.proofs.session.put_all.Given as goal

-- the first bytes were put
abbrev pub invariant-puts : goal.invariant-puts
invariant-puts g l = record {
  put : Appends (g.K.Sink.written l.fn.output) (g.K.Sink.written l.output) (take l.done l.bytes);
  within : l.done ≤ length l.bytes;
}

-- each put takes a byte
abbrev pub decreases-puts : goal.decreases-puts
decreases-puts g l = length l.bytes - l.done
