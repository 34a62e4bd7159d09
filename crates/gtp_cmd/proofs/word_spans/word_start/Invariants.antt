use Rattle.std.proofs.Common.{◌≡◌}
use Rattle.gtp_cmd.specs.Spans.{spans_at}
use Rattle.gtp_cmd.proofs.word_spans.word_start.Given as goal

-- no word begins before the place that is read
abbrev pub invariant-loop-i : goal.invariant-loop-i
invariant-loop-i l = spans_at l.text l.place ≡ spans_at l.text l.i
