use Rattle.std.proofs.Common.{◌≡◌, ◌+◌, drop}
use Rattle.session.specs.Waiting.{gone, counts_at}
use Rattle.session.proofs.outbox.cut_at.Given as goal

-- the marks before this one end within the place
abbrev pub invariant-loop-at : goal.invariant-loop-at
invariant-loop-at l = record {
  gone : gone l.marks l.place ≡ l.at + gone (drop l.at l.marks) l.place;
  counts : counts_at l.marks l.place ≡ counts_at (drop l.at l.marks) l.place;
}
