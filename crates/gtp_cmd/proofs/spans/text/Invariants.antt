use Rattle.std.proofs.Common.{◌≡◌, take}
use Rattle.gtp_cmd.specs.Words.{plain}
use Rattle.gtp_cmd.proofs.spans.text.Given as goal

-- the bytes so far were put as they are read
abbrev pub invariant-loop-b : goal.invariant-loop-b
invariant-loop-b l = l.out ≡ plain (take l.b-index l.part)
